use Rattle.std.proofs.Common.{◌≡◌, drop}
use Rattle.tq_model.specs.Reading.{no_two}
use Rattle.tq_devtab.specs.TableParts.{are_alike, spaces_of}
use Rattle.tq_devtab.proofs.spaces.are_distinct.Given as goal

abbrev pub invariant-loop-index : goal.invariant-loop-index
invariant-loop-index l = no_two are_alike (spaces_of (drop l.index l.entries)) ≡ no_two are_alike (spaces_of l.entries)
