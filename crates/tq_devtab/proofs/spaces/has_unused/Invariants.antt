use Rattle.std.proofs.Common.{◌≡◌, drop, length}
use Rattle.std.specs.Prelude.{nat_lt}
use Rattle.tq_devtab.specs.TableParts.{spaces_of}
use Rattle.tq_devtab.proofs.spaces.has_unused.Given as goal

abbrev pub invariant-loop-entry : goal.invariant-loop-entry
invariant-loop-entry l =
    nat_lt (length (spaces_of (drop l.entry-index l.entries))) (length (drop l.entry-index l.entries))
    ≡ nat_lt (length (spaces_of l.entries)) (length l.entries)
