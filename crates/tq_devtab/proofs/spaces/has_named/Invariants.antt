use Rattle.std.proofs.Common.{◌≡◌, drop}
use Rattle.std.specs.Prelude.{not}
use Rattle.std.specs.List.{list_all}
use Rattle.std.specs.Str.{bytes_eq}
use Rattle.tq_devtab.specs.TableParts.{spaces_of}
use Rattle.tq_devtab.proofs.spaces.has_named.Given as goal

abbrev pub invariant-loop-entry : goal.invariant-loop-entry
invariant-loop-entry l =
    list_all (λ m. not (bytes_eq l.name m.name)) (spaces_of (drop l.entry-index l.entries))
    ≡ list_all (λ m. not (bytes_eq l.name m.name)) (spaces_of l.entries)
