use Rattle.std.proofs.Common.{◌≡◌, drop}
use Rattle.std.specs.Prelude.{not}
use Rattle.std.specs.List.{list_all}
use Rattle.tq_devtab.specs.Table.{entry_view}
use Rattle.tq_devtab.specs.TableParts.{are_alike, spaces_of}
use Rattle.tq_devtab.proofs.spaces.is_new.Given as goal

abbrev pub invariant-loop-entry : goal.invariant-loop-entry
invariant-loop-entry l =
    list_all (λ other. not (are_alike (entry_view l.space) other)) (spaces_of (drop l.entry-index l.entries))
    ≡ list_all (λ other. not (are_alike (entry_view l.space) other)) (spaces_of l.entries)
