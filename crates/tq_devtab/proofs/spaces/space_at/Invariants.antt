use Rattle.std.proofs.Common.{◌≡◌, true, take}
use Rattle.std.specs.List.{list_all}
use Rattle.tq_devtab.specs.Table.{entries_view}
use Rattle.tq_devtab.proofs.PlaceLemmas.{is_other}
use Rattle.tq_devtab.proofs.spaces.space_at.Given as goal

abbrev pub invariant-loop-index : goal.invariant-loop-index
invariant-loop-index l = list_all (is_other l.ordinal) (take l.index (entries_view l.entries)) ≡ true
