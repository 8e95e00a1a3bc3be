use Rattle.std.proofs.Common.{◌≡◌, true, take, Option}
use Rattle.std.specs.Prelude.{is_some}
use Rattle.std.specs.List.{list_all}
use Rattle.tq_model.specs.Reading.{NamedSpace}
use Rattle.tq_devtab.specs.Table.{entries_view}
use Rattle.tq_devtab.proofs.spaces.lowest_unused.Given as goal

abbrev pub invariant-loop-index : goal.invariant-loop-index
invariant-loop-index l = list_all (λ (o : Option NamedSpace). is_some o) (take l.index (entries_view l.entries)) ≡ true
