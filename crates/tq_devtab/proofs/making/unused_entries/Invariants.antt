use Rattle.std.proofs.Common.{◌≡◌, None, replicate}
use Rattle.tq_devtab.specs.Table.{entries_view}
use Rattle.tq_devtab.proofs.making.unused_entries.Given as goal

-- as many are there as were counted
abbrev pub invariant-loop-entry : goal.invariant-loop-entry
invariant-loop-entry l = entries_view l.entries.items ≡ replicate l._entry None
