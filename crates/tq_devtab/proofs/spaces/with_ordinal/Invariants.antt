use Rattle.std.proofs.Common.{◌≡◌, drop}
use Rattle.tq_devtab.specs.Table.{entries_view, entry_of}
use Rattle.tq_devtab.proofs.spaces.with_ordinal.Given as goal

abbrev pub invariant-loop-entry : goal.invariant-loop-entry
invariant-loop-entry l = entry_of l.ordinal (entries_view (drop l.entry-index l.entries)) ≡ entry_of l.ordinal (entries_view l.entries)
