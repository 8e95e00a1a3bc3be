use Rattle.tq_devtab.specs.Table.{entries_view}
use Rattle.tq_devtab.proofs.DecodedEntryLemmas.{AreRead}
use Rattle.tq_devtab.proofs.decoding.decode_entries.Given as goal

abbrev pub invariant-loop-index : goal.invariant-loop-index
invariant-loop-index l = AreRead l.limits.next l.limits.clusters l.limits.size l.index l.extents (entries_view l.entries.items) l.base
