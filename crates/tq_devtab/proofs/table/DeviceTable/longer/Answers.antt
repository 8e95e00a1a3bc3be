use Rattle.std.proofs.Common.{◌∙◌, List, Option, sym, ap, subst}
use Rattle.tq_devtab.specs.Table.{AreReached, entries_view, entry_view, entry_of}
use Rattle.tq_devtab.specs.Volume.{most_bytes}
use Rattle.tq_devtab.specs.declared.entry.TableEntry.{TableEntry}
use Rattle.tq_devtab.proofs.LongerLemmas.{space_reached}
use Rattle.tq_devtab.proofs.table.DeviceTable.longer.Goals as goal

pub joined-requires-clause-extents : goal.joined-requires-clause-extents
joined-requires-clause-extents c =
    let t = c.args.self.now in
    let n = entry_view c.in-Some.space.now in
    let found = sym (ap (λ (l : List (Option TableEntry)). entry_of c.args.ordinal (entries_view l)) c.as_slice.ensures.value) ∙ c.in-Some.ensures.some in
    subst (AreReached most_bytes) (sym c.as_slice-2.ensures) (space_reached t.next t.clusters most_bytes c.args.ordinal (entries_view t.entries.items) n t.table found)
