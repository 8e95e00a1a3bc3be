use Rattle.std.proofs.Common.{◌≡◌, ◌∙◌, ◌≤◌, List, Option, Some, sym, ap, subst, arith}
use Rattle.std.proofs.lemmas.Result.{IfOk-weaker}
use Rattle.tq_model.specs.Reading.{NamedSpace}
use Rattle.tq_extent.specs.Clusters.{clusters_of}
use Rattle.tq_extent.specs.Pages.{page_count, AreMappable}
use Rattle.tq_devtab.specs.Table.{entries_view, entry_view, entry_of}
use Rattle.tq_devtab.specs.Volume.{most_bytes}
use Rattle.tq_devtab.specs.declared.entry.TableEntry.{TableEntry}
use Rattle.tq_devtab.proofs.OwnerLemmas.{entry_place}
use Rattle.tq_devtab.proofs.ReserveLemmas.{space_mappable, space_enough}
use Rattle.tq_devtab.proofs.table.DeviceTable.map.Goals as goal

pub of-requires : goal.of-requires
of-requires c =
    let t = c.args.self.now in
    let entries = entries_view t.entries.items in
    let n = entry_view c.in-Some.space.now in
    let found = sym (ap (λ (l : List (Option TableEntry)). entry_of c.args.ordinal (entries_view l)) c.as_slice.ensures.value) ∙ c.in-Some.ensures.some in
    let place = entry_place c.args.ordinal entries n found in
    subst AreMappable (sym c.as_slice-in-Some.ensures)
    (space_mappable t.next t.clusters most_bytes entries place.index n t.table place.at (omega arith) t.most)

pub returns-clause-enough : goal.returns-clause-enough
returns-clause-enough c =
    let t = c.args.self.now in
    let entries = entries_view t.entries.items in
    let own = entry_view c.in-Some.space.now in
    let here = sym (ap (λ (l : List (Option TableEntry)). entry_of c.args.ordinal (entries_view l)) c.as_slice.ensures.value) ∙ c.in-Some.ensures.some in
    IfOk-weaker c.of.result (λ map. map ≡ clusters_of c.as_slice-in-Some.result.now)
    (λ map. (n : NamedSpace) → entry_of c.args.ordinal entries ≡ Some n → n.pages ≤ page_count map)
    (λ map is n found.
    let place = entry_place c.args.ordinal entries n found in
    let one : own ≡ n = let both = sym here ∙ found in cc in
    let same = is ∙ ap clusters_of c.as_slice-in-Some.ensures ∙ ap (λ (k : NamedSpace). clusters_of k.extents) one in
    subst (λ clusters. n.pages ≤ page_count clusters) (sym same)
    (space_enough t.next t.clusters most_bytes entries place.index n t.table place.at)) c.of.ensures
