-- How many clusters are free, by the pages of the spaces one after another.
use Rattle.std.proofs.Common.{◌≡◌, ◌<◌, ◌≤◌, ℕ, ◌+◌, ◌-◌, ◌*◌, Bool, true, false, List, [], ◌∷◌, length, get_or, drop, Option, Some, refl, sym, ap, ◌∙◌, arith}
use Rattle.std.specs.Prelude.{◌==◌, cond, nat_le, nat_lt}
use Rattle.std.specs.Ordering.{is_lt, nat_cmp, ord_max}
use Rattle.std.specs.List.{list_all, sum_by}
use Rattle.std.proofs.lemmas.Bool.{and_parts, and_from, eq-eqb, eqb-true, leb-true, le-leb, ltb-true}
use Rattle.std.proofs.lemmas.Bool.Decides.{nat_tests}
use Rattle.std.proofs.lemmas.List.{drop_more}
use Rattle.std.proofs.lemmas.List.Sums.{sum_by-cons}
use Rattle.std.proofs.lemmas.List.Folds.{list_all-append}
use Rattle.tq_model.specs.declared.answer.Extent.{Extent}
use Rattle.tq_model.specs.DeviceForm.{cluster_bytes}
use Rattle.tq_model.specs.Site.{present, clusters_for, most_clusters, numbers_from}
use Rattle.tq_model.specs.Reading.{NamedSpace}
use Rattle.tq_extent.specs.Clusters.{clusters_of}
use Rattle.tq_extent.proofs.ClusterLemmas.{all-at-number}
use Rattle.tq_extent.proofs.ExtentLemmas.{all-get}
use Rattle.tq_devtab.specs.Table.{IsTable, entry_view}
use Rattle.tq_devtab.specs.TableParts.{spaces_of}
use Rattle.tq_devtab.specs.Volume.{most_bytes}
use Rattle.tq_devtab.specs.declared.entry.TableEntry.{TableEntry}
use Rattle.tq_devtab.proofs.EntryLemmas.{entry_holds, entry_parts, table_parts}
use Rattle.tq_devtab.proofs.ListLemmas.{all-weaker}
use Rattle.tq_devtab.proofs.OwnerLemmas.{taken_by}
use Rattle.tq_devtab.proofs.SpaceLemmas.{next-space}

-- a space has the clusters for its pages
abbrev pub has_its_clusters : NamedSpace → Bool
has_its_clusters n = sum_by (λ (e : Extent). e.count) n.extents == clusters_for n.pages

pub all_have_clusters : (next clusters size : ℕ) (entries : List (Option NamedSpace)) → IsTable next clusters size entries
    → list_all has_its_clusters (present entries) ≡ true
all_have_clusters next clusters size entries table =
    all-weaker (entry_holds next clusters size) has_its_clusters (present entries)
    (λ n holds. eq-eqb (sum_by (λ (e : Extent). e.count) n.extents) (clusters_for n.pages) (entry_parts next clusters size n holds).count)
    (table_parts next clusters size entries table).each

-- the clusters of the spaces that are left, and those of the next one
pub next_taken : (entries : List (Option TableEntry)) (i : ℕ) (item : Option TableEntry) (e : TableEntry) → i < length entries
    → item ≡ get_or entries i item → item ≡ Some e → list_all has_its_clusters (spaces_of (drop i entries)) ≡ true
    → (taken_by (spaces_of (drop i entries)) ≡ clusters_for e.pages + taken_by (spaces_of (drop (i + 1) entries)))
    × (list_all has_its_clusters (spaces_of (drop (i + 1) entries)) ≡ true)
next_taken entries i item e lt stands is all =
    let n = entry_view e in
    let rest = spaces_of (drop (i + 1) entries) in
    let next = ap spaces_of (next-space entries i item e lt stands is) in
    let parts = and_parts (has_its_clusters n) (list_all has_its_clusters rest) (sym (ap (list_all has_its_clusters) next) ∙ all) in
    let own = eqb-true (sum_by (λ (x : Extent). x.count) n.extents) (clusters_for n.pages) parts.0 in
    let sum = ap taken_by next ∙ sum_by-cons (λ (m : NamedSpace). sum_by (λ (x : Extent). x.count) m.extents) n rest in
    (omega arith, parts.1)

-- ---- where extents end

-- a device of so many bytes reaches to the end of an extent
abbrev pub ends_by : ℕ → Extent → Bool
ends_by size e = nat_le (cluster_bytes * (e.first + e.count)) size

-- that of the largest device does
pub ends-most : (extents : List Extent) → list_all (λ (e : Extent). nat_le 1 e.count) extents ≡ true
    → list_all (λ cluster. nat_lt cluster most_clusters) (clusters_of extents) ≡ true → list_all (ends_by most_bytes) extents ≡ true
ends-most [] some within = refl
ends-most (e ∷ extents) some within =
    let below = λ (cluster : ℕ). nat_lt cluster most_clusters in
    let counts = and_parts (nat_le 1 e.count) (list_all (λ (x : Extent). nat_le 1 x.count) extents) some in
    let parts = and_parts (list_all below (numbers_from e.first e.count)) (list_all below (clusters_of extents))
    (sym (list_all-append below (numbers_from e.first e.count) (clusters_of extents)) ∙ within) in
    let one = leb-true 1 e.count counts.0 in
    let last = e.first + (e.count - 1) in
    let end = ltb-true last most_clusters (all-at-number below e.first e.count last parts.0 (omega arith) (omega arith)) in
    and_from (ends_by most_bytes e) (list_all (ends_by most_bytes) extents)
    (le-leb (cluster_bytes * (e.first + e.count)) most_bytes (omega arith)) (ends-most extents counts.1 parts.1)

max-below : (a b size : ℕ) → a ≤ size → b ≤ size → ord_max nat_cmp a b ≤ size
max-below a b size one other = elim (is_lt (nat_cmp b a)) as (λ t. cond t a b ≤ size) [ true ↦ one | false ↦ other ]

max-parts : (a b size : ℕ) → ord_max nat_cmp a b ≤ size → (a ≤ size) × (b ≤ size)
max-parts a b size le = (grind (arith, nat_tests), grind (arith, nat_tests))

-- one extent more
pub ends_more : (extents : List Extent) (i end : ℕ) (d : Extent) → i < length extents
    → ((size : ℕ) → end ≤ size → list_all (ends_by size) (drop i extents) ≡ true → list_all (ends_by size) extents ≡ true)
    → (size : ℕ) → ord_max nat_cmp end (cluster_bytes * ((get_or extents i d).first + (get_or extents i d).count)) ≤ size
    → list_all (ends_by size) (drop (i + 1) extents) ≡ true → list_all (ends_by size) extents ≡ true
ends_more extents i end d lt before size le rest =
    let e = get_or extents i d in
    let parts = max-parts end (cluster_bytes * (e.first + e.count)) size le in
    before size parts.0
    (ap (list_all (ends_by size)) (drop_more extents i d lt)
    ∙ and_from (ends_by size e) (list_all (ends_by size) (drop (i + 1) extents)) (le-leb (cluster_bytes * (e.first + e.count)) size parts.1) rest)

pub end_least : (extents : List Extent) (i end size : ℕ) (d : Extent) → i < length extents → end ≤ size → list_all (ends_by size) extents ≡ true
    → ord_max nat_cmp end (cluster_bytes * ((get_or extents i d).first + (get_or extents i d).count)) ≤ size
end_least extents i end size d lt before all =
    let e = get_or extents i d in
    max-below end (cluster_bytes * (e.first + e.count)) size before
    (leb-true (cluster_bytes * (e.first + e.count)) size (all-get (ends_by size) extents i d all lt))
