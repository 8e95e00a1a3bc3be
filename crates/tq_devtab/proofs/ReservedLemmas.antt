-- The lowest free clusters of a table, and a space that is reserved there.
use Rattle.std.proofs.Common.{◌≡◌, ◌≤◌, ℕ, zero, suc, ◌+◌, ◌*◌, ◌&&◌, true, List, [], ◌∷◌, length, refl, sym, ap, ◌∙◌, arith}
use Rattle.std.specs.Prelude.{nat_le, nat_lt}
use Rattle.std.specs.List.{list_all}
use Rattle.std.proofs.lemmas.Bool.{and_parts, leb-true, le-leb, ltb-true}
use Rattle.std.proofs.lemmas.List.Folds.{list_all-append}
use Rattle.tq_model.specs.declared.answer.Extent.{Extent}
use Rattle.tq_model.specs.Site.{header_clusters, most_clusters, clusters_for, numbers_from, as_extents}
use Rattle.tq_model.specs.DeviceForm.{cluster_bytes}
use Rattle.tq_model.specs.Reading.{NamedSpace}
use Rattle.tq_extent.specs.Clusters.{new_clusters, clusters_of, can_claim}
use Rattle.tq_extent.proofs.ExtentLemmas.{clusters_of-as_extents}
use Rattle.tq_extent.proofs.ClusterLemmas.{length-with_mark, lowest-free, lowest-distinct}
use Rattle.tq_extent.proofs.CountLemmas.{length-new, claimed_mappable}
use Rattle.tq_devtab.specs.Table.{IsTable, AreFree, extents_of, owned_by, with_entry}
use Rattle.tq_devtab.specs.Volume.{TablePart, IsReserved, free_of, lowest_of, most_bytes}
use Rattle.tq_devtab.proofs.ListLemmas.{all-weaker}
use Rattle.tq_devtab.proofs.OwnerLemmas.{free_count}
use Rattle.tq_devtab.proofs.TableLemmas.{as_extents-some, taken_free, with_space}

-- ---- where extents end

-- a device of so many bytes reaches to the end of these clusters
abbrev pub ReachIn : ℕ → List ℕ → Type 0
ReachIn size clusters = list_all (λ (cluster : ℕ). nat_le (cluster_bytes * (cluster + 1)) size) clusters ≡ true

run-end : (first count size : ℕ) → 1 ≤ count → ReachIn size (numbers_from first count) → cluster_bytes * (first + count) ≤ size
run-end first zero size some reach = absurd (omega arith)
run-end first (suc zero) size some reach =
    let own = leb-true (cluster_bytes * (first + 1)) size (and_parts (nat_le (cluster_bytes * (first + 1)) size) true reach).0 in omega arith
run-end first (suc (suc count)) size some reach =
    let test = λ (cluster : ℕ). nat_le (cluster_bytes * (cluster + 1)) size in
    let rest = run-end (first + 1) (suc count) size (omega arith) (and_parts (test first) (list_all test (numbers_from (first + 1) (suc count))) reach).1 in
    omega arith

pub ends-reached : (size : ℕ) (extents : List Extent) → list_all (λ (e : Extent). nat_le 1 e.count) extents ≡ true → ReachIn size (clusters_of extents)
    → list_all (λ (e : Extent). nat_le (cluster_bytes * (e.first + e.count)) size) extents ≡ true
ends-reached size [] some reach = refl
ends-reached size (e ∷ extents) some reach =
    let test = λ (cluster : ℕ). nat_le (cluster_bytes * (cluster + 1)) size in
    let own = numbers_from e.first e.count in
    let parts = and_parts (nat_le 1 e.count) (list_all (λ (x : Extent). nat_le 1 x.count) extents) some in
    let both = and_parts (list_all test own) (list_all test (clusters_of extents)) (sym (list_all-append test own (clusters_of extents)) ∙ reach) in
    let end = le-leb (cluster_bytes * (e.first + e.count)) size (run-end e.first e.count size (leb-true 1 e.count parts.0) both.0) in
    let rest = ends-reached size extents parts.1 both.1 in
    λ i. end i && rest i

-- ---- the lowest free clusters

module _ (d : TablePart) (size : ℕ) (le : header_clusters ≤ d.clusters) (most : d.clusters ≤ most_clusters) (table : IsTable d.next_space d.clusters size d.entries) where
  lowest_claim : (n : ℕ) → can_claim (lowest_of n d) (owned_by d.clusters d.entries) ≡ true
  lowest_claim n =
      let free = lowest-free n (owned_by d.clusters d.entries) in
      let distinct = lowest-distinct n (owned_by d.clusters d.entries) in
      λ i. free i && distinct i

  -- so many of them are free extents, on each device that reaches to their end
  pub lowest_free_are : (need wide : ℕ) (extents : List Extent) → extents ≡ as_extents (lowest_of need d) → need ≤ free_of d → ReachIn wide (clusters_of extents)
      → AreFree d.clusters wide need d.entries extents
  lowest_free_are need wide extents are enough reach =
      let lowest = lowest_of need d in
      let given = ap clusters_of are ∙ clusters_of-as_extents lowest in
      let some = ap (list_all (λ (e : Extent). nat_le 1 e.count)) are ∙ as_extents-some lowest in
      let count = free_count d.next_space size d le table in
      taken_free d.clusters wide need d.entries extents (omega (arith, count.0, enough)) are given (ends-reached wide extents some reach)

  -- a device with the most bytes does
  pub most_reached : (need : ℕ) (extents : List Extent) → extents ≡ as_extents (lowest_of need d) → need ≤ free_of d → ReachIn most_bytes (clusters_of extents)
  most_reached need extents are enough =
      let owned = owned_by d.clusters d.entries in
      let lowest = lowest_of need d in
      let given = ap clusters_of are ∙ clusters_of-as_extents lowest in
      let long : length owned ≡ d.clusters = length-with_mark true (clusters_of (extents_of d.entries)) (new_clusters d.clusters) ∙ length-new d.clusters le in
      let free = ap (λ (l : List ℕ). can_claim l owned) given ∙ lowest_claim need in
      let mappable = claimed_mappable extents owned (omega (arith, long, most)) free in
      all-weaker (λ (k : ℕ). nat_lt k most_clusters) (λ (k : ℕ). nat_le (cluster_bytes * (k + 1)) most_bytes) (clusters_of extents)
      (λ k below. let lt = ltb-true k most_clusters below in le-leb (cluster_bytes * (k + 1)) most_bytes (omega arith)) mappable.within

  -- the table with a space that was reserved
  pub entered_table : (n : NamedSpace) (wide : ℕ) → IsReserved d n → IsTable d.next_space d.clusters wide d.entries → ReachIn wide (clusters_of n.extents)
      → IsTable (d.next_space + 1) d.clusters wide (with_entry n d.entries)
  entered_table n wide r whole reach =
      (with_space d.next_space d.clusters wide d.entries n le most r.last r.room whole (record {
        name = r.name;
        alone = r.alone;
        ordinal = r.ordinal;
        least = r.least;
        most = r.most;
        extents = lowest_free_are (clusters_for n.pages) wide n.extents r.extents r.enough reach;
      })).0
