-- Which extents may be claimed on a device without spaces: those that lie behind the header and within the clusters, where no
-- two overlap. So a table's tests of its extents are the claims that are granted.
use Rattle.std.proofs.Common.{◌≡◌, ◌<◌, ◌≤◌, inl, inr, ℕ, zero, suc, ◌+◌, Bool, true, false, not, ◌&&◌, List, [], ◌∷◌, ◌++◌, get_or, refl, sym, ap, ◌∙◌, arith, leb-true, lt-ltb, le-ltb}
use Rattle.std.specs.Prelude.{nat_le, nat_lt}
use Rattle.std.specs.List.{list_all}
use Rattle.std.proofs.lemmas.Bool.{cases_lt, and_parts, lt-leb}
use Rattle.std.proofs.lemmas.Bool.Decides.{nat_tests}
use Rattle.std.proofs.lemmas.List.{get_or_past}
use Rattle.std.proofs.lemmas.List.Folds.{list_all-append}
use Rattle.tq_model.specs.declared.answer.Extent.{Extent}
use Rattle.tq_model.specs.Reading.{no_two, overlap}
use Rattle.tq_model.specs.Site.{header_clusters, numbers_from}
use Rattle.tq_extent.specs.Clusters.{new_clusters, is_free, clusters_of, are_distinct, can_claim}
use Rattle.tq_extent.specs.Bytes.{has_cluster}
use Rattle.tq_extent.proofs.ExtentLemmas.{any-numbers_from}
use Rattle.tq_extent.proofs.ClusterLemmas.{are_new, distinct-append, numbers_from-distinct, list_all-same}
use Rattle.tq_extent.proofs.CountLemmas.{new-owned, length-new}

-- an extent behind the header and within so many clusters
abbrev pub lies_within : ℕ → Extent → Bool
lies_within clusters e = nat_le header_clusters e.first && nat_le (e.first + e.count) clusters

free-new : (clusters k : ℕ) → header_clusters ≤ clusters → is_free k (new_clusters clusters) ≡ (nat_le header_clusters k && nat_lt k clusters)
free-new clusters k le = elim (cases_lt k header_clusters) [
  | inl before ↦
      let own = lt-leb header_clusters k before in
      ap (λ b. b && not (get_or (new_clusters clusters) k true)) own ∙ sym (ap (λ b. b && nat_lt k clusters) own)
  | inr from ↦ elim (cases_lt k clusters) [
    | inl to ↦ ap (λ b. nat_le header_clusters k && not b) (new-owned clusters k from to) ∙ sym (ap (λ b. nat_le header_clusters k && b) (lt-ltb k clusters to))
    | inr past ↦
        let size = length-new clusters le in
        ap (λ b. nat_le header_clusters k && not b) (get_or_past (new_clusters clusters) k true (omega arith)) ∙ sym (ap (λ b. nat_le header_clusters k && b) (le-ltb k clusters past))
  ]
]

-- all numbers of a run lie between two bounds
all-between : (a b n first : ℕ) → list_all (λ k. nat_le a k && nat_lt k b) (numbers_from first (suc n)) ≡ (nat_le a first && nat_le (first + suc n) b)
all-between a b zero first = grind (arith, nat_tests)
all-between a b (suc n) first = ap (λ t. (nat_le a first && nat_lt first b) && t) (all-between a b n (first + 1)) ∙ tests
  where
    tests : ((nat_le a first && nat_lt first b) && (nat_le a (first + 1) && nat_le (first + 1 + suc n) b)) ≡ (nat_le a first && nat_le (first + suc (suc n)) b)
    tests = grind (arith, nat_tests)

-- none does
none-between : (a b n first : ℕ) → a < b → list_all (λ k. not (nat_le a k && nat_lt k b)) (numbers_from first (suc n)) ≡ not (nat_lt a (first + suc n) && nat_lt first b)
none-between a b zero first lt = grind (arith, nat_tests)
none-between a b (suc n) first lt = ap (λ t. not (nat_le a first && nat_lt first b) && t) (none-between a b n (first + 1) lt) ∙ tests
  where
    tests : (not (nat_le a first && nat_lt first b) && not (nat_lt a (first + 1 + suc n) && nat_lt (first + 1) b)) ≡ not (nat_lt a (first + suc (suc n)) && nat_lt first b)
    tests = grind (arith, nat_tests)

-- the clusters of an extent are none of another one's exactly where the two do not overlap
others-new : (n first : ℕ) (extents : List Extent) → list_all (λ (e : Extent). nat_le 1 e.count) extents ≡ true
    → are_new (numbers_from first (suc n)) (clusters_of extents) ≡ list_all (λ b. not (overlap (record { first = first; count = suc n }) b)) extents
others-new n first [] some = refl
others-new n first (e ∷ extents) some =
    let parts = and_parts (nat_le 1 e.count) (list_all (λ (x : Extent). nat_le 1 x.count) extents) some in
    let new = λ (k : ℕ). not (has_cluster (numbers_from first (suc n)) k) in
    list_all-append new (numbers_from e.first e.count) (clusters_of extents)
    ∙ (λ i. own e.count (leb-true 1 e.count parts.0) i && others-new n first extents parts.1 i)
  where
    own : (count : ℕ) → 1 ≤ count → list_all (λ k. not (has_cluster (numbers_from first (suc n)) k)) (numbers_from e.first count) ≡ not (nat_lt first (e.first + count) && nat_lt e.first (first + suc n))
    own zero le = absurd (omega arith)
    own (suc more) le =
        list_all-same (λ k. not (has_cluster (numbers_from first (suc n)) k)) (λ k. not (nat_le first k && nat_lt k (first + suc n))) (numbers_from e.first (suc more)) (λ k. ap not (any-numbers_from k first (suc n)))
        ∙ none-between first (first + suc n) more e.first (omega arith)

-- extents with clusters may be claimed exactly where each lies within the device and no two overlap
pub can_claim-new : (clusters : ℕ) (extents : List Extent) → header_clusters ≤ clusters → list_all (λ (e : Extent). nat_le 1 e.count) extents ≡ true
    → can_claim (clusters_of extents) (new_clusters clusters) ≡ (list_all (lies_within clusters) extents && no_two overlap extents)
can_claim-new clusters [] le some = refl
can_claim-new clusters (e ∷ extents) le some =
    let parts = and_parts (nat_le 1 e.count) (list_all (λ (x : Extent). nat_le 1 x.count) extents) some in
    by_count e.count (leb-true 1 e.count parts.0) (λ n. others-new n e.first extents parts.1) (can_claim-new clusters extents le parts.1)
  where
    rest : List ℕ
    rest = clusters_of extents

    free : ℕ → Bool
    free k = is_free k (new_clusters clusters)

    first_parts : (a b n o : Bool) → ((a && b) && (true && (n && o))) ≡ (a && ((b && n) && o))
    first_parts true true n o = refl
    first_parts true false n o = refl
    first_parts false b n o = refl

    last_parts : (a w v o : Bool) → (a && ((w && v) && o)) ≡ ((a && w) && (o && v))
    last_parts true true true true = refl
    last_parts true true true false = refl
    last_parts true true false true = refl
    last_parts true true false false = refl
    last_parts true false v o = refl
    last_parts false w v o = refl

    by_count : (count : ℕ) → 1 ≤ count
        → ((n : ℕ) → are_new (numbers_from e.first (suc n)) rest ≡ list_all (λ b. not (overlap (record { first = e.first; count = suc n }) b)) extents)
        → can_claim rest (new_clusters clusters) ≡ (list_all (lies_within clusters) extents && no_two overlap extents)
        → can_claim (numbers_from e.first count ++ rest) (new_clusters clusters)
        ≡ ((lies_within clusters (record { first = e.first; count = count }) && list_all (lies_within clusters) extents)
        && (list_all (λ b. not (overlap (record { first = e.first; count = count }) b)) extents && no_two overlap extents))
    by_count zero some others claimed = absurd (omega arith)
    by_count (suc n) some others claimed =
        let numbers = numbers_from e.first (suc n) in
        let within = nat_le header_clusters e.first && nat_le (e.first + suc n) clusters in
        let apart = list_all (λ b. not (overlap (record { first = e.first; count = suc n }) b)) extents in
        let own : list_all free numbers ≡ within =
        list_all-same free (λ k. nat_le header_clusters k && nat_lt k clusters) numbers (λ k. free-new clusters k le) ∙ all-between header_clusters clusters n e.first in
        (λ i. list_all-append free numbers rest i && distinct-append numbers rest i)
        ∙ (λ i. (own i && list_all free rest) && (numbers_from-distinct e.first (suc n) i && (are_distinct rest && others n i)))
        ∙ first_parts within (list_all free rest) (are_distinct rest) apart ∙ ap (λ b. within && (b && apart)) claimed
        ∙ last_parts within (list_all (lies_within clusters) extents) (no_two overlap extents) apart
