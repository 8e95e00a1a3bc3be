-- How many clusters are free.
use Rattle.std.proofs.Common.{◌≡◌, ◌<◌, ◌≤◌, inl, inr, ℕ, zero, suc, ◌+◌, ◌-◌, Bool, true, false, cond, not, ◌&&◌, ◌||◌, List, [], ◌∷◌, length, get_or, set, refl, sym, ap, ◌∙◌, subst, arith, leb-true, le-leb, lt-ltb}
use Rattle.std.specs.Prelude.{◌==◌, nat_le, nat_lt, filter, replicate}
use Rattle.std.specs.List.{list_any, list_all, flat_map, sum_by}
use Rattle.std.proofs.lemmas.Bool.{eq-eqb, ne_eqb, cases_eq, and_parts}
use Rattle.std.proofs.lemmas.List.{length-set, length-replicate, get_or-append_right, get_or-replicate}
use Rattle.std.proofs.lemmas.List.Folds.{list_any-append}
use Rattle.std.proofs.lemmas.List.Sums.{sum_by-append}
use Rattle.std.proofs.lemmas.Grind.{common_steps}
use Rattle.tq_model.specs.declared.answer.Extent.{Extent}
use Rattle.tq_model.specs.Site.{Volume, SpaceOnDevice, header_clusters, most_clusters, spaces_on, numbers_from, covers, is_taken, taken_clusters, free_clusters}
use Rattle.tq_extent.specs.Clusters.{new_clusters, is_free, free_in, clusters_of, are_distinct, can_claim, with_mark, extents_on, IsOf}
use Rattle.tq_extent.specs.Pages.{AreMappable}
use Rattle.tq_extent.proofs.ExtentLemmas.{length-numbers_from, length-clusters_of}
use Rattle.tq_extent.proofs.ClusterLemmas.{and-true, can_claim-append, filter-agree, free-with_mark, free-within, all-weaker, length-with_mark, owned-with_extents}

or-false : (a : Bool) → (a || false) ≡ a
or-false true = refl
or-false false = refl

-- ---- one cluster less

-- the others pass as they did
filter-less : (test : ℕ → Bool) (x first n : ℕ) → first ≤ x → x < first + n → test x ≡ true
    → length (filter test (numbers_from first n)) ≡ suc (length (filter (λ k. test k && not (x == k)) (numbers_from first n)))
filter-less test x first zero from to is = absurd (omega arith)
filter-less test x first (suc n) from to is = elim (cases_eq x first) [
  | inl same ↦
      let here : test first ≡ true = subst (λ (k : ℕ). test k ≡ true) same is in
      let taken : (test first && not (x == first)) ≡ false = (λ i. here i && not (eq-eqb x first same i)) in
      let rest : filter (λ k. test k && not (x == k)) (numbers_from (first + 1) n) ≡ filter test (numbers_from (first + 1) n) =
      filter-agree (λ k. test k && not (x == k)) test (first + 1) n (λ k above below. ap (λ b. test k && not b) (ne_eqb x k (λ equal. omega arith)) ∙ and-true (test k)) in
      (λ i. length (cond (here i) (first ∷ filter test (numbers_from (first + 1) n)) (filter test (numbers_from (first + 1) n))))
      ∙ sym (λ i. suc (length (cond (taken i) (first ∷ rest i) (rest i))))
  | inr differs ↦
      let rest = filter-less test x (first + 1) n (omega arith) (omega arith) is in
      let own : (test first && not (x == first)) ≡ test first = ap (λ b. test first && not b) (ne_eqb x first differs) ∙ and-true (test first) in
      one_more (test first) rest ∙ sym (ap (λ b. suc (length (cond b (first ∷ filter (λ k. test k && not (x == k)) (numbers_from (first + 1) n)) (filter (λ k. test k && not (x == k)) (numbers_from (first + 1) n))))) own)
]
  where
    one_more : (b : Bool) → length (filter test (numbers_from (first + 1) n)) ≡ suc (length (filter (λ k. test k && not (x == k)) (numbers_from (first + 1) n)))
        → length (cond b (first ∷ filter test (numbers_from (first + 1) n)) (filter test (numbers_from (first + 1) n)))
        ≡ suc (length (cond b (first ∷ filter (λ k. test k && not (x == k)) (numbers_from (first + 1) n)) (filter (λ k. test k && not (x == k)) (numbers_from (first + 1) n))))
    one_more true rest = ap suc rest
    one_more false rest = rest

free-with_one : (x : ℕ) (owned : List Bool) (k : ℕ) → is_free k (set owned x true) ≡ (is_free k owned && not (x == k))
free-with_one x owned k = free-with_mark (x ∷ []) owned k ∙ ap (λ b. is_free k owned && not b) (or-false (x == k))

free-less : (x : ℕ) (owned : List Bool) → is_free x owned ≡ true → length (free_in owned) ≡ suc (length (free_in (set owned x true)))
free-less x owned free =
    let n = length owned - header_clusters in
    let from = leb-true header_clusters x (and_parts (nat_le header_clusters x) (not (get_or owned x true)) free).0 in
    let to = free-within x owned free in
    let size : length (set owned x true) - header_clusters ≡ n = ap (λ k. k - header_clusters) (length-set owned x true) in
    filter-less (λ k. is_free k owned) x header_clusters n from (omega arith) free
    ∙ sym (ap suc (ap (λ k. length (filter (λ c. is_free c (set owned x true)) (numbers_from header_clusters k))) size
    ∙ ap (λ (l : List ℕ). length l) (filter-agree (λ c. is_free c (set owned x true)) (λ c. is_free c owned && not (x == c)) header_clusters n (λ k above below. free-with_one x owned k))))

-- ---- the clusters that are claimed

-- the first is free, and the others may be claimed after it
claim-parts : (x : ℕ) (clusters : List ℕ) (owned : List Bool) → can_claim (x ∷ clusters) owned ≡ true → (is_free x owned ≡ true) × (can_claim clusters (set owned x true) ≡ true)
claim-parts x clusters owned claimed =
    let all = list_all (λ k. is_free k owned) (x ∷ clusters) in
    let free = (and_parts (is_free x owned) (list_all (λ k. is_free k owned) clusters) (and_parts all (are_distinct (x ∷ clusters)) claimed).0).0 in
    (free, sym (can_claim-append (x ∷ []) clusters owned (λ i. (free i && true) && true)) ∙ claimed)

pub length-free_in : (clusters : List ℕ) (owned : List Bool) → can_claim clusters owned ≡ true → length clusters + length (free_in (with_mark true clusters owned)) ≡ length (free_in owned)
length-free_in [] owned claimed = omega arith
length-free_in (x ∷ clusters) owned claimed =
    let parts = claim-parts x clusters owned claimed in
    let rest = length-free_in clusters (set owned x true) parts.1 in
    let less = free-less x owned parts.0 in
    omega arith

pub length-filter-most : (test : ℕ → Bool) (numbers : List ℕ) → length (filter test numbers) ≤ length numbers
length-filter-most test [] = omega arith
length-filter-most test (x ∷ numbers) =
    let rest = length-filter-most test numbers in
    elim (test x) as (λ b. length (cond b (x ∷ filter test numbers) (filter test numbers)) ≤ suc (length numbers)) [ true ↦ omega arith | false ↦ omega arith ]

-- no more are free than there are
pub free-most : (owned : List Bool) → length (free_in owned) ≤ length owned - header_clusters
free-most owned =
    let size = length-numbers_from header_clusters (length owned - header_clusters) in
    let most = length-filter-most (λ k. is_free k owned) (numbers_from header_clusters (length owned - header_clusters)) in
    omega arith

-- ---- the free clusters of a volume

any-extents_on : (k : ℕ) (spaces : List SpaceOnDevice) → list_any (covers k) (flat_map (λ (p : SpaceOnDevice). p.extents) spaces) ≡ list_any (λ (p : SpaceOnDevice). list_any (covers k) p.extents) spaces
any-extents_on k [] = refl
any-extents_on k (p ∷ spaces) = list_any-append (covers k) p.extents (flat_map (λ (x : SpaceOnDevice). x.extents) spaces) ∙ ap (λ b. list_any (covers k) p.extents || b) (any-extents_on k spaces)

sum-extents_on : (spaces : List SpaceOnDevice) → sum_by (λ (e : Extent). e.count) (flat_map (λ (p : SpaceOnDevice). p.extents) spaces) ≡ sum_by (λ (p : SpaceOnDevice). sum_by (λ (e : Extent). e.count) p.extents) spaces
sum-extents_on [] = refl
sum-extents_on (p ∷ spaces) =
    let rest = sum-extents_on spaces in
    let own = sum_by-append (λ (e : Extent). e.count) p.extents (flat_map (λ (x : SpaceOnDevice). x.extents) spaces) in
    grind (arith, common_steps)

-- of a device without spaces
pub new-owned : (clusters k : ℕ) → header_clusters ≤ k → k < clusters → get_or (new_clusters clusters) k true ≡ false
new-owned clusters k from to =
    get_or-append_right (replicate header_clusters true) (replicate (clusters - header_clusters) false) header_clusters k true refl from
    ∙ get_or-replicate (clusters - header_clusters) (k - header_clusters) false true (omega arith)

pub length-new : (clusters : ℕ) → header_clusters ≤ clusters → length (new_clusters clusters) ≡ clusters
length-new clusters le = let size = length-replicate (clusters - header_clusters) false in omega arith

pub is_of-new : (v : Volume) → header_clusters ≤ v.clusters → spaces_on v ≡ [] → IsOf v (new_clusters v.clusters)
is_of-new v le bare = record {
  clusters = length-new v.clusters le;
  taken = λ cluster from to. new-owned v.clusters cluster from to ∙ sym (ap (λ (spaces : List SpaceOnDevice). list_any (λ (p : SpaceOnDevice). list_any (covers cluster) p.extents) spaces) bare);
}

all-pass : (numbers : List ℕ) → filter (λ k. true) numbers ≡ numbers
all-pass [] = refl
all-pass (x ∷ numbers) = ap (λ (l : List ℕ). x ∷ l) (all-pass numbers)

length-free-new : (clusters : ℕ) → header_clusters ≤ clusters → length (free_in (new_clusters clusters)) ≡ clusters - header_clusters
length-free-new clusters le =
    let n = clusters - header_clusters in
    let size : length (new_clusters clusters) - header_clusters ≡ n = ap (λ k. k - header_clusters) (length-new clusters le) in
    ap (λ k. length (filter (λ c. is_free c (new_clusters clusters)) (numbers_from header_clusters k))) size
    ∙ ap (λ (l : List ℕ). length l) (filter-agree (λ c. is_free c (new_clusters clusters)) (λ c. true) header_clusters n
    (λ k from to. (λ i. le-leb header_clusters k from i && not (new-owned clusters k from (omega arith) i))) ∙ all-pass (numbers_from header_clusters n))
    ∙ length-numbers_from header_clusters n

-- as many are free as the volume says, where its spaces may have what they have
pub free_count-is : (v : Volume) (owned : List Bool) → header_clusters ≤ v.clusters → IsOf v owned → can_claim (clusters_of (extents_on v)) (new_clusters v.clusters) ≡ true → length (free_in owned) ≡ free_clusters v
free_count-is v owned le is claimed =
    let new = new_clusters v.clusters in
    let after = with_mark true (clusters_of (extents_on v)) new in
    let size : length after ≡ length owned = length-with_mark true (clusters_of (extents_on v)) new ∙ length-new v.clusters le ∙ sym is.clusters in
    let count = length-free_in (clusters_of (extents_on v)) new claimed in
    let taken : length (clusters_of (extents_on v)) ≡ taken_clusters v = length-clusters_of (extents_on v) ∙ sum-extents_on (spaces_on v) in
    let all = length-free-new v.clusters le in
    let known = is.clusters in
    let same : length (free_in after) ≡ length (free_in owned) =
    ap (λ k. length (filter (λ c. is_free c after) (numbers_from header_clusters (k - header_clusters)))) size
    ∙ ap (λ (l : List ℕ). length l) (filter-agree (λ c. is_free c after) (λ c. is_free c owned) header_clusters (length owned - header_clusters)
    (λ k from to.
    let below : k < v.clusters = omega arith in
    ap (λ b. nat_le header_clusters k && not b)
    (owned-with_extents (extents_on v) new k ∙ (λ i. any-extents_on k (spaces_on v) i || new-owned v.clusters k from below i) ∙ or-false (is_taken v k) ∙ sym (is.taken k from below)))) in
    omega arith

-- ---- extents of which an owner may have pages

pub claimed_mappable : (extents : List Extent) (owned : List Bool) → length owned ≤ most_clusters → can_claim (clusters_of extents) owned ≡ true → AreMappable extents
claimed_mappable extents owned most claimed =
    let clusters = clusters_of extents in
    let count = length-free_in clusters owned claimed in
    let all = free-most owned in
    let parts = and_parts (list_all (λ k. is_free k owned) clusters) (are_distinct clusters) claimed in
    record {
      within = all-weaker (λ k. is_free k owned) (λ k. nat_lt k most_clusters) clusters (λ k free. let below = free-within k owned free in lt-ltb k most_clusters (omega arith)) parts.0;
      few = omega arith;
      distinct = parts.1;
    }
