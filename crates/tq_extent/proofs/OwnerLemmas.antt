-- Owners that share no cluster.
use Rattle.std.proofs.Common.{◌≡◌, ◌≢◌, ◌<◌, inl, inr, ℕ, ◌+◌, ◌/◌, ◌%◌, Bool, true, false, not, List, [], ◌∷◌, ◌++◌, get_or, refl, sym, ◌∙◌, subst, arith, ltb-true, leb-true, lt-ltb}
use Rattle.std.specs.Prelude.{◌==◌, nat_le, nat_lt}
use Rattle.std.specs.List.{list_any, list_all}
use Rattle.std.proofs.lemmas.Bool.{eq-eqb, and_parts, and_from, or_cases, not-true, false_from_ne_true}
use Rattle.std.proofs.lemmas.List.Folds.{list_all-append, list_any_at}
use Rattle.tq_model.specs.declared.answer.Extent.{Extent}
use Rattle.tq_model.specs.Reading.{no_two, overlap}
use Rattle.tq_model.specs.Site.{covers}
use Rattle.tq_extent.specs.Clusters.{is_free, clusters_of}
use Rattle.tq_extent.specs.Pages.{page_count, are_others, HavePagesApart}
use Rattle.tq_extent.specs.Bytes.{has_cluster, ShareNone}
use Rattle.tq_extent.proofs.ExtentLemmas.{any-clusters_of}
use Rattle.tq_extent.proofs.ClusterLemmas.{all-at}
use Rattle.tq_extent.proofs.PageLemmas.{clusters_apart}

pub shared_alike : (xs ys : List ℕ) → ShareNone xs ys → ShareNone ys xs
shared_alike xs ys none cluster has = false_from_ne_true (has_cluster xs cluster) (λ also. let other = none cluster also in absurd (cc))

-- clusters that were free, and others
pub free_shares_none : (xs ys : List ℕ) (owned : List Bool) → list_all (λ cluster. is_free cluster owned) xs ≡ true → are_others ys owned ≡ true
    → ShareNone xs ys
free_shares_none xs ys owned free none cluster has =
    false_from_ne_true (has_cluster ys cluster) (λ also.
    let one = all-at (λ k. is_free k owned) xs cluster free has in
    let other = not-true (is_free cluster owned) (all-at (λ k. not (is_free k owned)) ys cluster none also) in
    absurd (cc))

-- two extents that do not overlap
apart-extents : (cluster : ℕ) (a b : Extent) → not (overlap a b) ≡ true → covers cluster a ≡ true → covers cluster b ≡ true → ⊥
apart-extents cluster a b apart one other =
    let in_a = and_parts (nat_le a.first cluster) (nat_lt cluster (a.first + a.count)) one in
    let in_b = and_parts (nat_le b.first cluster) (nat_lt cluster (b.first + b.count)) other in
    let from_a = leb-true a.first cluster in_a.0 in
    let to_a = ltb-true cluster (a.first + a.count) in_a.1 in
    let from_b = leb-true b.first cluster in_b.0 in
    let to_b = ltb-true cluster (b.first + b.count) in_b.1 in
    let both : overlap a b ≡ true = and_from (nat_lt a.first (b.first + b.count)) (nat_lt b.first (a.first + a.count))
    (lt-ltb a.first (b.first + b.count) (omega arith)) (lt-ltb b.first (a.first + a.count) (omega arith)) in
    let none = not-true (overlap a b) apart in
    absurd (cc)

apart-others : (cluster : ℕ) (a : Extent) (ys : List Extent) → list_all (λ b. not (overlap a b)) ys ≡ true → covers cluster a ≡ true
    → list_any (covers cluster) ys ≡ true → ⊥
apart-others cluster a [] all one other = absurd (cc)
apart-others cluster a (b ∷ ys) all one other =
    let parts = and_parts (not (overlap a b)) (list_all (λ y. not (overlap a y)) ys) all in
    elim (or_cases (covers cluster b) (list_any (covers cluster) ys) other) [
      | inl first ↦ apart-extents cluster a b parts.0 one first
      | inr later ↦ apart-others cluster a ys parts.1 one later
    ]

none-covered : (xs ys : List Extent) (cluster : ℕ) → no_two overlap (xs ++ ys) ≡ true → list_any (covers cluster) xs ≡ true
    → list_any (covers cluster) ys ≡ false
none-covered [] ys cluster none covered = absurd (cc)
none-covered (a ∷ xs) ys cluster none covered =
    let parts = and_parts (list_all (λ b. not (overlap a b)) (xs ++ ys)) (no_two overlap (xs ++ ys)) none in
    let others = and_parts (list_all (λ b. not (overlap a b)) xs) (list_all (λ b. not (overlap a b)) ys)
    (sym (list_all-append (λ b. not (overlap a b)) xs ys) ∙ parts.0) in
    elim (or_cases (covers cluster a) (list_any (covers cluster) xs) covered) [
      | inl first ↦ false_from_ne_true (list_any (covers cluster) ys) (apart-others cluster a ys others.1 first)
      | inr later ↦ none-covered xs ys cluster parts.1 later
    ]

-- of extents of which no two overlap, a first part and the rest
pub no_two_shares_none : (xs ys : List Extent) → no_two overlap (xs ++ ys) ≡ true → ShareNone (clusters_of xs) (clusters_of ys)
no_two_shares_none xs ys none cluster has = any-clusters_of cluster ys ∙ none-covered xs ys cluster none (sym (any-clusters_of cluster xs) ∙ has)

-- the cluster of a page is the owner's
page_owned : (clusters : List ℕ) (page : ℕ) → page < page_count clusters → has_cluster clusters (get_or clusters (page / 32) 0) ≡ true
page_owned clusters page lt =
    let cluster = get_or clusters (page / 32) 0 in
    list_any_at (λ k. k == cluster) clusters (page / 32) 0 (omega arith) (eq-eqb cluster cluster refl)

-- the pages of owners that share no cluster
pub owners_apart : (xs ys : List ℕ) → ShareNone xs ys → HavePagesApart xs ys
owners_apart xs ys none p q lt lt' =
    let a = get_or xs (p / 32) 0 in
    let b = get_or ys (q / 32) 0 in
    let differs : a ≢ b = λ same.
    let free = none a (page_owned xs p lt) in
    let has = subst (λ (k : ℕ). has_cluster ys k ≡ true) (sym same) (page_owned ys q lt') in
    absurd (cc) in
    clusters_apart a b (p % 32) (q % 32) differs (omega arith) (omega arith)
