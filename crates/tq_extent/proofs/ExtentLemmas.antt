-- Clusters as extents, and back.
use Rattle.std.proofs.Common.{◌≡◌, ◌<◌, ℕ, zero, suc, ◌+◌, Bool, true, false, ◌&&◌, ◌||◌, List, [], ◌∷◌, ◌++◌, length, get_or, refl, sym, ap, ◌∙◌, arith, append_assoc}
use Rattle.std.specs.Prelude.{◌==◌, nat_le, nat_lt, if◌then◌else◌}
use Rattle.std.specs.List.{list_any, list_all, sum_by}
use Rattle.std.proofs.lemmas.Bool.{eq-eqb, ne_eqb, eqb-true, and_parts}
use Rattle.std.proofs.lemmas.Bool.Decides.{nat_tests}
use Rattle.std.proofs.lemmas.List.{append-nil}
use Rattle.std.proofs.lemmas.List.Folds.{list_any-append}
use Rattle.std.proofs.lemmas.Grind.{common_steps}
use Rattle.tq_model.specs.declared.answer.Extent.{Extent}
use Rattle.tq_model.specs.Site.{numbers_from, covers, with_cluster, as_extents}
use Rattle.tq_extent.specs.Clusters.{clusters_of}

-- what all elements pass, one does
pub all-get : {X : Type 0} (test : X → Bool) (xs : List X) (i : ℕ) (d : X) → list_all test xs ≡ true → i < length xs → test (get_or xs i d) ≡ true
all-get test [] i d all lt = absurd (omega arith)
all-get test (x ∷ xs) zero d all lt = (and_parts (test x) (list_all test xs) all).0
all-get test (x ∷ xs) (suc i) d all lt = all-get test xs i d (and_parts (test x) (list_all test xs) all).1 (omega arith)

-- ---- numbers one after another

pub length-numbers_from : (first n : ℕ) → length (numbers_from first n) ≡ n
length-numbers_from first zero = refl
length-numbers_from first (suc n) = ap suc (length-numbers_from (first + 1) n)

pub get_or-numbers_from : (first n i d : ℕ) → i < n → get_or (numbers_from first n) i d ≡ first + i
get_or-numbers_from first zero i d lt = absurd (omega arith)
get_or-numbers_from first (suc n) zero d lt = omega arith
get_or-numbers_from first (suc n) (suc i) d lt = let rest = get_or-numbers_from (first + 1) n i d (omega arith) in omega arith

pub numbers_from-append : (first m n : ℕ) → numbers_from first (m + n) ≡ numbers_from first m ++ numbers_from (first + m) n
numbers_from-append first zero n =
    let none : zero + n ≡ n = omega arith in
    let same : first + zero ≡ first = omega arith in
    (λ i. numbers_from (sym same i) (none i))
numbers_from-append first (suc m) n =
    let more : suc m + n ≡ suc (m + n) = omega arith in
    let next : first + 1 + m ≡ first + suc m = omega arith in
    ap (numbers_from first) more ∙ ap (λ (l : List ℕ). first ∷ l) (numbers_from-append (first + 1) m n ∙ ap (λ k. numbers_from (first + 1) m ++ numbers_from k n) next)

-- the numbers with one more behind them
pub numbers_from-more : (first n : ℕ) (rest : List ℕ) → numbers_from first (n + 1) ++ rest ≡ numbers_from first n ++ (first + n) ∷ rest
numbers_from-more first n rest = ap (λ (l : List ℕ). l ++ rest) (numbers_from-append first n 1) ∙ append_assoc (numbers_from first n) ((first + n) ∷ []) rest

pub any-numbers_from : (cluster first n : ℕ) → list_any (λ k. k == cluster) (numbers_from first n) ≡ (nat_le first cluster && nat_lt cluster (first + n))
any-numbers_from cluster first zero = grind (arith, nat_tests)
any-numbers_from cluster first (suc n) =
    ap (λ b. (first == cluster) || b) (any-numbers_from cluster (first + 1) n) ∙ tests
  where
    tests : ((first == cluster) || (nat_le (first + 1) cluster && nat_lt cluster (first + 1 + n))) ≡ (nat_le first cluster && nat_lt cluster (first + suc n))
    tests = grind (arith, nat_tests)

-- ---- extents

pub length-clusters_of : (extents : List Extent) → length (clusters_of extents) ≡ sum_by (λ (e : Extent). e.count) extents
length-clusters_of [] = refl
length-clusters_of (e ∷ extents) = let rest = length-clusters_of extents in let own = length-numbers_from e.first e.count in grind (arith, common_steps)

pub any-clusters_of : (cluster : ℕ) (extents : List Extent) → list_any (λ k. k == cluster) (clusters_of extents) ≡ list_any (covers cluster) extents
any-clusters_of cluster [] = refl
any-clusters_of cluster (e ∷ extents) =
    list_any-append (λ k. k == cluster) (numbers_from e.first e.count) (clusters_of extents)
    ∙ (λ i. any-numbers_from cluster e.first e.count i || any-clusters_of cluster extents i)

clusters_of-with_cluster : (cluster : ℕ) (extents : List Extent) → clusters_of (with_cluster cluster extents) ≡ cluster ∷ clusters_of extents
clusters_of-with_cluster cluster [] = refl
clusters_of-with_cluster cluster (e ∷ extents) = by_test (cluster + 1 == e.first) refl
  where
    by_test : (b : Bool) → (cluster + 1 == e.first) ≡ b
        → clusters_of (if b then record { first = cluster; count = e.count + 1 } ∷ extents else record { first = cluster; count = 1 } ∷ e ∷ extents) ≡ cluster ∷ (numbers_from e.first e.count ++ clusters_of extents)
    by_test false is = refl
    by_test true is =
        let one : e.count + 1 ≡ suc e.count = omega arith in
        ap (λ n. numbers_from cluster n ++ clusters_of extents) one ∙ ap (λ k. cluster ∷ (numbers_from k e.count ++ clusters_of extents)) (eqb-true (cluster + 1) e.first is)

pub clusters_of-as_extents : (clusters : List ℕ) → clusters_of (as_extents clusters) ≡ clusters
clusters_of-as_extents [] = refl
clusters_of-as_extents (cluster ∷ clusters) = clusters_of-with_cluster cluster (as_extents clusters) ∙ ap (λ (l : List ℕ). cluster ∷ l) (clusters_of-as_extents clusters)

-- ---- a run of clusters, and what follows it

-- whether a list begins with this number
abbrev begins_with : ℕ → List ℕ → Bool
begins_with first [] = false
begins_with first (x ∷ xs) = first == x

-- a cluster that is not the one before the next is an extent of its own
with_cluster-apart : (cluster : ℕ) (rest : List ℕ) → begins_with (cluster + 1) rest ≡ false → with_cluster cluster (as_extents rest) ≡ record { first = cluster; count = 1 } ∷ as_extents rest
with_cluster-apart cluster [] apart = refl
with_cluster-apart cluster (x ∷ rest) apart = onto (as_extents rest)
  where
    alone : (extents : List Extent) (e : Extent) → e.first ≡ x → with_cluster cluster (e ∷ extents) ≡ record { first = cluster; count = 1 } ∷ e ∷ extents
    alone extents e is =
        ap (λ b. if b then record { first = cluster; count = e.count + 1 } ∷ extents else record { first = cluster; count = 1 } ∷ e ∷ extents) (ap (λ k. cluster + 1 == k) is ∙ apart)

    onto : (extents : List Extent) → with_cluster cluster (with_cluster x extents) ≡ record { first = cluster; count = 1 } ∷ with_cluster x extents
    onto [] = alone [] (record { first = x; count = 1 }) refl
    onto (e ∷ extents) =
        elim (x + 1 == e.first) as (λ b. let next = if b then record { first = x; count = e.count + 1 } ∷ extents else record { first = x; count = 1 } ∷ e ∷ extents in
        with_cluster cluster next ≡ record { first = cluster; count = 1 } ∷ next) [
          | true ↦ alone extents (record { first = x; count = e.count + 1 }) refl
          | false ↦ alone (e ∷ extents) (record { first = x; count = 1 }) refl
        ]

as_extents-run : (n first : ℕ) (rest : List ℕ) → begins_with (first + suc n) rest ≡ false → as_extents (numbers_from first (suc n) ++ rest) ≡ record { first = first; count = suc n } ∷ as_extents rest
as_extents-run zero first rest apart = with_cluster-apart first rest apart
as_extents-run (suc n) first rest apart =
    let next : first + suc (suc n) ≡ first + 1 + suc n = omega arith in
    let one : suc n + 1 ≡ suc (suc n) = omega arith in
    let follows : (first + 1 == first + 1) ≡ true = eq-eqb (first + 1) (first + 1) refl in
    ap (with_cluster first) (as_extents-run n (first + 1) rest (ap (λ k. begins_with k rest) (sym next) ∙ apart))
    ∙ ap (λ b. if b then record { first = first; count = suc n + 1 } ∷ as_extents rest else record { first = first; count = 1 } ∷ record { first = first + 1; count = suc n } ∷ as_extents rest) follows
    ∙ ap (λ k. record { first = first; count = k } ∷ as_extents rest) one

-- the extent of a run that is over
pub as_extents-alone : (first n : ℕ) → 0 < n → as_extents (numbers_from first n) ≡ record { first = first; count = n } ∷ []
as_extents-alone first zero some = absurd (omega arith)
as_extents-alone first (suc n) some = ap as_extents (sym (append-nil (numbers_from first (suc n)))) ∙ as_extents-run n first [] refl

-- a cluster behind a run that it does not follow begins another
pub as_extents-apart : (first n cluster : ℕ) (rest : List ℕ) → (0 < n → first + n ≡ cluster → ⊥) → as_extents (numbers_from first n ++ cluster ∷ rest) ≡ as_extents (numbers_from first n) ++ as_extents (cluster ∷ rest)
as_extents-apart first zero cluster rest apart = refl
as_extents-apart first (suc n) cluster rest apart =
    as_extents-run n first (cluster ∷ rest) (ne_eqb (first + suc n) cluster (apart (omega arith)))
    ∙ ap (λ (l : List Extent). l ++ as_extents (cluster ∷ rest)) (sym (as_extents-alone first (suc n) (omega arith)))
