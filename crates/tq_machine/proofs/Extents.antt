-- The lowest free clusters, and clusters in their order as extents.
use Rattle.std.proofs.Common.{◌≡◌, ◌<◌, ◌≤◌, ℕ, zero, suc, ◌+◌, ◌-◌, Bool, true, false, cond, not, ◌||◌, List, [], ◌∷◌, ◌++◌, take, refl, sym, ap, ◌∙◌, arith, append_assoc, Option, Some, None}
use Rattle.std.specs.Prelude.{◌==◌, if◌then◌else◌, filter}
use Rattle.std.specs.List.{list_any}
use Rattle.std.proofs.lemmas.Bool.{eq-eqb, ne_eqb}
use Rattle.std.proofs.lemmas.List.{append-nil, take_all}
use Rattle.tq_model.specs.declared.answer.Extent.{Extent}
use Rattle.tq_model.specs.Site.{Volume, SpaceOnDevice, present, numbers_from, covers, is_taken, with_cluster, as_extents}
use Rattle.tq_machine.specs.Tables.{entry_covers, free_from}

-- Runs

numbers_from-append : (first m n : ℕ) → numbers_from first (m + n) ≡ numbers_from first m ++ numbers_from (first + m) n
numbers_from-append first zero n =
    let none : zero + n ≡ n = omega arith in
    let same : first + zero ≡ first = omega arith in
    (λ i. numbers_from (sym same i) (none i))
numbers_from-append first (suc m) n =
    let more : suc m + n ≡ suc (m + n) = omega arith in
    let next : first + 1 + m ≡ first + suc m = omega arith in
    ap (numbers_from first) more ∙ ap (λ (l : List ℕ). first ∷ l) (numbers_from-append (first + 1) m n ∙ ap (λ k. numbers_from (first + 1) m ++ numbers_from k n) next)

-- the numbers with one more behind them
pub numbers_from-more : (first n : ℕ) (rest : List ℕ) → numbers_from first (n + 1) ++ rest ≡ numbers_from first n ++ (first + n) ∷ rest
numbers_from-more first n rest = ap (λ (l : List ℕ). l ++ rest) (numbers_from-append first n 1) ∙ append_assoc (numbers_from first n) ((first + n) ∷ []) rest

-- whether a list begins with this number
abbrev begins_with : ℕ → List ℕ → Bool
begins_with first [] = false
begins_with first (x ∷ xs) = first == x

-- a cluster that is not the one before the next is an extent of its own
with_cluster-apart : (cluster : ℕ) (rest : List ℕ) → begins_with (cluster + 1) rest ≡ false → with_cluster cluster (as_extents rest) ≡ record { first = cluster; count = 1 } ∷ as_extents rest
with_cluster-apart cluster [] apart = refl
with_cluster-apart cluster (x ∷ rest) apart = onto (as_extents rest)
  where
    alone : (extents : List Extent) (e : Extent) → e.first ≡ x → with_cluster cluster (e ∷ extents) ≡ record { first = cluster; count = 1 } ∷ e ∷ extents
    alone extents e is =
        ap (λ b. if b then record { first = cluster; count = e.count + 1 } ∷ extents else record { first = cluster; count = 1 } ∷ e ∷ extents) (ap (λ k. cluster + 1 == k) is ∙ apart)

    onto : (extents : List Extent) → with_cluster cluster (with_cluster x extents) ≡ record { first = cluster; count = 1 } ∷ with_cluster x extents
    onto [] = alone [] (record { first = x; count = 1 }) refl
    onto (e ∷ extents) =
        elim (x + 1 == e.first) as (λ b. let next = if b then record { first = x; count = e.count + 1 } ∷ extents else record { first = x; count = 1 } ∷ e ∷ extents in
        with_cluster cluster next ≡ record { first = cluster; count = 1 } ∷ next) [
          | true ↦ alone extents (record { first = x; count = e.count + 1 }) refl
          | false ↦ alone (e ∷ extents) (record { first = x; count = 1 }) refl
        ]

as_extents-run : (n first : ℕ) (rest : List ℕ) → begins_with (first + suc n) rest ≡ false → as_extents (numbers_from first (suc n) ++ rest) ≡ record { first = first; count = suc n } ∷ as_extents rest
as_extents-run zero first rest apart = with_cluster-apart first rest apart
as_extents-run (suc n) first rest apart =
    let next : first + suc (suc n) ≡ first + 1 + suc n = omega arith in
    let one : suc n + 1 ≡ suc (suc n) = omega arith in
    let follows : (first + 1 == first + 1) ≡ true = eq-eqb (first + 1) (first + 1) refl in
    ap (with_cluster first) (as_extents-run n (first + 1) rest (ap (λ k. begins_with k rest) (sym next) ∙ apart))
    ∙ ap (λ b. if b then record { first = first; count = suc n + 1 } ∷ as_extents rest else record { first = first; count = 1 } ∷ record { first = first + 1; count = suc n } ∷ as_extents rest) follows
    ∙ ap (λ k. record { first = first; count = k } ∷ as_extents rest) one

-- the extent of a run that is over
pub as_extents-alone : (first n : ℕ) → 0 < n → as_extents (numbers_from first n) ≡ record { first = first; count = n } ∷ []
as_extents-alone first zero some = absurd (omega arith)
as_extents-alone first (suc n) some = ap as_extents (sym (append-nil (numbers_from first (suc n)))) ∙ as_extents-run n first [] refl

-- a cluster behind a run that it does not follow begins another
pub as_extents-apart : (first n cluster : ℕ) (rest : List ℕ) → (0 < n → first + n ≡ cluster → ⊥) → as_extents (numbers_from first n ++ cluster ∷ rest) ≡ as_extents (numbers_from first n) ++ as_extents (cluster ∷ rest)
as_extents-apart first zero cluster rest apart = refl
as_extents-apart first (suc n) cluster rest apart =
    as_extents-run n first (cluster ∷ rest) (ne_eqb (first + suc n) cluster (apart (omega arith)))
    ∙ ap (λ (l : List Extent). l ++ as_extents (cluster ∷ rest)) (sym (as_extents-alone first (suc n) (omega arith)))

-- Free clusters

-- what is asked of all spaces is asked of all entries
pub any-present : (cluster : ℕ) (xs : List (Option SpaceOnDevice)) → list_any (entry_covers cluster) xs ≡ list_any (λ (p : SpaceOnDevice). list_any (covers cluster) p.extents) (present xs)
any-present cluster [] = refl
any-present cluster (None ∷ xs) = any-present cluster xs
any-present cluster (Some p ∷ xs) = ap (λ b. list_any (covers cluster) p.extents || b) (any-present cluster xs)

free-more : (at : ℕ) (v : Volume) → at < v.clusters → free_from at v ≡ cond (not (is_taken v at)) (at ∷ free_from (at + 1) v) (free_from (at + 1) v)
free-more at v lt =
    let step : v.clusters - at ≡ suc (v.clusters - (at + 1)) = omega arith in
    ap (λ n. filter (λ cluster. not (is_taken v cluster)) (numbers_from at n)) step

-- the lowest so many from a cluster on
pub take-free : (n at : ℕ) (v : Volume) → 0 < n → at < v.clusters → is_taken v at ≡ false → take n (free_from at v) ≡ at ∷ take (n - 1) (free_from (at + 1) v)
take-free n at v some lt is =
    let more : n ≡ suc (n - 1) = omega arith in
    let free = free-more at v lt ∙ ap (λ b. cond (not b) (at ∷ free_from (at + 1) v) (free_from (at + 1) v)) is in
    (λ i. take (more i) (free i))

pub take-taken : (n at : ℕ) (v : Volume) → at < v.clusters → is_taken v at ≡ true → take n (free_from at v) ≡ take n (free_from (at + 1) v)
take-taken n at v lt is = ap (take n) (free-more at v lt ∙ ap (λ b. cond (not b) (at ∷ free_from (at + 1) v) (free_from (at + 1) v)) is)

pub take-none : {X : Type 0} (n : ℕ) (xs ys : List X) → n ≤ 0 → take n xs ≡ take n ys
take-none zero xs ys le = refl
take-none (suc n) xs ys le = absurd (omega arith)

pub take-end : (n at : ℕ) (v : Volume) → v.clusters ≤ at → take n (free_from at v) ≡ []
take-end n at v le =
    let none : v.clusters - at ≡ 0 = omega arith in
    ap (λ k. take n (filter (λ cluster. not (is_taken v cluster)) (numbers_from at k))) none ∙ take_all n [] (omega arith)
