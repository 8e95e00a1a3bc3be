-- Searches, filters and sums of a mapped list.
use Rattle.std.proofs.Common.{◌≡◌, ℕ, ◌+◌, Bool, true, false, cond, ◌||◌, List, [], ◌∷◌, ◌++◌, map, set, get_or, take, drop, length, ◌<◌, arith, refl, sym, ap, ◌∙◌, Some, option_map}
use Rattle.std.specs.Prelude.{filter}
use Rattle.std.specs.List.{list_any, find, sum_by}
use Rattle.std.proofs.lemmas.List.{get_or_default}
use Rattle.std.proofs.lemmas.List.Edits.{map_over_more}
use Rattle.std.proofs.lemmas.List.Folds.{fold-map}

pub list_any-map : {X Y : Type 0} (f : X → Y) (test : Y → Bool) (xs : List X) → list_any test (map f xs) ≡ list_any (λ x. test (f x)) xs
list_any-map f test [] = refl
list_any-map f test (x ∷ xs) = ap (λ b. test (f x) || b) (list_any-map f test xs)

pub find-map : {X Y : Type 0} (f : X → Y) (test : Y → Bool) (xs : List X) → find test (map f xs) ≡ option_map f (find (λ x. test (f x)) xs)
find-map f test [] = refl
find-map f test (x ∷ xs) =
    elim (test (f x)) as (λ b. cond b (Some (f x)) (find test (map f xs)) ≡ option_map f (cond b (Some x) (find (λ y. test (f y)) xs))) [
      | true ↦ refl
      | false ↦ find-map f test xs
    ]

pub filter-map : {X Y : Type 0} (f : X → Y) (test : Y → Bool) (xs : List X) → filter test (map f xs) ≡ map f (filter (λ x. test (f x)) xs)
filter-map f test [] = refl
filter-map f test (x ∷ xs) =
    elim (test (f x)) as (λ b. cond b (f x ∷ filter test (map f xs)) (filter test (map f xs)) ≡ map f (cond b (x ∷ filter (λ y. test (f y)) xs) (filter (λ y. test (f y)) xs))) [
      | true ↦ ap (λ ys. f x ∷ ys) (filter-map f test xs)
      | false ↦ filter-map f test xs
    ]

pub map-map : {X Y Z : Type 0} (f : X → Y) (g : Y → Z) (xs : List X) → map g (map f xs) ≡ map (λ x. g (f x)) xs
map-map f g [] = refl
map-map f g (x ∷ xs) = ap (λ ys. g (f x) ∷ ys) (map-map f g xs)

pub sum_by-map : {X Y : Type 0} (f : X → Y) (g : Y → ℕ) (xs : List X) → sum_by g (map f xs) ≡ sum_by (λ x. g (f x)) xs
sum_by-map f g xs = fold-map (λ s y. s + g y) f 0 xs

-- a search passes over what a filter leaves out
pub find-filter : {X : Type 0} (keep test : X → Bool) → ((x : X) → keep x ≡ false → test x ≡ false) → (xs : List X) → find test (filter keep xs) ≡ find test xs
find-filter keep test misses [] = refl
find-filter keep test misses (x ∷ xs) =
    elim (keep x) as (λ b. keep x ≡ b → find test (cond b (x ∷ filter keep xs) (filter keep xs)) ≡ cond (test x) (Some x) (find test xs)) [
      | true ↦ λ is. ap (λ o. cond (test x) (Some x) o) (find-filter keep test misses xs)
      | false ↦ λ is. find-filter keep test misses xs ∙ sym (ap (λ b. cond b (Some x) (find test xs)) (misses x is))
    ] refl

-- a loop that changes each element in its place
pub mapped-more : {X : Type 0} (f : X → X) (xs ys : List X) (at : ℕ) (d y : X) → at < length xs → length ys ≡ length xs → ys ≡ map f (take at xs) ++ drop at xs
    → y ≡ f (get_or ys at d) → set ys at y ≡ map f (take (at + 1) xs) ++ drop (at + 1) xs
mapped-more f xs ys at d y within long so_far is =
    ap (set ys at) is ∙ map_over_more f xs ys at (get_or ys at d) within so_far (get_or_default ys at d (get_or ys at d) (omega arith))
