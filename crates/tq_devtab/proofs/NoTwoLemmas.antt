-- Lists in which no two elements stand in a relation.
use Rattle.std.proofs.Common.{◌≡◌, ◌&&◌, Bool, true, false, List, [], ◌∷◌, refl, ap, ◌∙◌}
use Rattle.std.specs.Prelude.{◌||◌, not, map}
use Rattle.std.specs.List.{list_all}
use Rattle.std.proofs.lemmas.List.Folds.{list_all-map}
use Rattle.tq_model.specs.Reading.{no_two}

-- of elements that are made of others
pub no_two-map : {X Y : Type 0} (related : Y → Y → Bool) (f : X → Y) (xs : List X) → no_two related (map f xs) ≡ no_two (λ a b. related (f a) (f b)) xs
no_two-map related f [] = refl
no_two-map related f (x ∷ xs) = λ i. list_all-map (λ y. not (related (f x) y)) f xs i && no_two-map related f xs i

-- in none of two relations
pub no_two-or : {X : Type 0} (one other : X → X → Bool) (xs : List X) → no_two (λ a b. one a b || other a b) xs ≡ (no_two one xs && no_two other xs)
no_two-or one other [] = refl
no_two-or {X = X} one other (x ∷ xs) =
    (λ i. neither (one x) (other x) xs i && no_two-or one other xs i)
    ∙ swapped (list_all (λ y. not (one x y)) xs) (list_all (λ y. not (other x y)) xs) (no_two one xs) (no_two other xs)
  where
    none_of : (a b c d : Bool) → (not (a || b) && (c && d)) ≡ ((not a && c) && (not b && d))
    none_of true b c d = refl
    none_of false true true d = refl
    none_of false true false d = refl
    none_of false false c d = refl

    neither : (p q : X → Bool) (ys : List X) → list_all (λ y. not (p y || q y)) ys ≡ (list_all (λ y. not (p y)) ys && list_all (λ y. not (q y)) ys)
    neither p q [] = refl
    neither p q (y ∷ ys) = ap (λ b. not (p y || q y) && b) (neither p q ys) ∙ none_of (p y) (q y) (list_all (λ z. not (p z)) ys) (list_all (λ z. not (q z)) ys)

    swapped : (a b c d : Bool) → ((a && b) && (c && d)) ≡ ((a && c) && (b && d))
    swapped true true c d = refl
    swapped true false true d = refl
    swapped true false false d = refl
    swapped false b c d = refl
