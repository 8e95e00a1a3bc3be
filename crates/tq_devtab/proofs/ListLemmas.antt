-- Tests of all elements of a list, and of all pairs of them.
use Rattle.std.proofs.Common.{◌≡◌, ℕ, zero, suc, Bool, true, false, not, ◌&&◌, List, [], ◌∷◌, ◌++◌, take, refl, sym, ap, ◌∙◌}
use Rattle.std.specs.List.{list_all}
use Rattle.std.proofs.lemmas.Bool.{and_parts, and_from}
use Rattle.std.proofs.lemmas.List.{append-nil}
use Rattle.tq_model.specs.Reading.{no_two}

pub all-weaker : {X : Type 0} (test other : X → Bool) (xs : List X) → ((x : X) → test x ≡ true → other x ≡ true) → list_all test xs ≡ true
    → list_all other xs ≡ true
all-weaker test other [] weaker all = refl
all-weaker test other (x ∷ xs) weaker all =
    let parts = and_parts (test x) (list_all test xs) all in
    and_from (other x) (list_all other xs) (weaker x parts.0) (all-weaker test other xs weaker parts.1)

pub all-take : {X : Type 0} (test : X → Bool) (n : ℕ) (xs : List X) → list_all test xs ≡ true → list_all test (take n xs) ≡ true
all-take test zero xs all = refl
all-take test (suc n) [] all = refl
all-take test (suc n) (x ∷ xs) all =
    let parts = and_parts (test x) (list_all test xs) all in
    and_from (test x) (list_all test (take n xs)) parts.0 (all-take test n xs parts.1)

-- an element may stand first as well as between others
pub all-inserted : {X : Type 0} (test : X → Bool) (xs : List X) (y : X) (ys : List X) → list_all test (xs ++ y ∷ ys) ≡ (test y && list_all test (xs ++ ys))
all-inserted test [] y ys = refl
all-inserted test (x ∷ xs) y ys = ap (λ b. test x && b) (all-inserted test xs y ys) ∙ turned (test x) (test y) (list_all test (xs ++ ys))
  where
    turned : (a b c : Bool) → (a && (b && c)) ≡ (b && (a && c))
    turned true b c = refl
    turned false true c = refl
    turned false false c = refl

pub no_two-inserted : {X : Type 0} (related : X → X → Bool) (xs : List X) (y : X) (ys : List X) → ((a b : X) → related a b ≡ related b a)
    → no_two related (xs ++ y ∷ ys) ≡ (list_all (λ z. not (related y z)) (xs ++ ys) && no_two related (xs ++ ys))
no_two-inserted related [] y ys alike = refl
no_two-inserted related (x ∷ xs) y ys alike =
    (λ i. all-inserted (λ z. not (related x z)) xs y ys i && no_two-inserted related xs y ys alike i)
    ∙ ap (λ b. (not b && list_all (λ z. not (related x z)) (xs ++ ys)) && (list_all (λ z. not (related y z)) (xs ++ ys) && no_two related (xs ++ ys)))
    (alike x y)
    ∙ turned (not (related y x)) (list_all (λ z. not (related x z)) (xs ++ ys)) (list_all (λ z. not (related y z)) (xs ++ ys)) (no_two related (xs ++ ys))
  where
    turned : (a b c d : Bool) → ((a && b) && (c && d)) ≡ ((a && c) && (b && d))
    turned true true c d = refl
    turned true false true d = refl
    turned true false false d = refl
    turned false b c d = refl

-- so may several
pub no_two-moved : {X : Type 0} (related : X → X → Bool) (xs ys zs : List X) → ((a b : X) → related a b ≡ related b a)
    → no_two related (xs ++ (ys ++ zs)) ≡ no_two related (ys ++ (xs ++ zs))
no_two-moved related [] ys zs alike = refl
no_two-moved related (x ∷ xs) ys zs alike =
    (λ i. all-moved (λ z. not (related x z)) xs ys zs i && no_two-moved related xs ys zs alike i)
    ∙ sym (no_two-inserted related ys x (xs ++ zs) alike)
  where
    all-moved : {X : Type 0} (test : X → Bool) (xs ys zs : List X) → list_all test (xs ++ (ys ++ zs)) ≡ list_all test (ys ++ (xs ++ zs))
    all-moved test [] ys zs = refl
    all-moved test (x ∷ xs) ys zs = ap (λ b. test x && b) (all-moved test xs ys zs) ∙ sym (all-inserted test ys x (xs ++ zs))

pub no_two-turned : {X : Type 0} (related : X → X → Bool) (xs ys : List X) → ((a b : X) → related a b ≡ related b a)
    → no_two related (xs ++ ys) ≡ no_two related (ys ++ xs)
no_two-turned related xs ys alike =
    ap (λ l. no_two related (xs ++ l)) (sym (append-nil ys)) ∙ no_two-moved related xs ys [] alike ∙ ap (λ l. no_two related (ys ++ l)) (append-nil xs)

pub no_two-behind : {X : Type 0} (related : X → X → Bool) (xs ys : List X) → no_two related (xs ++ ys) ≡ true → no_two related ys ≡ true
no_two-behind related [] ys none = none
no_two-behind related (x ∷ xs) ys none =
    no_two-behind related xs ys (and_parts (list_all (λ z. not (related x z)) (xs ++ ys)) (no_two related (xs ++ ys)) none).1
