-- What a first place says.
use Rattle.std.proofs.Common.{◌≡◌, ℕ, ◌+◌, ◌<◌, ◌≤◌, Bool, true, false, List, [], ◌∷◌, length, get_or, refl, Option, Some, None, inl, inr, arith, ltb}
use Rattle.std.proofs.lemmas.Bool.{cases_Bool, ltb-true, ltb-false, lt-ltb, le-ltb}
use Rattle.std.proofs.lemmas.List.Sums.{position_or_len_is}
use Rattle.memchr.specs.Find.{IsFirstByte}
use Rattle.std.specs.List.{list_any, position, position_or_len}

any_before : {X : Type 0} (p : X → Bool) (xs : List X) → position_or_len p xs < length xs → list_any p xs ≡ true
any_before p [] l = absurd (omega arith)
any_before p (x ∷ xs) l = elim (cases_Bool (p x)) [
  | inl h ↦ rw h refl
  | inr h ↦ let later : 1 + position_or_len p xs < length (x ∷ xs) = rw h at l in rw h (any_before p xs (omega arith))
]

module _ {X : Type 0} (p : X → Bool) (xs : List X) where
  pub position-some : (i : ℕ) → Some i ≡ position p xs → (i ≡ position_or_len p xs) × (position_or_len p xs < length xs)
  position-some i e = elim (cases_Bool (ltb (position_or_len p xs) (length xs))) [
    | inl h ↦ let is : Some i ≡ Some (position_or_len p xs) = rw h at e in (cc, ltb-true _ _ h)
    | inr h ↦ let none : Option ℕ = None in let is : Some i ≡ none = rw h at e in absurd (cc)
  ]

  pub position-none : None ≡ position p xs → length xs ≤ position_or_len p xs
  position-none e = elim (cases_Bool (ltb (position_or_len p xs) (length xs))) [
    | inl h ↦ let none : Option ℕ = None in let is : none ≡ Some (position_or_len p xs) = rw h at e in absurd (cc)
    | inr h ↦ ltb-false _ _ h
  ]

  -- whether any passes
  pub list_any-some : position_or_len p xs < length xs → list_any p xs ≡ true
  list_any-some = any_before p xs

-- the answer of a search for a byte

is_false : (b : Bool) → (b ≡ true → ⊥) → b ≡ false
is_false true fails = absurd (fails refl)
is_false false fails = refl

first_place : (p : ℕ → Bool) (bytes : List ℕ) (at : ℕ) → at ≤ length bytes → ((k : ℕ) → k < at → p (get_or bytes k 0) ≡ true → ⊥) → (at < length bytes → p (get_or bytes at 0) ≡ true) → position_or_len p bytes ≡ at
first_place p bytes at within before found = position_or_len_is p bytes at 0 within (λ k below. is_false _ (before k below)) found

pub position_of_first : (p : ℕ → Bool) (bytes : List ℕ) (r : Option ℕ) → IsFirstByte p bytes r → r ≡ position p bytes
position_of_first p bytes None h =
    let none : position_or_len p bytes ≡ length bytes = first_place p bytes (length bytes) (omega arith) (λ k below. h k (omega arith) below) (λ l. absurd (omega arith)) in
    let no : ltb (length bytes) (length bytes) ≡ false = le-ltb _ _ (omega arith) in
    rw (none, no) refl
position_of_first p bytes (Some at) h =
    let first : position_or_len p bytes ≡ at = first_place p bytes at (omega (arith, h.0.high)) (λ k below. h.0.before k (omega arith) below) (λ l. h.1) in
    let yes : ltb at (length bytes) ≡ true = lt-ltb _ _ h.0.high in
    rw (first, yes) refl
