-- What was given with a key, and what is left without it.
use Rattle.std.proofs.Common.{◌≡◌, ℕ, suc, ◌<◌, ◌≤◌, true, false, List, [], ◌∷◌, length, get_or, map, Option, Some, None, refl, sym, ap, inl, inr, ◌∙◌, arith}
use Rattle.std.proofs.lemmas.Bool.{cases_Bool}
use Rattle.std.proofs.lemmas.Slice.Eq.{bytes_eq-Decides}
use Rattle.std.specs.Prelude.{if◌then◌else◌}
use Rattle.std.specs.List.{position, position_or_len, remove}
use Rattle.tq_model.specs.declared.grammar.Key.{Key}
use Rattle.tq_model.specs.declared.grammar.Value.{Value}
use Rattle.tq_model.specs.Grammar.{is_same_key, key_word, value_given}
use Rattle.tq_script.proofs.Positions.{position-some, position-none}
use Rattle.tq_script.specs.Rows.{given_of}
use Rattle.tq_script.specs.declared.given.Given.{Given}

pub same_word : (one other : Key) → is_same_key one other ≡ true → key_word one ≡ key_word other
same_word one other e = (bytes_eq-Decides (key_word one) (key_word other)).0 e

-- another key than one of two that are the same is another than both
pub other_key : (key other third : Key) → is_same_key other key ≡ false → is_same_key key third ≡ true → is_same_key other third ≡ false
other_key key other third differ same = rw (← same_word key third same) differ

-- where the key stands first
abbrev place : Key → List Given → ℕ
place key given = position_or_len (λ each. is_same_key key each.key) given

place-here : (key : Key) (g : Given) (given : List Given) → is_same_key key g.key ≡ true → place key (g ∷ given) ≡ 0
place-here key g given h = rw h refl

place-later : (key : Key) (g : Given) (given : List Given) → is_same_key key g.key ≡ false → place key (g ∷ given) ≡ suc (place key given)
place-later key g given h = rw h (omega arith)

nowhere : (key : Key) (given : List Given) → length given ≤ place key given → value_given key (map given_of given) ≡ None
nowhere key [] l = refl
nowhere key (g ∷ given) l = elim (cases_Bool (is_same_key key g.key)) [
  | inl h ↦ absurd (omega (arith, place-here key g given h))
  | inr h ↦ let later = place-later key g given h in rw h (nowhere key given (omega arith))
]

there : (key : Key) (given : List Given) (d : Given) → place key given < length given → value_given key (map given_of given) ≡ Some (get_or given (place key given) d).value
there key [] d l = absurd (omega arith)
there key (g ∷ given) d l = elim (cases_Bool (is_same_key key g.key)) [
  | inl h ↦ rw h refl
  | inr h ↦ let later = place-later key g given h in rw (later, h) (there key given d (omega arith))
]

-- what another key gave stands behind the first value or later
value_given-later : (other : Key) (g : Given) (given more : List Given) → value_given other (map given_of given) ≡ value_given other (map given_of more) →
    value_given other (map given_of (g ∷ given)) ≡ value_given other (map given_of (g ∷ more))
value_given-later other g given more e = ap (λ (rest : Option Value). if is_same_key other g.key then Some g.value else rest) e

others : (key other : Key) (given : List Given) → is_same_key other key ≡ false → place key given < length given →
    value_given other (map given_of (remove given (place key given))) ≡ value_given other (map given_of given)
others key other [] differ l = absurd (omega arith)
others key other (g ∷ given) differ l = elim (cases_Bool (is_same_key key g.key)) [
  | inl h ↦ rw (place-here key g given h, other_key key other g.key differ h) refl
  | inr h ↦ let later = place-later key g given h in
      rw later (value_given-later other g (remove given (place key given)) given (others key other given differ (omega arith)))
]

module _ (key : Key) (given : List Given) where
  -- where no key is this one
  pub value_given-none : None ≡ position (λ each. is_same_key key each.key) given → value_given key (map given_of given) ≡ None
  value_given-none e = nowhere key given (position-none (λ (each : Given). is_same_key key each.key) given e)

  -- at the first place of the key
  pub value_given-at : (at : ℕ) (g : Given) → Some at ≡ position (λ each. is_same_key key each.key) given → g ≡ get_or given at g → value_given key (map given_of given) ≡ Some g.value
  value_given-at at g e is =
      let first = position-some (λ (each : Given). is_same_key key each.key) given at e in
      there key given g first.1 ∙ ap (λ (each : Given). Some each.value) (ap (λ n. get_or given n g) (sym first.0) ∙ sym is)

  -- what other keys gave is still there
  pub value_given-others : (at : ℕ) (other : Key) → Some at ≡ position (λ each. is_same_key key each.key) given → is_same_key other key ≡ false →
      value_given other (map given_of (remove given at)) ≡ value_given other (map given_of given)
  value_given-others at other e differ =
      let first = position-some (λ (each : Given). is_same_key key each.key) given at e in
      rw first.0 (others key other given differ first.1)
