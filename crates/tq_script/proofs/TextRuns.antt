-- A text begins with a run of bytes that spell themselves.
use Rattle.std.proofs.Common.{◌≡◌, ℕ, ◌==◌, true, false, List, [], ◌∷◌, ◌++◌, Option, Some, None, take, drop, refl, ap, ◌∙◌, inl, inr}
use Rattle.std.proofs.lemmas.Bool.{cases_Bool}
use Rattle.std.specs.Option.{option_map}
use Rattle.tq_types.specs.Text.{needs_escape}
use Rattle.tq_types.proofs.TextRuns.{run, run_within, run-more, run-none}
use Rattle.tq_model.specs.Grammar.{Item, is_printable, text_from, with_text_byte}
use Rattle.tq_script.specs.Runs.{text_behind_run}

unchanged : (text : Option (List ℕ)) → text ≡ option_map (λ bytes. [] ++ bytes) text
unchanged None = refl
unchanged (Some bytes) = refl

in_front : (b : ℕ) (front : List ℕ) (text : Option (List ℕ)) →
    with_text_byte b (option_map (λ bytes. front ++ bytes) text) ≡ option_map (λ bytes. (b ∷ front) ++ bytes) text
in_front b front None = refl
in_front b front (Some bytes) = refl

-- a byte that does not spell itself
behind : (b : ℕ) (bytes : List ℕ) → needs_escape b ≡ true → text_from Item (b ∷ bytes) ≡ text_behind_run (b ∷ bytes)
behind b bytes h = elim (cases_Bool (b == 34)) [
  | inl q ↦ rw q refl
  | inr q ↦ elim (cases_Bool (b == 92)) [
    | inl s ↦ rw (q, s) refl
    | inr s ↦ elim (cases_Bool (is_printable b)) [
      | inl p ↦ let no : false ≡ true = rw (q, s, p) at h in absurd (cc)
      | inr p ↦ rw (q, s, p) refl
    ]
  ]
]

-- a byte that spells itself
itself : (b : ℕ) (bytes : List ℕ) → needs_escape b ≡ false → text_from Item (b ∷ bytes) ≡ with_text_byte b (text_from Item bytes)
itself b bytes h = elim (cases_Bool (b == 34)) [
  | inl q ↦ let no : true ≡ false = rw q at h in absurd (cc)
  | inr q ↦ elim (cases_Bool (b == 92)) [
    | inl s ↦ let no : true ≡ false = rw (q, s) at h in absurd (cc)
    | inr s ↦ elim (cases_Bool (is_printable b)) [
      | inl p ↦ rw (q, s, p) refl
      | inr p ↦ let no : true ≡ false = rw (q, s, p) at h in absurd (cc)
    ]
  ]
]

pub text_from-run : (bytes : List ℕ) → text_from Item bytes ≡ option_map (λ rest. take (run bytes) bytes ++ rest) (text_behind_run (drop (run bytes) bytes))
text_from-run [] = refl
text_from-run (b ∷ bytes) = elim (cases_Bool (needs_escape b)) [
  | inl h ↦ rw (run-none b bytes h) (behind b bytes h ∙ unchanged (text_behind_run (b ∷ bytes)))
  | inr h ↦ rw (run-more b bytes h) (itself b bytes h ∙ ap (with_text_byte b) (text_from-run bytes) ∙ in_front b (take (run bytes) bytes) (text_behind_run (drop (run bytes) bytes)))
]

pub ruleset run_steps = (text_from-run, run_within)
