-- The text of bytes begins with a run of bytes that stand as themselves.
use Rattle.std.proofs.Common.{◌≡◌, ℕ, ◌==◌, true, false, List, [], ◌∷◌, ◌++◌, take, drop, refl, ap, sym, ◌∙◌, append_assoc, inl, inr}
use Rattle.std.proofs.lemmas.Bool.{cases_Bool}
use Rattle.std.specs.List.{flat_map}
use Rattle.tq_types.specs.Text.{needs_escape}
use Rattle.tq_types.proofs.TextRuns.{run, run-more, run-none}
use Rattle.tq_model.specs.Grammar.{is_printable}
use Rattle.tq_model.specs.Text.{byte_text}

itself : (b : ℕ) → needs_escape b ≡ false → byte_text b ≡ b ∷ []
itself b h = elim (cases_Bool (b == 34)) [
  | inl q ↦ let fails : true ≡ false = rw q at h in absurd (cc)
  | inr q ↦ elim (cases_Bool (b == 92)) [
    | inl s ↦ let fails : true ≡ false = rw (q, s) at h in absurd (cc)
    | inr s ↦ elim (cases_Bool (is_printable b)) [
      | inl p ↦ rw (q, s, p) refl
      | inr p ↦ let fails : true ≡ false = rw (q, s, p) at h in absurd (cc)
    ]
  ]
]

flat_map-run : (bytes : List ℕ) → flat_map byte_text bytes ≡ take (run bytes) bytes ++ flat_map byte_text (drop (run bytes) bytes)
flat_map-run [] = refl
flat_map-run (b ∷ bytes) = elim (cases_Bool (needs_escape b)) [
  | inl h ↦ rw (run-none b bytes h) refl
  | inr h ↦ rw (run-more b bytes h, itself b h) (ap (λ (rest : List ℕ). b ∷ rest) (flat_map-run bytes))
]

-- the run is appended, and what stands behind it is still to come
pub run_appended : (text bytes front rest all : List ℕ) (n : ℕ) → n ≡ run bytes → front ≡ take n bytes → rest ≡ drop n bytes → all ≡ text ++ front →
    all ++ flat_map byte_text rest ≡ text ++ flat_map byte_text bytes
run_appended text bytes front rest all n is first behind whole =
    rw (whole, first, behind, is) (append_assoc text (take (run bytes) bytes) (flat_map byte_text (drop (run bytes) bytes)) ∙ ap (λ (rest : List ℕ). text ++ rest) (sym (flat_map-run bytes)))
