-- The first line of a script.
use Rattle.std.proofs.Common.{◌≡◌, ℕ, suc, ◌<◌, ◌≤◌, ◌==◌, true, false, List, [], ◌∷◌, length, take, drop, refl, ap, ◌∙◌, inl, inr, arith}
use Rattle.std.proofs.lemmas.Bool.{cases_Bool}
use Rattle.std.specs.List.{position_or_len}
use Rattle.tq_model.specs.Grammar.{script_lines, with_byte}

-- where the first line ends
abbrev pub line_end : List ℕ → ℕ
line_end script = position_or_len (λ b. b == 10) script

line_end-more : (b : ℕ) (script : List ℕ) → (b == 10) ≡ false → line_end (b ∷ script) ≡ suc (line_end script)
line_end-more b script h = rw h (omega arith)

line_end-none : (b : ℕ) (script : List ℕ) → (b == 10) ≡ true → line_end (b ∷ script) ≡ 0
line_end-none b script h = rw h refl

script_lines-end : (b : ℕ) (script : List ℕ) → (b == 10) ≡ true → script_lines (b ∷ script) ≡ [] ∷ script_lines script
script_lines-end b script h = rw h refl

script_lines-byte : (b : ℕ) (script : List ℕ) → (b == 10) ≡ false → script_lines (b ∷ script) ≡ with_byte b (script_lines script)
script_lines-byte b script h = rw h refl

-- a line with an end
pub script_lines-ended : (script : List ℕ) → line_end script < length script →
    script_lines script ≡ take (line_end script) script ∷ script_lines (drop (suc (line_end script)) script)
script_lines-ended [] l = absurd (omega arith)
script_lines-ended (b ∷ script) l = elim (cases_Bool (b == 10)) [
  | inl h ↦ rw (line_end-none b script h) (script_lines-end b script h)
  | inr h ↦
      let more : line_end (b ∷ script) ≡ suc (line_end script) = line_end-more b script h in
      rw more (script_lines-byte b script h ∙ ap (with_byte b) (script_lines-ended script (omega arith)))
]

-- bytes without an end
pub script_lines-unended : (script : List ℕ) → 1 ≤ length script → length script ≤ line_end script → script_lines script ≡ script ∷ []
script_lines-unended [] l n = absurd (omega arith)
script_lines-unended (b ∷ []) l n = elim (cases_Bool (b == 10)) [
  | inl h ↦ absurd (omega (arith, line_end-none b [] h))
  | inr h ↦ script_lines-byte b [] h
]
script_lines-unended (b ∷ a ∷ script) l n = elim (cases_Bool (b == 10)) [
  | inl h ↦ absurd (omega (arith, line_end-none b (a ∷ script) h))
  | inr h ↦ script_lines-byte b (a ∷ script) h ∙ ap (with_byte b) (script_lines-unended (a ∷ script) (omega arith) (omega (arith, line_end-more b (a ∷ script) h)))
]
