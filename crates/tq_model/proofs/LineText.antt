-- No line's text is empty: it ends with a line end.
use Rattle.std.proofs.Common.{ℕ, ◌<◌, ◌++◌, ◌∷◌, [], length, arith, length-append}
use Rattle.std.specs.Prelude.{decimal}
use Rattle.tq_model.specs.declared.answer.Answer.{Answer}
use Rattle.tq_model.specs.Text.{line_text, answer_text}

pub length-line_text : (line : ℕ) (answer : Answer) → 0 < length (line_text line answer)
length-line_text line answer = omega (arith, length-append (decimal line ++ 32 ∷ [] ++ answer_text answer) (10 ∷ []))
