use Rattle.std.proofs.Common.{◌≡◌, ℕ, ◌≤◌, List, length, Option, Some, None, not, inl, inr, arith, ltb}
use Rattle.std.proofs.lemmas.Bool.{cases_Bool, ltb-false}
use Rattle.std.proofs.lemmas.List.Sums.{prefix_len-le-length}
use Rattle.std.specs.List.{position, position_or_len}
use Rattle.tq_types.specs.Text.{needs_escape}
use Rattle.tq_types.proofs.texts.plain_run.Goals as goal

none_is : (bytes : List ℕ) → None ≡ position needs_escape bytes → length bytes ≤ position_or_len needs_escape bytes
none_is bytes e = elim (cases_Bool (ltb (position_or_len needs_escape bytes) (length bytes))) [
  | inl h ↦ let none : Option ℕ = None in let is : none ≡ Some (position_or_len needs_escape bytes) = rw h at e in absurd (cc)
  | inr h ↦ ltb-false _ _ h
]

pub returns-in-None : goal.returns-in-None
returns-in-None c =
    let bytes = c.args.bytes.now in
    omega (arith, none_is bytes c.in-None.ensures, prefix_len-le-length (λ b. not (needs_escape b)) bytes)
