-- Runs of bytes that stand in a text as themselves.
use Rattle.std.proofs.Common.{◌≡◌, ℕ, suc, ◌≤◌, true, false, not, List, ◌∷◌, length, refl, arith}
use Rattle.std.proofs.lemmas.List.Sums.{prefix_len-le-length}
use Rattle.std.specs.List.{position_or_len}
use Rattle.tq_types.specs.Text.{needs_escape}

-- how long the first one is
abbrev pub run : List ℕ → ℕ
run bytes = position_or_len needs_escape bytes

pub run_within : (bytes : List ℕ) → run bytes ≤ length bytes
run_within bytes = prefix_len-le-length (λ b. not (needs_escape b)) bytes

pub run-more : (b : ℕ) (bytes : List ℕ) → needs_escape b ≡ false → run (b ∷ bytes) ≡ suc (run bytes)
run-more b bytes h = rw h (omega arith)

pub run-none : (b : ℕ) (bytes : List ℕ) → needs_escape b ≡ true → run (b ∷ bytes) ≡ 0
run-none b bytes h = rw h refl
