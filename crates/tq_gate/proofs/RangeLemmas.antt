-- Runs of two lists of bytes.
use Rattle.std.proofs.Common.{◌≡◌, ◌<◌, ◌≤◌, ℕ, ◌+◌, List, length, get_or, sym, ◌∙◌, arith}
use Rattle.tq_host.proofs.Bytes.{same_bytes}
use Rattle.tq_field.specs.Places.{run_at}
use Rattle.tq_field.proofs.Runs.{length-run_at, get_or-run_at}

-- equal runs of two lists
pub run_at-same : (at n : ℕ) (a b : List ℕ) → at + n ≤ length a → length b ≡ length a → ((i : ℕ) → at ≤ i → i < at + n → get_or b i 0 ≡ get_or a i 0)
    → run_at at n b ≡ run_at at n a
run_at-same at n a b within long same =
    let la = length-run_at at n a within in
    let lb = length-run_at at n b (omega (arith, long)) in
    same_bytes (run_at at n b) (run_at at n a) (lb ∙ sym la) (λ j lt.
    let below : j < n = omega (arith, lt, la) in
    get_or-run_at at n b j 0 below ∙ same (at + j) (omega arith) (omega arith) ∙ sym (get_or-run_at at n a j 0 below))

-- a run that holds these bytes
pub run_at-is : (at : ℕ) (bytes a : List ℕ) → at + length bytes ≤ length a → ((i : ℕ) → i < length bytes → get_or a (at + i) 0 ≡ get_or bytes i 0)
    → run_at at (length bytes) a ≡ bytes
run_at-is at bytes a within stands =
    same_bytes (run_at at (length bytes) a) bytes (length-run_at at (length bytes) a within) (λ j lt. get_or-run_at at (length bytes) a j 0 lt ∙ stands j lt)
