-- Runs of bytes and numbers at a place in a list of bytes.
use Rattle.std.specs.Prelude.{ℕ, ◌+◌, List, ◌++◌, take, drop}
use Rattle.tq_field.specs.Digits.{number_of, digits}

-- the `n` bytes from place `at`
abbrev pub run_at : ℕ → ℕ → List ℕ → List ℕ
run_at at n bytes = take n (drop at bytes)

-- the bytes with `run` in place of the `n` bytes from place `at`
abbrev pub with_run : ℕ → ℕ → List ℕ → List ℕ → List ℕ
with_run at n run bytes = take at bytes ++ (run ++ drop (at + n) bytes)

-- the number that the `width` bytes from place `at` spell
abbrev pub number_at : ℕ → ℕ → List ℕ → ℕ
number_at at width bytes = number_of (run_at at width bytes)

-- the bytes with the digits of `x` in place of the `width` bytes from place `at`
abbrev pub with_number : ℕ → ℕ → ℕ → List ℕ → List ℕ
with_number at width x bytes = with_run at width (digits width x) bytes
