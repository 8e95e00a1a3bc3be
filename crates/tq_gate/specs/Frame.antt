-- The frame in which a payload is given to a log: room for its gate and its length, the payload, and room for a closed gate.
use Rattle.std.specs.Prelude.{ℕ, ◌≤◌, ◌-◌, List, [], ◌∷◌, ◌++◌, length}
use Rattle.tq_field.specs.Digits.{digits}
use Rattle.tq_field.specs.Places.{run_at}

-- 5 bytes stand before the payload, and 1 behind it
abbrev pub IsFrame : List ℕ → Type 0
IsFrame frame = 6 ≤ length frame

abbrev pub payload_in : List ℕ → List ℕ
payload_in frame = run_at 5 (length frame - 6) frame

-- what stands behind a payload's gate: its length, itself and a closed gate
abbrev pub behind_gate : List ℕ → List ℕ
behind_gate payload = digits 4 (length payload) ++ (payload ++ 0 ∷ [])
