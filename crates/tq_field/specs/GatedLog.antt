-- A gated log: payloads one behind another, each behind an open gate and its length in 4 bytes.
use Rattle.std.specs.Prelude.{ℕ, zero, suc, ◌+◌, ◌==◌, nat_le, if◌then◌else◌, Option, None, Some, List, [], ◌∷◌, length, get_or}
use Rattle.std.specs.Option.{option_map}
use Rattle.tq_field.specs.Places.{run_at, number_at}

-- The payloads from place p of a log on. An open gate, a length in 4 bytes and so many bytes are a payload, and a further byte has
-- to follow; else there is no reading. The log ends where no open gate stands. At most so many payloads are read.
unfoldable pub reading_from : ℕ → ℕ → List ℕ → Option (List (List ℕ))
reading_from zero p log = Some []
reading_from (suc most) p log =
    if get_or log p 0 == 79
    then (if nat_le (p + 6 + number_at (p + 1) 4 log) (length log)
    then option_map (λ payloads. run_at (p + 5) (number_at (p + 1) 4 log) log ∷ payloads) (reading_from most (p + (5 + number_at (p + 1) 4 log)) log)
    else None)
    else Some []

-- the payloads of a log
abbrev pub log_reading : List ℕ → Option (List (List ℕ))
log_reading log = reading_from (length log) 0 log

-- where payloads end that stand from place 0 on: each has an open gate and its length before it
abbrev pub end_of : List (List ℕ) → ℕ
end_of [] = 0
end_of (payload ∷ payloads) = 5 + length payload + end_of payloads
