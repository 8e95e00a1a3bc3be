-- A text behind a run of bytes that spell themselves.
use Rattle.std.specs.Prelude.{ℕ, ◌==◌, if◌then◌else◌, List, [], ◌∷◌, Option, Some, None}
use Rattle.tq_model.specs.Grammar.{Backslash, text_from, is_empty_list}

-- what is spelt from a byte on that does not spell itself: the quote at the end, or a backslash
abbrev pub text_behind_run : List ℕ → Option (List ℕ)
text_behind_run [] = None
text_behind_run (b ∷ bytes) =
    if b == 34 then (if is_empty_list bytes then Some [] else None)
    else (if b == 92 then text_from Backslash bytes else None)
