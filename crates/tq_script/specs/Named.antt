-- Names of flags.
use Rattle.std.specs.Prelude.{ℕ, Bool, if◌then◌else◌, List, Option, None}
use Rattle.std.specs.List.{list_any}
use Rattle.std.specs.Str.{bytes_eq}
use Rattle.tq_model.specs.declared.calls.Flag.{Flag}
use Rattle.tq_model.specs.Grammar.{flag_among, flag_word, known_flags}

-- whether the word is the name of one of the flags
abbrev pub names_one : List Flag → List ℕ → Bool
names_one flags word = list_any (λ flag. bytes_eq word (flag_word flag)) flags

-- the flag that a word names behind other flags, each of which may be named only once
abbrev pub next_flag : List Flag → List ℕ → Option Flag
next_flag before word = if names_one before word then None else flag_among known_flags word
