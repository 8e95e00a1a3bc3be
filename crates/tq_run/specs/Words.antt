-- The words of the command line.
use Rattle.std.specs.Prelude.{ℕ, ◌==◌, ◌&&◌, not, nat_lt, Bool, if◌then◌else◌, List, [], ◌∷◌, length, get_or, codes, Option, Some, None}
use Rattle.std.specs.Str.{bytes_eq}

-- a word that may name a device: it is not empty and does not begin with a dash
abbrev pub is_device_word : List ℕ → Bool
is_device_word word = nat_lt 0 (length word) && not (get_or word 0 0 == 45)

-- the device word, where the words are of the form: run DEVICE
abbrev pub device_word : List (List ℕ) → Option (List ℕ)
device_word [] = None
device_word (verb ∷ []) = None
device_word (verb ∷ path ∷ []) = if bytes_eq verb (codes "run") && is_device_word path then Some path else None
device_word (verb ∷ path ∷ more ∷ words) = None
