-- The texts that are names.
use Rattle.std.specs.Prelude.{◌<◌, ◌≤◌, ℕ, Bool, not, ◌&&◌, ◌||◌, ◌==◌, nat_le, IsTrue, List, length, slice_index}

abbrev pub is_between : ℕ → ℕ → ℕ → Bool
is_between low high n = nat_le low n && nat_le n high

-- letters, digits, `_`, and after the first place `-` and `.`
abbrev pub is_allowed_at : ℕ → ℕ → Bool
is_allowed_at at byte =
    is_between 97 122 byte || is_between 65 90 byte || is_between 48 57 byte || byte == 95
    || ((byte == 45 || byte == 46) && not (at == 0))

pub record IsName (text : List ℕ) : Type 0 where
  pub some : 1 ≤ length text
  pub most : length text ≤ 15
  pub allowed : (at : ℕ) → at < length text → IsTrue (is_allowed_at at (slice_index text at))
