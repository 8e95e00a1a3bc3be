-- Which texts are names.
use Rattle.std.specs.Prelude.{ℕ, ◌&&◌, nat_le, Bool, false, List, [], ◌∷◌, length}
use Rattle.std.specs.List.{list_all}
use Rattle.tq_types.specs.Name.{is_allowed_at}

-- 1 to 15 letters, digits, `_`, `.` and `-`, the first neither `-` nor `.`
abbrev pub is_name : List ℕ → Bool
is_name [] = false
is_name (byte ∷ bytes) = is_allowed_at 0 byte && list_all (is_allowed_at 1) bytes && nat_le (length bytes) 14
