-- How bytes stand in a text.
use Rattle.std.specs.Prelude.{ℕ, Bool, ◌==◌, ◌||◌, ◌&&◌, nat_le, not}

-- a byte that cannot stand in a text as itself: a quote, a backslash, and what is not printable
abbrev pub needs_escape : ℕ → Bool
needs_escape b = b == 34 || b == 92 || not (nat_le 32 b && nat_le b 126)
