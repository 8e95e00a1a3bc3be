-- Numbers as big-endian digits to the base 256, the highest first.
use Rattle.std.specs.Prelude.{ℕ, zero, suc, ◌+◌, ◌*◌, ◌/◌, ◌%◌, ◌^◌, ◌<◌, List, [], ◌∷◌, length, All}

-- each number of the list is a byte
abbrev pub AreBytes : List ℕ → Type 0
AreBytes bytes = All (λ byte. byte < 256) bytes

-- the number that a list of digits spells
unfoldable pub number_of : List ℕ → ℕ
number_of [] = 0
number_of (digit ∷ rest) = digit * 256 ^ length rest + number_of rest

-- the lowest `width` digits of a number
unfoldable pub digits : ℕ → ℕ → List ℕ
digits zero n = []
digits (suc width) n = n / 256 ^ width % 256 ∷ digits width n
