-- The numbers that words write.
use Rattle.std.specs.Prelude.{ℕ, ◌&&◌, nat_le, if◌then◌else◌, List, Option, Some, None}
use Rattle.std.specs.Str.Parse.{digits_value}
use Rattle.tq_model.specs.Grammar.{is_numeral}

-- the number that a numeral writes, where 64 bits hold it
abbrev pub number_of : List ℕ → Option ℕ
number_of word = if is_numeral word && nat_le (digits_value 10 word) 18446744073709551615 then Some (digits_value 10 word) else None
