-- What `parse` gives at a numeral.
use Rattle.std.proofs.Common.{◌≡◌, ℕ, ◌<◌, ◌≤◌, ◌^◌, true, List, [], ◌∷◌, length, Some, None, Result, Ok, Err, refl, ap, sym, ◌∙◌, inl, inr, arith, rules}
use Rattle.std.proofs.lemmas.Bool.{cases_lt, and_parts, le-leb, lt-leb, leb-true}
use Rattle.std.proofs.lemmas.Bool.Decides.{nat_tests}
use Rattle.std.proofs.lemmas.Str.{IsUtf8-from_ascii}
use Rattle.std.proofs.lemmas.Str.Ascii.{IsAscii-nil, IsAscii-cons}
use Rattle.std.proofs.lemmas.Str.Parse.{IsNumeralModel, numerals_by_value, parse_digits}
use Rattle.std.specs.Char.{is_ascii_digit}
use Rattle.std.specs.List.{list_all}
use Rattle.std.specs.Result.{result_ok}
use Rattle.std.specs.Str.{IsAscii, IsUtf8}
use Rattle.std.specs.Str.Parse.{ParsesUnsigned, digits_value}
use Rattle.tq_model.specs.Grammar.{is_numeral}
use Rattle.tq_script.specs.Numerals.{number_of}

digit-ascii : (b : ℕ) → is_ascii_digit b ≡ true → b < 128
digit-ascii b h = grind (arith, nat_tests)

IsAscii-digits : (word : List ℕ) → list_all is_ascii_digit word ≡ true → IsAscii word
IsAscii-digits [] h = IsAscii-nil
IsAscii-digits (b ∷ word) h =
    let parts = and_parts (is_ascii_digit b) (list_all is_ascii_digit word) h in
    IsAscii-cons b word (digit-ascii b parts.0) (IsAscii-digits word parts.1)

numeral-digits : (word : List ℕ) → is_numeral word ≡ true → list_all is_ascii_digit word ≡ true
numeral-digits word h = (and_parts _ _ h).1

numeral-some : (word : List ℕ) → is_numeral word ≡ true → 0 < length word
numeral-some word h = let is = leb-true 1 (length word) (and_parts _ _ (and_parts _ _ h).0).0 in omega arith

-- a numeral is text
pub IsUtf8-numeral : (word : List ℕ) → is_numeral word ≡ true → IsUtf8 word
IsUtf8-numeral word h = IsUtf8-from_ascii word (IsAscii-digits word (numeral-digits word h))

own : IsNumeralModel (λ ds. list_all is_ascii_digit ds ≡ true) (digits_value 10)
own = numerals_by_value _ (search rules)

number_of-fits : (word : List ℕ) → is_numeral word ≡ true → digits_value 10 word < 2 ^ 64 → number_of word ≡ Some (digits_value 10 word)
number_of-fits word h l = rw (h, le-leb (digits_value 10 word) 18446744073709551615 (omega arith)) refl

number_of-large : (word : List ℕ) → is_numeral word ≡ true → 2 ^ 64 ≤ digits_value 10 word → number_of word ≡ None
number_of-large word h l = rw (h, lt-leb (digits_value 10 word) 18446744073709551615 (omega arith)) refl

-- what is read of a numeral
pub number_of-read : {E : Type 0} (word : List ℕ) (r : Result ℕ E) → is_numeral word ≡ true → ParsesUnsigned 64 10 word r → result_ok r ≡ number_of word
number_of-read {E} word (Ok x) h read =
    let is = parse_digits own {E = E} 64 word (Ok x) read (numeral-digits word h) in
    ap Some is.1 ∙ sym (number_of-fits word h is.0.1)
number_of-read {E} word (Err e) h read =
    let is = parse_digits own {E = E} 64 word (Err e) read (numeral-digits word h) in
    elim (cases_lt (digits_value 10 word) (2 ^ 64)) [
      | inl l ↦ absurd (is (numeral-some word h, l))
      | inr l ↦ sym (number_of-large word h l)
    ]
