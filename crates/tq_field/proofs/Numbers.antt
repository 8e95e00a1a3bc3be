-- The laws of numbers and their digits.
use Rattle.std.proofs.Common.{◌/◌, ◌%◌, ◌≡◌, ℕ, zero, suc, ◌+◌, ◌*◌, ◌^◌, ◌<◌, ◌≤◌, List, [], ◌∷◌, ◌++◌, length, get_or, refl, sym, ap, ◌∙◌, arith, pow-add, zero-add, add_comm}
use Rattle.std.proofs.Math.Nat.{add_assoc, add-mul, mul_assoc, mod-lt, mod-eq_of_lt, mul-add-div_right, mul-add-mod_self_right, mul-le-mul_right, one-le-pow, pow-succ', div-one, div-add-mod', div-div-eq-div-mul}
use Rattle.std.proofs.lemmas.Nat.{div-mul-add, div_below}
use Rattle.std.proofs.lemmas.List.{length-append}
use Rattle.std.proofs.lemmas.List.Elements.{All-nil, All-cons, All-head, All-tail}
use Rattle.std.specs.Int.{byte_at, bytes_high_first}
use Rattle.byteorder.specs.Endian.{big_from}
use Rattle.tq_field.specs.Digits.{AreBytes, number_of, digits}

-- a power of 256 is above zero
pub power-pos : (width : ℕ) → zero < 256 ^ width
power-pos width = let h = one-le-pow width 256 (omega arith) in omega arith

-- a number has as many digits as are asked for
pub length-digits : (width x : ℕ) → length (digits width x) ≡ width
unfolding digits
length-digits zero x = refl
length-digits (suc width) x = let e = length-digits width x in omega (arith, e)

-- each digit is a byte
pub digits-AreBytes : (width x : ℕ) → AreBytes (digits width x)
unfolding digits
digits-AreBytes zero x = All-nil (λ byte. byte < 256)
digits-AreBytes (suc width) x =
    All-cons (λ byte. byte < 256) _ _ (mod-lt (x / 256 ^ width) (omega arith)) (digits-AreBytes width x)

-- a number of so many digits is below that power of 256
pub number_of-below : (bytes : List ℕ) → AreBytes bytes → number_of bytes < 256 ^ length bytes
unfolding number_of
number_of-below [] are = omega arith
number_of-below (byte ∷ rest) are =
    let first : byte < 256 = All-head (λ b. b < 256) byte rest are in
    let low = number_of-below rest (All-tail (λ b. b < 256) byte rest are) in
    let top : byte * 256 ^ length rest ≤ 255 * 256 ^ length rest = mul-le-mul_right (256 ^ length rest) (omega arith) in
    rw (pow-succ' 256 (length rest)) (omega arith)

-- what stands above the digits that are asked for does not show in them
pub digits-high : (width a x : ℕ) → digits width (a * 256 ^ width + x) ≡ digits width x
unfolding digits
digits-high zero a x = refl
digits-high (suc width) a x =
    let moved : a * 256 ^ suc width ≡ a * 256 * 256 ^ width = ap (λ (p : ℕ). a * p) (pow-succ' 256 width) ∙ sym (mul_assoc a 256 (256 ^ width)) in
    let first : (a * 256 * 256 ^ width + x) / 256 ^ width % 256 ≡ x / 256 ^ width % 256 =
    ap (λ (q : ℕ). q % 256) (mul-add-div_right (power-pos width) (a * 256) x) ∙ mul-add-mod_self_right a 256 (x / 256 ^ width) in
    let low = digits-high width (a * 256) x in
    rw (moved, first, low) refl

-- the digits of what bytes spell are those bytes
pub digits-number_of : (bytes : List ℕ) → AreBytes bytes → digits (length bytes) (number_of bytes) ≡ bytes
unfolding digits number_of
digits-number_of [] are = refl
digits-number_of (byte ∷ rest) are =
    let first : byte < 256 = All-head (λ b. b < 256) byte rest are in
    let tail = All-tail (λ b. b < 256) byte rest are in
    let top = div-mul-add byte (256 ^ length rest) (number_of rest) (number_of-below rest tail) in
    let same = mod-eq_of_lt first in
    let high = digits-high (length rest) byte (number_of rest) in
    let low = digits-number_of rest tail in
    rw (top, same, high, low) refl

-- the same, where the width is known by an equation
pub digits-number_of_width : (width : ℕ) (bytes : List ℕ) → length bytes ≡ width → AreBytes bytes → digits width (number_of bytes) ≡ bytes
digits-number_of_width width bytes long are =
    ap (λ (w : ℕ). digits w (number_of bytes)) (sym long) ∙ digits-number_of bytes are

-- only what is below their power of 256 shows in the digits
pub digits-mod : (width x : ℕ) → digits width (x % 256 ^ width) ≡ digits width x
digits-mod width x =
    sym (digits-high width (x / 256 ^ width) (x % 256 ^ width)) ∙ ap (digits width) (div-add-mod' x (256 ^ width))

-- the digits of a number spell it, where they are enough
pub number_of-digits : (width x : ℕ) → x < 256 ^ width → number_of (digits width x) ≡ x
unfolding digits number_of
number_of-digits zero x fits = omega arith
number_of-digits (suc width) x fits =
    let above : x < 256 * 256 ^ width = rw (pow-succ' 256 width) at fits in
    let first = mod-eq_of_lt (div_below x (256 ^ width) 256 (power-pos width) above) in
    let low : number_of (digits width x) ≡ x % 256 ^ width =
    ap number_of (sym (digits-mod width x)) ∙ number_of-digits width (x % 256 ^ width) (mod-lt x (power-pos width)) in
    rw (first, length-digits width x, low) (div-add-mod' x (256 ^ width))

-- the digits of any number spell what is below their power of 256
pub number_of-digits_mod : (width x : ℕ) → number_of (digits width x) ≡ x % 256 ^ width
number_of-digits_mod width x =
    ap number_of (sym (digits-mod width x)) ∙ number_of-digits width (x % 256 ^ width) (mod-lt x (power-pos width))

-- one digit
pub digits-one : (x : ℕ) → x < 256 → digits 1 x ≡ x ∷ []
unfolding digits
digits-one x fits = ap (λ (d : ℕ). d ∷ []) (ap (λ (y : ℕ). y % 256) (div-one x) ∙ mod-eq_of_lt fits)

-- what one byte spells
pub number_of-one : (x : ℕ) → number_of (x ∷ []) ≡ x
unfolding number_of
number_of-one x = omega arith

-- the digits of a wider number, in two parts
pub digits-add : (high low x : ℕ) → digits (high + low) x ≡ digits high (x / 256 ^ low) ++ digits low x
unfolding digits
digits-add zero low x = ap (λ (w : ℕ). digits w x) (zero-add low)
digits-add (suc high) low x =
    let first : x / 256 ^ (high + low) ≡ x / 256 ^ low / 256 ^ high =
    ap (λ (p : ℕ). x / p) (ap (λ (w : ℕ). 256 ^ w) (add_comm high low) ∙ pow-add 256 low high) ∙ sym (div-div-eq-div-mul x (256 ^ low) (256 ^ high)) in
    let moved : suc high + low ≡ suc (high + low) = omega arith in
    let rest = digits-add high low x in
    rw (moved, first, rest) refl

-- two numbers with the same digits are one, where the digits are enough
pub same_from_digits : (width x y : ℕ) → x < 256 ^ width → y < 256 ^ width → digits width x ≡ digits width y → x ≡ y
same_from_digits width x y fits_x fits_y same =
    sym (number_of-digits width x fits_x) ∙ ap number_of same ∙ number_of-digits width y fits_y

-- two runs of bytes of one length that spell the same number are one
pub same_from_number_of : (xs ys : List ℕ) → length xs ≡ length ys → AreBytes xs → AreBytes ys → number_of xs ≡ number_of ys → xs ≡ ys
same_from_number_of xs ys long are_xs are_ys same =
    sym (digits-number_of_width (length ys) xs long are_xs) ∙ ap (digits (length ys)) same ∙ digits-number_of ys are_ys

-- what two runs spell together
pub number_of-append : (xs ys : List ℕ) → number_of (xs ++ ys) ≡ number_of xs * 256 ^ length ys + number_of ys
unfolding number_of
number_of-append [] ys = omega arith
number_of-append (x ∷ xs) ys =
    let low = number_of-append xs ys in
    let long = length-append xs ys in
    let power = pow-add 256 (length xs) (length ys) in
    let apart = add-mul (x * 256 ^ length xs) (number_of xs) (256 ^ length ys) in
    let turned = mul_assoc x (256 ^ length xs) (256 ^ length ys) in
    rw (long, power, low, apart, turned) (sym (add_assoc _ _ _))

-- a digit by its place: j digits stand below it
pub get_or-digits : (width x i j d : ℕ) → i + suc j ≡ width → get_or (digits width x) i d ≡ x / 256 ^ j % 256
unfolding digits
get_or-digits zero x i j d place = absurd (omega arith)
get_or-digits (suc width) x zero j d place = let e : width ≡ j = omega arith in ap (λ (k : ℕ). x / 256 ^ k % 256) e
get_or-digits (suc width) x (suc i) j d place = get_or-digits width x i j d (omega arith)

-- a byte that `byteorder` writes, by its place
byte_at-digit : (place x : ℕ) → byte_at place x ≡ x / 256 ^ place % 256
byte_at-digit zero x = ap (λ (y : ℕ). y % 256) (sym (div-one x))
byte_at-digit (suc place) x = refl

-- the digits are the bytes that `byteorder` writes, highest first
pub bytes_high_first-digits : (width x : ℕ) → bytes_high_first width x ≡ digits width x
unfolding digits
bytes_high_first-digits zero x = refl
bytes_high_first-digits (suc width) x = rw (byte_at-digit width x, bytes_high_first-digits width x) refl

-- a byte in front moves the places on
big_from-shift : (place width byte : ℕ) (bytes : List ℕ) → big_from (suc place) width (byte ∷ bytes) ≡ big_from place width bytes
big_from-shift place zero byte bytes = refl
big_from-shift place (suc width) byte bytes =
    ap (λ (low : ℕ). get_or bytes place 0 * 256 ^ width + low) (big_from-shift (suc place) width byte bytes)

-- what bytes spell is what `byteorder` reads in them, highest first
big_from-all : (bytes : List ℕ) → big_from 0 (length bytes) bytes ≡ number_of bytes
unfolding number_of
big_from-all [] = refl
big_from-all (byte ∷ rest) =
    ap (λ (low : ℕ). byte * 256 ^ length rest + low) (big_from-shift 0 (length rest) byte rest ∙ big_from-all rest)

-- the same, where the width is known by an equation
pub big_from-number_of : (width : ℕ) (bytes : List ℕ) → length bytes ≡ width → big_from 0 width bytes ≡ number_of bytes
big_from-number_of width bytes long = ap (λ (w : ℕ). big_from 0 w bytes) (sym long) ∙ big_from-all bytes
