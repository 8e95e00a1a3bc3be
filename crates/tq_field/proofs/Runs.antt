-- What a run or a number written at a place changes, and what is read there and elsewhere.
-- With `written : new ≡ with_number at width x old` a caller has, above the number,
-- `ap (number_at i k) written ∙ number_at-with_number_above i k at width _ _ fits (omega arith)`.
use Rattle.std.proofs.Common.{◌≡◌, ℕ, ◌+◌, ◌-◌, ◌^◌, ◌<◌, ◌≤◌, ◌/◌, ◌%◌, suc, List, [], ◌∷◌, ◌++◌, length, take, drop, get_or, sym, ap, subst, ◌∙◌, arith}
use Rattle.std.proofs.lemmas.List.{take-take, length-append, length-take-le, length-drop, take-append-drop, take-append-le, take_at, drop_at, drop_more, drop-append-le, drop-drop, get_or_append_left, get_or-append_right, get_or-take, get_or-drop}
use Rattle.std.proofs.lemmas.List.Elements.{All-append, All-take, All-drop}
use Rattle.tq_field.specs.Digits.{AreBytes, number_of, digits}
use Rattle.tq_field.specs.Places.{run_at, with_run, number_at, with_number}
use Rattle.tq_field.proofs.Numbers.{length-digits, digits-AreBytes, digits-number_of_width, number_of-below, number_of-digits, number_of-one, get_or-digits}

-- ---- one run

-- a run that lies within the bytes has its length
pub length-run_at : (at n : ℕ) (bytes : List ℕ) → at + n ≤ length bytes → length (run_at at n bytes) ≡ n
length-run_at at n bytes within =
    let rest = length-drop at bytes in length-take-le n (drop at bytes) (omega arith)

-- a run of bytes is bytes
pub run_at-AreBytes : (at n : ℕ) (bytes : List ℕ) → AreBytes bytes → AreBytes (run_at at n bytes)
run_at-AreBytes at n bytes are =
    All-take (λ byte. byte < 256) n (drop at bytes) (All-drop (λ byte. byte < 256) at bytes are)

-- a byte of a run
pub get_or-run_at : (at n : ℕ) (bytes : List ℕ) (i d : ℕ) → i < n → get_or (run_at at n bytes) i d ≡ get_or bytes (at + i) d
get_or-run_at at n bytes i d below = get_or-take n (drop at bytes) i d below ∙ get_or-drop at bytes i d

-- a run that lies in the first of two parts
pub run_at-append_left : (at n : ℕ) (xs ys : List ℕ) → at + n ≤ length xs → run_at at n (xs ++ ys) ≡ run_at at n xs
run_at-append_left at n xs ys within =
    let rest = length-drop at xs in
    ap (take n) (drop-append-le at xs ys (omega arith)) ∙ take-append-le n (drop at xs) ys (omega arith)

-- a run that lies in the second of two parts
pub run_at-append_right : (at n start : ℕ) (xs ys : List ℕ) → length xs ≡ start → run_at (start + at) n (xs ++ ys) ≡ run_at at n ys
run_at-append_right at n start xs ys long =
    ap (take n) (sym (drop-drop at start (xs ++ ys)) ∙ ap (drop at) (drop_at xs ys start long))

-- a run that stands between two parts
pub run_at-here : (at n : ℕ) (xs run ys : List ℕ) → length xs ≡ at → length run ≡ n → run_at at n (xs ++ (run ++ ys)) ≡ run
run_at-here at n xs run ys long_xs long_run =
    ap (take n) (drop_at xs (run ++ ys) at long_xs) ∙ take_at run ys n long_run

-- ---- a run that is written over another

-- the length stays
pub length-with_run : (at n : ℕ) (run bytes : List ℕ) → length run ≡ n → at + n ≤ length bytes → length (with_run at n run bytes) ≡ length bytes
length-with_run at n run bytes long within =
    let front = length-take-le at bytes (omega arith) in
    let rest = length-drop (at + n) bytes in
    let tail = length-append run (drop (at + n) bytes) in
    let all = length-append (take at bytes) (run ++ drop (at + n) bytes) in
    omega arith

-- bytes stay bytes
pub with_run-AreBytes : (at n : ℕ) (run bytes : List ℕ) → AreBytes run → AreBytes bytes → AreBytes (with_run at n run bytes)
with_run-AreBytes at n run bytes are_run are =
    let P : ℕ → Type 0 = λ byte. byte < 256 in
    All-append P (take at bytes) (run ++ drop (at + n) bytes) (All-take P at bytes are) (All-append P run (drop (at + n) bytes) are_run (All-drop P (at + n) bytes are))

-- what was written is read back
pub run_at-with_run : (at n : ℕ) (run bytes : List ℕ) → length run ≡ n → at + n ≤ length bytes → run_at at n (with_run at n run bytes) ≡ run
run_at-with_run at n run bytes long within =
    run_at-here at n (take at bytes) run (drop (at + n) bytes) (length-take-le at bytes (omega arith)) long

-- a run below the place reads as before
pub run_at-with_run_below : (i k at n : ℕ) (run bytes : List ℕ) → i + k ≤ at → at + n ≤ length bytes → run_at i k (with_run at n run bytes) ≡ run_at i k bytes
run_at-with_run_below i k at n run bytes below within =
    let front = length-take-le at bytes (omega arith) in
    let whole = run_at-append_left i k (take at bytes) (drop at bytes) (omega arith) in
    run_at-append_left i k (take at bytes) (run ++ drop (at + n) bytes) (omega arith)
    ∙ sym whole ∙ ap (run_at i k) (take-append-drop at bytes)

-- what stands past the run
pub drop-with_run : (at n : ℕ) (run bytes : List ℕ) → length run ≡ n → at + n ≤ length bytes → drop (at + n) (with_run at n run bytes) ≡ drop (at + n) bytes
drop-with_run at n run bytes long within =
    let front = length-take-le at bytes (omega arith) in
    sym (drop-drop n at (with_run at n run bytes))
    ∙ ap (drop n) (drop_at (take at bytes) (run ++ drop (at + n) bytes) at front)
    ∙ drop_at run (drop (at + n) bytes) n long

-- what stands before the run
pub take-with_run : (at n : ℕ) (run bytes : List ℕ) → at ≤ length bytes → take at (with_run at n run bytes) ≡ take at bytes
take-with_run at n run bytes within =
    take_at (take at bytes) (run ++ drop (at + n) bytes) at (length-take-le at bytes within)

-- what stands past a place above the run
pub drop-with_run_above : (i at n : ℕ) (run bytes : List ℕ) → length run ≡ n → at + n ≤ length bytes → at + n ≤ i → drop i (with_run at n run bytes) ≡ drop i bytes
drop-with_run_above i at n run bytes long within above =
    let past : at + n + (i - (at + n)) ≡ i = omega arith in
    let moved = λ (xs : List ℕ). ap (λ (j : ℕ). drop j xs) (sym past) ∙ sym (drop-drop (i - (at + n)) (at + n) xs) in
    moved (with_run at n run bytes) ∙ ap (drop (i - (at + n))) (drop-with_run at n run bytes long within) ∙ sym (moved bytes)

-- what stands before a place below the run
pub take-with_run_below : (i at n : ℕ) (run bytes : List ℕ) → i ≤ at → at ≤ length bytes → take i (with_run at n run bytes) ≡ take i bytes
take-with_run_below i at n run bytes below within =
    sym (take-take i at (with_run at n run bytes) below) ∙ ap (take i) (take-with_run at n run bytes within) ∙ take-take i at bytes below

-- a run above the place reads as before
pub run_at-with_run_above : (i k at n : ℕ) (run bytes : List ℕ) → length run ≡ n → at + n ≤ length bytes → at + n ≤ i → run_at i k (with_run at n run bytes) ≡ run_at i k bytes
run_at-with_run_above i k at n run bytes long within above =
    ap (take k) (drop-with_run_above i at n run bytes long within above)

-- a run that is written where it stands changes nothing
pub with_run-run_at : (at n : ℕ) (bytes : List ℕ) → with_run at n (run_at at n bytes) bytes ≡ bytes
with_run-run_at at n bytes =
    ap (λ (rest : List ℕ). take at bytes ++ (run_at at n bytes ++ rest)) (sym (drop-drop n at bytes))
    ∙ ap (λ (rest : List ℕ). take at bytes ++ rest) (take-append-drop n (drop at bytes))
    ∙ take-append-drop at bytes

-- a byte below the place
pub get_or-with_run_below : (at n : ℕ) (run bytes : List ℕ) (i d : ℕ) → i < at → at ≤ length bytes → get_or (with_run at n run bytes) i d ≡ get_or bytes i d
get_or-with_run_below at n run bytes i d below within =
    let front = length-take-le at bytes within in
    get_or_append_left (take at bytes) (run ++ drop (at + n) bytes) d i (omega arith) ∙ get_or-take at bytes i d below

-- a byte of the run
pub get_or-with_run : (at n : ℕ) (run bytes : List ℕ) (i d : ℕ) → length run ≡ n → at ≤ length bytes → i < n → get_or (with_run at n run bytes) (at + i) d ≡ get_or run i d
get_or-with_run at n run bytes i d long within below =
    let front = length-take-le at bytes within in
    let moved : at + i - at ≡ i = omega arith in
    get_or-append_right (take at bytes) (run ++ drop (at + n) bytes) at (at + i) d front (omega arith)
    ∙ ap (λ (j : ℕ). get_or (run ++ drop (at + n) bytes) j d) moved
    ∙ get_or_append_left run (drop (at + n) bytes) d i (omega arith)

-- a byte above the run
pub get_or-with_run_above : (at n : ℕ) (run bytes : List ℕ) (i d : ℕ) → length run ≡ n → at ≤ length bytes → at + n ≤ i → get_or (with_run at n run bytes) i d ≡ get_or bytes i d
get_or-with_run_above at n run bytes i d long within above =
    let front = length-take-le at bytes within in
    let past : at + n + (i - at - n) ≡ i = omega arith in
    get_or-append_right (take at bytes) (run ++ drop (at + n) bytes) at i d front (omega arith)
    ∙ get_or-append_right run (drop (at + n) bytes) n (i - at) d long (omega arith)
    ∙ get_or-drop (at + n) bytes (i - at - n) d
    ∙ ap (λ (j : ℕ). get_or bytes j d) past

-- ---- numbers

-- a number at a place is below its power of 256
pub number_at-below : (at width : ℕ) (bytes : List ℕ) → AreBytes bytes → at + width ≤ length bytes → number_at at width bytes < 256 ^ width
number_at-below at width bytes are within =
    subst (λ (n : ℕ). number_at at width bytes < 256 ^ n) (length-run_at at width bytes within) (number_of-below (run_at at width bytes) (run_at-AreBytes at width bytes are))

-- a number in the first of two parts
pub number_at-append_left : (at width : ℕ) (xs ys : List ℕ) → at + width ≤ length xs → number_at at width (xs ++ ys) ≡ number_at at width xs
number_at-append_left at width xs ys within = ap number_of (run_at-append_left at width xs ys within)

-- a number in the second of two parts
pub number_at-append_right : (at width start : ℕ) (xs ys : List ℕ) → length xs ≡ start → number_at (start + at) width (xs ++ ys) ≡ number_at at width ys
number_at-append_right at width start xs ys long = ap number_of (run_at-append_right at width start xs ys long)

-- a number of one byte
pub number_at-one : (at d : ℕ) (bytes : List ℕ) → at < length bytes → number_at at 1 bytes ≡ get_or bytes at d
number_at-one at d bytes within =
    let first : run_at at 1 bytes ≡ get_or bytes at d ∷ [] = ap (take 1) (drop_more bytes at d within) in
    ap number_of first ∙ number_of-one (get_or bytes at d)

-- a number whose digits stand between two parts
pub number_at-here : (at width x : ℕ) (xs ys : List ℕ) → length xs ≡ at → x < 256 ^ width → number_at at width (xs ++ (digits width x ++ ys)) ≡ x
number_at-here at width x xs ys long fits =
    ap number_of (run_at-here at width xs (digits width x) ys long (length-digits width x)) ∙ number_of-digits width x fits

-- the length stays
pub length-with_number : (at width x : ℕ) (bytes : List ℕ) → at + width ≤ length bytes → length (with_number at width x bytes) ≡ length bytes
length-with_number at width x bytes within =
    length-with_run at width (digits width x) bytes (length-digits width x) within

-- bytes stay bytes
pub with_number-AreBytes : (at width x : ℕ) (bytes : List ℕ) → AreBytes bytes → AreBytes (with_number at width x bytes)
with_number-AreBytes at width x bytes are =
    with_run-AreBytes at width (digits width x) bytes (digits-AreBytes width x) are

-- the number that was written is read back
pub number_at-with_number : (at width x : ℕ) (bytes : List ℕ) → at + width ≤ length bytes → x < 256 ^ width → number_at at width (with_number at width x bytes) ≡ x
number_at-with_number at width x bytes within fits =
    ap number_of (run_at-with_run at width (digits width x) bytes (length-digits width x) within) ∙ number_of-digits width x fits

-- a number below the place reads as before
pub number_at-with_number_below : (i k at width x : ℕ) (bytes : List ℕ) → i + k ≤ at → at + width ≤ length bytes → number_at i k (with_number at width x bytes) ≡ number_at i k bytes
number_at-with_number_below i k at width x bytes below within =
    ap number_of (run_at-with_run_below i k at width (digits width x) bytes below within)

-- a number above the place reads as before
pub number_at-with_number_above : (i k at width x : ℕ) (bytes : List ℕ) → at + width ≤ length bytes → at + width ≤ i → number_at i k (with_number at width x bytes) ≡ number_at i k bytes
number_at-with_number_above i k at width x bytes within above =
    ap number_of (run_at-with_run_above i k at width (digits width x) bytes (length-digits width x) within above)

-- what stands past a place above the number
pub drop-with_number_above : (i at width x : ℕ) (bytes : List ℕ) → at + width ≤ length bytes → at + width ≤ i → drop i (with_number at width x bytes) ≡ drop i bytes
drop-with_number_above i at width x bytes within above =
    drop-with_run_above i at width (digits width x) bytes (length-digits width x) within above

-- what stands before a place below the number
pub take-with_number_below : (i at width x : ℕ) (bytes : List ℕ) → i ≤ at → at ≤ length bytes → take i (with_number at width x bytes) ≡ take i bytes
take-with_number_below i at width x bytes below within =
    take-with_run_below i at width (digits width x) bytes below within

-- a run below the number reads as before
pub run_at-with_number_below : (i k at width x : ℕ) (bytes : List ℕ) → i + k ≤ at → at + width ≤ length bytes → run_at i k (with_number at width x bytes) ≡ run_at i k bytes
run_at-with_number_below i k at width x bytes below within =
    run_at-with_run_below i k at width (digits width x) bytes below within

-- a run above the number reads as before
pub run_at-with_number_above : (i k at width x : ℕ) (bytes : List ℕ) → at + width ≤ length bytes → at + width ≤ i → run_at i k (with_number at width x bytes) ≡ run_at i k bytes
run_at-with_number_above i k at width x bytes within above =
    run_at-with_run_above i k at width (digits width x) bytes (length-digits width x) within above

-- the digits of the number that bytes spell, written where it was read, are the bytes that were read
pub with_number-number_at : (at width : ℕ) (bytes : List ℕ) → at + width ≤ length bytes → AreBytes bytes → with_number at width (number_at at width bytes) bytes ≡ bytes
with_number-number_at at width bytes within are =
    ap (λ (run : List ℕ). with_run at width run bytes) (digits-number_of_width width (run_at at width bytes) (length-run_at at width bytes within) (run_at-AreBytes at width bytes are))
    ∙ with_run-run_at at width bytes

-- a byte of a number that was written: j digits stand below it
pub get_or-with_number : (at width x : ℕ) (bytes : List ℕ) (i j d : ℕ) → at ≤ length bytes → i + suc j ≡ width → get_or (with_number at width x bytes) (at + i) d ≡ x / 256 ^ j % 256
get_or-with_number at width x bytes i j d within place =
    get_or-with_run at width (digits width x) bytes i d (length-digits width x) within (omega arith) ∙ get_or-digits width x i j d place

-- a byte below a number that was written
pub get_or-with_number_below : (at width x : ℕ) (bytes : List ℕ) (i d : ℕ) → i < at → at ≤ length bytes → get_or (with_number at width x bytes) i d ≡ get_or bytes i d
get_or-with_number_below at width x bytes i d below within =
    get_or-with_run_below at width (digits width x) bytes i d below within

-- a byte above a number that was written
pub get_or-with_number_above : (at width x : ℕ) (bytes : List ℕ) (i d : ℕ) → at ≤ length bytes → at + width ≤ i → get_or (with_number at width x bytes) i d ≡ get_or bytes i d
get_or-with_number_above at width x bytes i d within above =
    get_or-with_run_above at width (digits width x) bytes i d (length-digits width x) within above
