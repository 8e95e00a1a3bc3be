-- A field that was spelt among others is read at its place.
use Rattle.std.proofs.Common.{◌≡◌, ℕ, zero, suc, ◌+◌, ◌^◌, ◌<◌, List, [], ◌∷◌, ◌++◌, length, take, get_or, refl, sym, ap, subst, ◌∙◌, append_assoc, arith}
use Rattle.std.specs.List.{AllByRecursion}
use Rattle.std.proofs.lemmas.List.{take_at, length-append}
use Rattle.tq_field.specs.Digits.{digits, number_of}
use Rattle.tq_field.specs.Places.{run_at, number_at}
use Rattle.tq_field.proofs.Numbers.{length-digits, digits-one, number_of-digits}
use Rattle.tq_field.proofs.Runs.{run_at-append_right, get_or-run_at}
use Rattle.tq_slots.specs.Fields.{Field, Number, Run, field_bytes, fields_spelt, IsField, AreFields}

abbrev pub width : Field → ℕ
width (Number w x) = w
width (Run w bytes) = w

abbrev pub widths : List Field → ℕ
widths [] = 0
widths (f ∷ fields) = width f + widths fields

-- the field at a place of the list
abbrev pub field_at : ℕ → List Field → Field
field_at k fields = get_or fields k (Number 0 0)

-- a field of the width that it names: a number always is
abbrev pub IsWide : Field → Type 0
IsWide (Number w x) = Unit {0}
IsWide (Run w bytes) = length bytes ≡ w

abbrev pub AreWide : List Field → Type 0
AreWide fields = AllByRecursion IsWide fields

length-wide : (f : Field) → IsWide f → length (field_bytes f) ≡ width f
length-wide (Number w x) is = length-digits w x
length-wide (Run w bytes) is = is

pub length-all : (fields : List Field) → AreWide fields → length (fields_spelt fields) ≡ widths fields
unfolding fields_spelt
length-all [] are = refl
length-all (f ∷ fields) are =
    length-append (field_bytes f) (fields_spelt fields) ∙ (λ i. length-wide f are.0 i + length-all fields are.1 i)

wide : (f : Field) → IsField f → IsWide f
wide (Number w x) is = tt
wide (Run w bytes) is = is

wide-all : (fields : List Field) → AreFields fields → AreWide fields
wide-all [] are = tt
wide-all (f ∷ fields) are = (wide f are.0, wide-all fields are.1)

length-field : (f : Field) → IsField f → length (field_bytes f) ≡ width f
length-field f is = length-wide f (wide f is)

pub length-fields : (fields : List Field) → AreFields fields → length (fields_spelt fields) ≡ widths fields
length-fields fields are = length-all fields (wide-all fields are)

-- fields in two parts
pub fields-append : (front back : List Field) → fields_spelt (front ++ back) ≡ fields_spelt front ++ fields_spelt back
unfolding fields_spelt
fields-append [] back = refl
fields-append (f ∷ front) back = ap (λ (l : List ℕ). field_bytes f ++ l) (fields-append front back)
    ∙ sym (append_assoc (field_bytes f) (fields_spelt front) (fields_spelt back))

field-is : (k : ℕ) (fields : List Field) → AreFields fields → IsField (field_at k fields)
field-is zero [] are = omega arith
field-is (suc k) [] are = omega arith
field-is zero (f ∷ fields) are = are.0
field-is (suc k) (f ∷ fields) are = field-is k fields are.1

-- the bytes of the field at that place
pub run-field : (k : ℕ) (fields : List Field) → AreFields fields
    → run_at (widths (take k fields)) (width (field_at k fields)) (fields_spelt fields) ≡ field_bytes (field_at k fields)
unfolding fields_spelt digits
run-field zero [] are = refl
run-field (suc k) [] are = refl
run-field zero (f ∷ fields) are = take_at (field_bytes f) (fields_spelt fields) (width f) (length-field f are.0)
run-field (suc k) (f ∷ fields) are =
    run_at-append_right (widths (take k fields)) (width (field_at k fields)) (width f) (field_bytes f) (fields_spelt fields) (length-field f are.0)
    ∙ run-field k fields are.1

-- a number of so many bytes, at place k of the list
pub number-field : (k w x : ℕ) (fields : List Field) → field_at k fields ≡ Number w x → AreFields fields
    → number_at (widths (take k fields)) w (fields_spelt fields) ≡ x
number-field k w x fields here are =
    let run = subst (λ (f : Field). run_at (widths (take k fields)) (width f) (fields_spelt fields) ≡ field_bytes f) here (run-field k fields are) in
    let fits : x < 256 ^ w = subst IsField here (field-is k fields are) in
    ap number_of run ∙ number_of-digits w x fits

-- a byte, at place k of the list
pub byte-field : (k x : ℕ) (fields : List Field) → field_at k fields ≡ Number 1 x → AreFields fields
    → get_or (fields_spelt fields) (widths (take k fields)) 0 ≡ x
byte-field k x fields here are =
    let at = widths (take k fields) in
    let run = subst (λ (f : Field). run_at at (width f) (fields_spelt fields) ≡ field_bytes f) here (run-field k fields are) in
    let fits : x < 256 = subst IsField here (field-is k fields are) in
    let place : at ≡ at + 0 = omega arith in
    ap (λ (i : ℕ). get_or (fields_spelt fields) i 0) place ∙ sym (get_or-run_at at 1 (fields_spelt fields) 0 0 (omega arith))
    ∙ ap (λ (r : List ℕ). get_or r 0 0) (run ∙ digits-one x fits)
