-- Numbers and zeros behind bytes.
use Rattle.std.proofs.Common.{◌≡◌, ℕ, ◌+◌, ◌-◌, ◌/◌, ◌%◌, ◌<◌, List, [], ◌∷◌, ◌++◌, length, take, get_or, refl, sym, ap, ◌∙◌, append_assoc, arith}
use Rattle.std.proofs.Math.Nat.{zero-div}
use Rattle.std.specs.List.{flat_map}
use Rattle.std.proofs.lemmas.List.{append-nil, length-append, take_more}
use Rattle.std.proofs.lemmas.List.Concat.{flat_map-append, flat_map-cons}
use Rattle.tq_field.specs.Digits.{digits}
use Rattle.tq_field.specs.Places.{run_at}
use Rattle.tq_field.proofs.Numbers.{length-digits, digits-one, digits-add, digits-mod}
use Rattle.tq_field.proofs.Runs.{run_at-here}
use Rattle.tq_gate.specs.Frame.{IsFrame, payload_in}
use Rattle.tq_slots.specs.Fields.{Field, field_bytes, fields_spelt}

-- a number that is zero, with one byte more
pub zeros_more : (n : ℕ) → digits n 0 ++ 0 ∷ [] ≡ digits (n + 1) 0
zeros_more n =
    sym (digits-add n 1 0 ∙ ap (λ (x : ℕ). digits n x ++ digits 1 0) (zero-div 256) ∙ ap (λ (last : List ℕ). digits n 0 ++ last) (digits-one 0 (omega arith)))

-- a tag and an index
pub digits_key : (key : ℕ) → digits 3 key ≡ digits 1 (key / 65536) ++ digits 2 (key % 65536)
digits_key key = digits-add 1 2 key ∙ ap (λ (low : List ℕ). digits 1 (key / 65536) ++ low) (sym (digits-mod 2 key))

-- a payload with free bytes around it is a frame
pub framed : (frame payload : List ℕ) → frame ≡ (digits 5 0 ++ payload) ++ 0 ∷ [] → IsFrame frame × (payload_in frame ≡ payload)
framed frame payload is =
    let before = length-digits 5 0 in
    let front = length-append (digits 5 0) payload in
    let all : length frame ≡ length payload + 6 =
    ap length is ∙ length-append (digits 5 0 ++ payload) (0 ∷ []) ∙ (let e : length (digits 5 0 ++ payload) + 1 ≡ length payload + 6 = omega arith in e) in
    let size : length frame - 6 ≡ length payload = omega arith in (
      omega arith,
      (λ i. run_at 5 (size i) (is i)) ∙ ap (run_at 5 (length payload)) (append_assoc (digits 5 0) payload (0 ∷ []))
          ∙ run_at-here 5 (length payload) (digits 5 0) payload (0 ∷ []) before refl,
    )

-- fields added one after another
abbrev pub with_fields : List ℕ → List Field → List ℕ
with_fields out [] = out
with_fields out (f ∷ fields) = with_fields (out ++ field_bytes f) fields

pub fields_behind : (out : List ℕ) (fields : List Field) → with_fields out fields ≡ out ++ fields_spelt fields
unfolding fields_spelt
fields_behind out [] = sym (append-nil out)
fields_behind out (f ∷ fields) = fields_behind (out ++ field_bytes f) fields ∙ append_assoc out (field_bytes f) (fields_spelt fields)

-- the items up to a place, and the one there
pub one-spelt : {X : Type 0} (spell : X → List ℕ) (xs : List X) (i : ℕ) (d : X) → i < length xs
    → flat_map spell (take (i + 1) xs) ≡ flat_map spell (take i xs) ++ spell (get_or xs i d)
one-spelt spell xs i d lt =
    let x = get_or xs i d in
    ap (flat_map spell) (take_more xs i d lt) ∙ flat_map-append spell (take i xs) (x ∷ [])
    ∙ ap (λ (last : List ℕ). flat_map spell (take i xs) ++ last) (flat_map-cons spell x [] ∙ append-nil (spell x))
