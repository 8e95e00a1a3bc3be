-- A frame whose length and closed gate were written.
use Rattle.std.proofs.Common.{◌≡◌, ℕ, ◌+◌, ◌-◌, List, [], ◌∷◌, ◌++◌, length, take, drop, set, get_or, refl, sym, ap, ◌∙◌, arith, length-append}
use Rattle.std.proofs.lemmas.List.{set_at, take-append-drop, length-drop, length-take-le, append_assoc}
use Rattle.tq_field.specs.Digits.{digits}
use Rattle.tq_field.specs.Places.{with_number}
use Rattle.tq_field.proofs.Numbers.{length-digits}
use Rattle.tq_gate.specs.Frame.{IsFrame, payload_in, behind_gate}

pub length-payload_in : (frame : List ℕ) → IsFrame frame → length (payload_in frame) ≡ length frame - 6
length-payload_in frame is = length-take-le (length frame - 6) (drop 5 frame) (omega (arith, length-drop 5 frame))

pub length-behind_gate : (payload : List ℕ) → length (behind_gate payload) ≡ length payload + 5
length-behind_gate payload =
    let d = digits 4 (length payload) in
    length-append d (payload ++ 0 ∷ []) ∙ omega (arith, length-digits 4 (length payload), length-append payload (0 ∷ []))

alone : (l : List ℕ) → length l ≡ 1 → l ≡ get_or l 0 0 ∷ []
alone [] long = absurd (omega arith)
alone (x ∷ []) long = refl
alone (x ∷ y ∷ l) long = absurd (omega arith)

-- what stands from the length on ends with one byte
last_alone : (n : ℕ) (l : List ℕ) → length l ≡ n + 1 → l ≡ take n l ++ get_or (drop n l) 0 0 ∷ []
last_alone n l long = sym (take-append-drop n l) ∙ ap (λ (rest : List ℕ). take n l ++ rest) (alone (drop n l) (omega (arith, length-drop n l)))

-- the length is written, and then the closed gate
pub closed : (frame a b : List ℕ) (last : ℕ) → IsFrame frame → last ≡ length frame - 1 → a ≡ with_number 1 4 (last - 5) frame → b ≡ set a last 0
    → drop 1 b ≡ behind_gate (payload_in frame)
closed [] a b last is at_last number gate = absurd (omega arith)
closed (x ∷ xs) a b last is at_last number gate =
    let frame = x ∷ xs in
    let n = length frame - 6 in
    let payload = payload_in frame in
    let long = length-payload_in frame is in
    let count : last - 5 ≡ length payload = omega (arith, at_last, long) in
    let d = digits 4 (length payload) in
    let front = x ∷ (d ++ payload) in
    let byte = get_or (drop n (drop 5 frame)) 0 0 in
    let ends : drop 5 frame ≡ payload ++ byte ∷ [] = last_alone n (drop 5 frame) (omega (arith, length-drop 5 frame)) in
    let split : a ≡ front ++ byte ∷ [] = number ∙ ap (λ (k : ℕ). with_number 1 4 k frame) count ∙ ap (λ (rest : List ℕ). x ∷ (d ++ rest)) ends
    ∙ ap (λ (rest : List ℕ). x ∷ rest) (sym (append_assoc d payload (byte ∷ []))) in
    let place : length front ≡ last = omega (arith, length-append d payload, length-digits 4 (length payload), long, at_last) in
    ap (drop 1) (gate ∙ ap (λ (l : List ℕ). set l last 0) split ∙ set_at front byte [] 0 last place) ∙ append_assoc d payload (0 ∷ [])
