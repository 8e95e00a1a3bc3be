-- What a log reads as, by the payloads that stand in it.
use Rattle.std.proofs.Common.{◌≡◌, ◌≢◌, inl, inr, ◌<◌, ◌≤◌, ℕ, zero, suc, ◌+◌, ◌==◌, List, [], ◌∷◌, ◌++◌, length, get_or, Option, None, Some, refl, sym, ◌∙◌, ap, subst, arith}
use Rattle.std.specs.Prelude.{nat_le, if◌then◌else◌}
use Rattle.std.specs.Option.{option_map}
use Rattle.std.proofs.lemmas.Bool.Decides.{nat_tests}
use Rattle.std.proofs.lemmas.Bool.{cases_eq}
use Rattle.tq_host.proofs.Bytes.{before_or_after}
use Rattle.tq_field.proofs.Runs.{length-run_at}
use Rattle.std.proofs.lemmas.List.{get_or_past}
use Rattle.std.proofs.lemmas.Option.{none-some, same_Some}
use Rattle.tq_field.specs.Places.{run_at, number_at}
use Rattle.tq_field.specs.Digits.{number_of}
use Rattle.tq_gate.specs.Reading.{IsRecord, AreRecords, IsDamagedAt}
use Rattle.tq_field.specs.GatedLog.{reading_from, log_reading, end_of}
use Rattle.tq_gate.proofs.RangeLemmas.{run_at-same}

-- one step of the reading
pub reading_shut : (most p : ℕ) (log : List ℕ) → get_or log p 0 ≢ 79 → reading_from most p log ≡ Some []
unfolding reading_from
reading_shut zero p log shut = refl
reading_shut (suc most) p log shut = grind (arith, nat_tests)

taken : (g m l : ℕ) (t e f : Option (List (List ℕ))) → g ≡ 79 → m ≤ l → (if g == 79 then (if nat_le m l then t else e) else f) ≡ t
taken g m l t e f gate fits = grind (arith, nat_tests)

pub reading_more : (most p : ℕ) (log payload : List ℕ) → IsRecord log p payload
    → reading_from (suc most) p log ≡ option_map (λ payloads. payload ∷ payloads) (reading_from most (p + (5 + length payload)) log)
unfolding reading_from
reading_more most p log payload is =
    let n = number_at (p + 1) 4 log in
    let fits : p + 6 + n ≤ length log = omega (arith, is.number, is.fits) in
    taken (get_or log p 0) (p + 6 + n) (length log)
    (option_map (λ (payloads : List (List ℕ)). run_at (p + 5) n log ∷ payloads) (reading_from most (p + (5 + n)) log)) None (Some []) is.gate fits
    ∙ ap (λ (m : ℕ). option_map (λ (payloads : List (List ℕ)). run_at (p + 5) m log ∷ payloads) (reading_from most (p + (5 + m)) log)) is.number
    ∙ ap (λ (run : List ℕ). option_map (λ (payloads : List (List ℕ)). run ∷ payloads) (reading_from most (p + (5 + length payload)) log)) is.run

pub reading_past : (most p : ℕ) (log : List ℕ) → get_or log p 0 ≡ 79 → length log < p + 6 + number_at (p + 1) 4 log → reading_from (suc most) p log ≡ None
unfolding reading_from
reading_past most p log gate past = grind (arith, nat_tests)

-- the payloads that stand, and then a closed gate
pub reading_is : (most p : ℕ) (ps : List (List ℕ)) (log : List ℕ) → AreRecords log p ps → get_or log (p + end_of ps) 0 ≢ 79 → length ps ≤ most
    → reading_from most p log ≡ Some ps
reading_is most p [] log are shut le = reading_shut most p log (λ open_gate. shut (let e : p + 0 ≡ p = omega arith in ap (λ k. get_or log k 0) e ∙ open_gate))
reading_is zero p (x ∷ xs) log are shut le = absurd (omega arith)
reading_is (suc most) p (x ∷ xs) log are shut le =
    let e : p + (5 + length x + end_of xs) ≡ p + (5 + length x) + end_of xs = omega arith in
    reading_more most p log x are.0
    ∙ ap (option_map (λ (payloads : List (List ℕ)). x ∷ payloads))
    (reading_is most (p + (5 + length x)) xs log are.1 (λ open_gate. shut (ap (λ k. get_or log k 0) e ∙ open_gate)) (omega arith))

-- the payloads that stand, and then one that does not fit
pub reading_damaged : (most p : ℕ) (ps : List (List ℕ)) (log : List ℕ) → AreRecords log p ps → get_or log (p + end_of ps) 0 ≡ 79
    → length log < p + end_of ps + 6 + number_at (p + end_of ps + 1) 4 log → length ps < most
    → reading_from most p log ≡ None
reading_damaged zero p ps log are gate past lt = absurd (omega arith)
reading_damaged (suc most) p [] log are gate past lt =
    let e : p + 0 ≡ p = omega arith in
    let P : ℕ → Type 0 = λ k. length log < k + 6 + number_at (k + 1) 4 log in
    reading_past most p log (ap (λ k. get_or log k 0) (sym e) ∙ gate) (subst P e past)
reading_damaged (suc most) p (x ∷ xs) log are gate past lt =
    let e : p + (5 + length x + end_of xs) ≡ p + (5 + length x) + end_of xs = omega arith in
    let P : ℕ → Type 0 = λ k. length log < k + 6 + number_at (k + 1) 4 log in
    reading_more most p log x are.0
    ∙ ap (option_map (λ (payloads : List (List ℕ)). x ∷ payloads))
    (reading_damaged most (p + (5 + length x)) xs log are.1 (ap (λ k. get_or log k 0) (sym e) ∙ gate) (subst P e past) (omega arith))

-- what a reading says
pub record Read (p : ℕ) (ps : List (List ℕ)) (log : List ℕ) : Type 0 where
  pub records : AreRecords log p ps
  pub shut : get_or log (p + end_of ps) 0 ≢ 79

read_nothing : (p : ℕ) (ps : List (List ℕ)) (log : List ℕ) → get_or log p 0 ≢ 79 → Some [] ≡ Some ps → Read p ps log
read_nothing p ps log shut is =
    let e : p + 0 ≡ p = omega arith in
    let none : Read p [] log = record { records = tt; shut = λ open_gate. shut (sym (ap (λ k. get_or log k 0) e) ∙ open_gate) } in
    subst (λ (l : List (List ℕ)). Read p l log) (same_Some [] ps is) none

-- a reading with a first payload
pushed : (x : List ℕ) (o : Option (List (List ℕ))) (ps : List (List ℕ)) → option_map (λ (payloads : List (List ℕ)). x ∷ payloads) o ≡ Some ps
    → (qs : List (List ℕ)) × (o ≡ Some qs) × (x ∷ qs ≡ ps)
pushed x None ps is = absurd (none-some ps is)
pushed x (Some qs) ps is = (qs, refl, same_Some (x ∷ qs) ps is)

record_read : (p : ℕ) (log : List ℕ) → get_or log p 0 ≡ 79 → p + 6 + number_at (p + 1) 4 log ≤ length log
    → IsRecord log p (run_at (p + 5) (number_at (p + 1) 4 log) log)
record_read p log gate fits =
    let n = number_at (p + 1) 4 log in
    let long : length (run_at (p + 5) n log) ≡ n = length-run_at (p + 5) n log (omega (arith, fits)) in
    record { gate = gate; number = sym long; run = ap (λ (m : ℕ). run_at (p + 5) m log) long; fits = omega (arith, fits, long) }

read_more : (p : ℕ) (x : List ℕ) (qs : List (List ℕ)) (log : List ℕ) → IsRecord log p x → Read (p + (5 + length x)) qs log → Read p (x ∷ qs) log
read_more p x qs log is rest =
    let e : p + (5 + length x + end_of qs) ≡ p + (5 + length x) + end_of qs = omega arith in
    record { records = (is, rest.records); shut = λ open_gate. rest.shut (sym (ap (λ k. get_or log k 0) e) ∙ open_gate) }

reading_none : (p : ℕ) (log : List ℕ) → reading_from 0 p log ≡ Some []
unfolding reading_from
reading_none p log = refl

pub read_of : (most p : ℕ) (ps : List (List ℕ)) (log : List ℕ) → length log ≤ p + most → reading_from most p log ≡ Some ps → Read p ps log
read_of zero p ps log le is =
    let past : get_or log p 0 ≡ 0 = get_or_past log p 0 (omega (arith, le)) in
    read_nothing p ps log (λ open_gate. let no : 0 ≡ 79 = sym past ∙ open_gate in cc) (sym (reading_none p log) ∙ is)
read_of (suc most) p ps log le is = elim (cases_eq (get_or log p 0) 79) [
  | inr shut ↦ read_nothing p ps log shut (sym (reading_shut (suc most) p log shut) ∙ is)
  | inl gate ↦ elim (before_or_after (length log) (p + 6 + number_at (p + 1) 4 log)) [
    | inl past ↦ absurd (none-some ps (sym (reading_past most p log gate past) ∙ is))
    | inr fits ↦
        let x = run_at (p + 5) (number_at (p + 1) 4 log) log in
        let here = record_read p log gate fits in
        let parts = pushed x (reading_from most (p + (5 + length x)) log) ps (sym (reading_more most p log x here) ∙ is) in
        let rest = read_of most (p + (5 + length x)) parts.0 log (omega (arith, le)) parts.1 in
        subst (λ (l : List (List ℕ)). Read p l log) parts.2 (read_more p x parts.0 log here rest)
  ]
]

-- how many there are, and where they end
pub count : (ps : List (List ℕ)) → length ps ≤ end_of ps
count [] = omega arith
count (x ∷ xs) = omega (arith, count xs)

pub records_within : (p : ℕ) (ps : List (List ℕ)) (log : List ℕ) → AreRecords log p ps → p ≤ length log → p + end_of ps ≤ length log
records_within p [] log are le = omega arith
records_within p (x ∷ xs) log are le = omega (arith, records_within (p + (5 + length x)) xs log are.1 (omega (arith, are.0.fits)))

-- in a log with the same bytes before the payloads' end they stand too
pub record_same : (p : ℕ) (x a b : List ℕ) → IsRecord a p x → length b ≡ length a → ((i : ℕ) → i < p + (5 + length x) → get_or b i 0 ≡ get_or a i 0)
    → IsRecord b p x
record_same p x a b is long same = record {
  gate = same p (omega arith) ∙ is.gate;
  number = ap number_of (run_at-same (p + 1) 4 a b (omega (arith, is.fits)) long (λ i from to. same i (omega arith))) ∙ is.number;
  run = run_at-same (p + 5) (length x) a b (omega (arith, is.fits)) long (λ i from to. same i (omega arith)) ∙ is.run;
  fits = omega (arith, is.fits, long);
}

pub records_same : (p : ℕ) (ps : List (List ℕ)) (a b : List ℕ) → AreRecords a p ps → length b ≡ length a
    → ((i : ℕ) → i < p + end_of ps → get_or b i 0 ≡ get_or a i 0) → AreRecords b p ps
records_same p [] a b are long same = tt
records_same p (x ∷ xs) a b are long same =
    (record_same p x a b are.0 long (λ i lt. same i (omega arith)), records_same (p + (5 + length x)) xs a b are.1 long (λ i lt. same i (omega arith)))

-- one more
pub end_of-push : (ps : List (List ℕ)) (x : List ℕ) → end_of (ps ++ x ∷ []) ≡ end_of ps + (5 + length x)
end_of-push [] x = omega arith
end_of-push (y ∷ ps) x = let e = end_of-push ps x in omega (arith, e)

pub records_push : (p : ℕ) (ps : List (List ℕ)) (x log : List ℕ) → AreRecords log p ps → IsRecord log (p + end_of ps) x → AreRecords log p (ps ++ x ∷ [])
records_push p [] x log are is = let e : p + 0 ≡ p = omega arith in (subst (λ k. IsRecord log k x) e is, tt)
records_push p (y ∷ ps) x log are is =
    let e : p + (5 + length y + end_of ps) ≡ p + (5 + length y) + end_of ps = omega arith in
    (are.0, records_push (p + (5 + length y)) ps x log are.1 (subst (λ k. IsRecord log k x) e is))

-- a log that is damaged has no reading
pub damaged_none : (p : ℕ) (log : List ℕ) → IsDamagedAt log p → log_reading log ≡ None
damaged_none p log is =
    let e : 0 + end_of is.before ≡ p = omega (arith, is.ends) in
    let P : ℕ → Type 0 = λ k. length log < k + 6 + number_at (k + 1) 4 log in
    elim (before_or_after p (length log)) [
      | inl lt ↦ reading_damaged (length log) 0 is.before log is.records (ap (λ k. get_or log k 0) e ∙ is.gate) (subst P (sym e) is.past)
          (omega (arith, count is.before, is.ends))
      | inr le ↦
          let past : get_or log p 0 ≡ 0 = get_or_past log p 0 le in
          let no : 0 ≡ 79 = sym past ∙ is.gate in cc
    ]

-- what a whole log reads as
pub log_reading_is : (ps : List (List ℕ)) (log : List ℕ) → AreRecords log 0 ps → get_or log (end_of ps) 0 ≢ 79 → log_reading log ≡ Some ps
log_reading_is ps log are shut =
    let e : 0 + end_of ps ≡ end_of ps = omega arith in
    reading_is (length log) 0 ps log are (λ open_gate. shut (sym (ap (λ k. get_or log k 0) e) ∙ open_gate))
    (omega (arith, count ps, records_within 0 ps log are))

pub log_read : (ps : List (List ℕ)) (log : List ℕ) → log_reading log ≡ Some ps → Read 0 ps log
log_read ps log is = read_of (length log) 0 ps log (omega arith) is
