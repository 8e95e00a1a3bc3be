-- A record that was spelt is read back, alone and in a log.
use Rattle.std.proofs.Common.{◌≡◌, ◌<◌, ◌≤◌, ℕ, suc, ◌+◌, ◌^◌, ◌&&◌, Bool, true, List, [], ◌∷◌, ◌++◌, length, get_or, drop, Some, None, refl, sym, ap, ◌∙◌, arith, zero-add, length-append}
use Rattle.std.specs.Prelude.{nat_le, ◌==◌, if◌then◌else◌}
use Rattle.std.specs.Option.{option_map, option_and_then}
use Rattle.std.proofs.lemmas.Bool.{and_from, le-leb, eq-eqb}
use Rattle.std.proofs.lemmas.List.{append-nil, append_assoc, drop_at, get_or_at}
use Rattle.tq_field.specs.Digits.{digits}
use Rattle.tq_field.specs.Places.{run_at, number_at}
use Rattle.tq_field.specs.GatedLog.{reading_from, log_reading}
use Rattle.tq_field.proofs.Numbers.{length-digits}
use Rattle.tq_field.proofs.Runs.{run_at-here}
use Rattle.tq_types.specs.declared.identifiers.Arrival.{Arrival}
use Rattle.tq_model.specs.declared.record.SpaceRecord.{SpaceRecord}
use Rattle.tq_model.specs.declared.record.SpaceRecord.TheVariants.{Added, Gone, QueueMade}
use Rattle.tq_model.specs.Names.{is_name}
use Rattle.tq_model.specs.Moves.{IndexedSpace}
use Rattle.tq_model.specs.SpaceForm.{spelt, longest_body, arrival_at, added_in, gone_in, queue_in, record_in, followed, followed_by}
use Rattle.tq_model.proofs.NameTests.{name_from_test}
use Rattle.tq_gate.specs.Reading.{IsRecord}
use Rattle.tq_gate.proofs.Readings.{reading_more}
use Rattle.tq_spacefile.specs.Payload.{IsArrival, IsInRange}
use Rattle.tq_spacefile.proofs.Places.{number_behind}

-- an arrival whose two numbers stand behind these bytes
arrival_behind : (at : ℕ) (a : Arrival) (xs ys all : List ℕ) → all ≡ xs ++ (digits 4 a.epoch ++ (digits 4 a.number ++ ys)) → length xs ≡ at → IsArrival a
    → arrival_at at all ≡ a
arrival_behind at a xs ys all is long fits =
    let regrouped : all ≡ (xs ++ digits 4 a.epoch) ++ (digits 4 a.number ++ ys) = is ∙ sym (append_assoc xs (digits 4 a.epoch) (digits 4 a.number ++ ys)) in
    let epoch = number_behind at 4 a.epoch xs (digits 4 a.number ++ ys) all is long fits.0 in
    let behind : length (xs ++ digits 4 a.epoch) ≡ at + 4 = omega (arith, long, length-append xs (digits 4 a.epoch), length-digits 4 a.epoch) in
    let number = number_behind (at + 4) 4 a.number (xs ++ digits 4 a.epoch) ys all regrouped behind fits.1 in
    λ i. record { epoch = epoch i; number = number i }

added_read : (queue : ℕ) (a : Arrival) (body b : List ℕ) → b ≡ digits 2 queue ++ (digits 4 a.epoch ++ (digits 4 a.number ++ body)) → queue < 2 ^ 16
    → IsArrival a → length body ≤ longest_body
    → added_in b ≡ Some (Added queue a body)
added_read queue a body b is queue_fits arrival_fits short =
    let q = digits 2 queue in
    let e = digits 4 a.epoch in
    let n = digits 4 a.number in
    let long : length (q ++ (e ++ n)) ≡ 10 = omega (arith, length-append q (e ++ n), length-append e n, length-digits 2 queue, length-digits 4 a.epoch, length-digits 4 a.number) in
    let regrouped : b ≡ (q ++ (e ++ n)) ++ body = is ∙ ap (λ (l : List ℕ). q ++ l) (sym (append_assoc e n body)) ∙ sym (append_assoc q (e ++ n) body) in
    let whole : length b ≡ 10 + length body = ap length regrouped ∙ length-append (q ++ (e ++ n)) body ∙ ap (λ (k : ℕ). k + length body) long in
    let number = number_behind 0 2 queue [] (e ++ (n ++ body)) b is refl queue_fits in
    let arrival = arrival_behind 2 a q body b is (length-digits 2 queue) arrival_fits in
    let rest : drop 10 b ≡ body = ap (drop 10) regrouped ∙ drop_at (q ++ (e ++ n)) body 10 long in
    let fits : (nat_le 10 (length b) && nat_le (length b) (10 + longest_body)) ≡ true =
    and_from (nat_le 10 (length b)) (nat_le (length b) (10 + longest_body)) (le-leb 10 (length b) (omega (arith, whole))) (le-leb (length b) (10 + longest_body) (omega (arith, whole, short))) in
    ap (λ (t : Bool). if t then Some (Added (number_at 0 2 b) (arrival_at 2 b) (drop 10 b)) else None) fits
    ∙ λ i. Some (Added (number i) (arrival i) (rest i))

gone_read : (a : Arrival) (b : List ℕ) → b ≡ digits 4 a.epoch ++ digits 4 a.number → IsArrival a → gone_in b ≡ Some (Gone a)
gone_read a b is fits =
    let e = digits 4 a.epoch in
    let n = digits 4 a.number in
    let whole : length b ≡ 8 = ap length is ∙ length-append e n ∙ omega (arith, length-digits 4 a.epoch, length-digits 4 a.number) in
    let arrival = arrival_behind 0 a [] [] b (is ∙ ap (λ (l : List ℕ). e ++ l) (sym (append-nil n))) refl fits in
    ap (λ (t : Bool). if t then Some (Gone (arrival_at 0 b)) else None) (eq-eqb (length b) 8 whole) ∙ λ i. Some (Gone (arrival i))

queue_read : (index : ℕ) (name b : List ℕ) → b ≡ digits 2 index ++ length name ∷ name → index < 2 ^ 16 → is_name name ≡ true
    → queue_in b ≡ Some (QueueMade index name)
queue_read index name b is fits is_one =
    let q = digits 2 index in
    let regrouped : b ≡ (q ++ length name ∷ []) ++ name = is ∙ sym (append_assoc q (length name ∷ []) name) in
    let long : length (q ++ length name ∷ []) ≡ 3 = omega (arith, length-append q (length name ∷ []), length-digits 2 index) in
    let whole : length b ≡ 3 + length name = ap length regrouped ∙ length-append (q ++ length name ∷ []) name ∙ ap (λ (k : ℕ). k + length name) long in
    let number = number_behind 0 2 index [] (length name ∷ name) b is refl fits in
    let size : get_or b 2 0 ≡ length name = ap (λ (l : List ℕ). get_or l 2 0) is ∙ get_or_at q (length name) name 0 2 (length-digits 2 index) in
    let rest : drop 3 b ≡ name = ap (drop 3) regrouped ∙ drop_at (q ++ length name ∷ []) name 3 long in
    let all : (nat_le 3 (length b) && (get_or b 2 0 + 3 == length b) && is_name (drop 3 b)) ≡ true =
    and_from (nat_le 3 (length b) && (get_or b 2 0 + 3 == length b)) (is_name (drop 3 b))
    (and_from (nat_le 3 (length b)) (get_or b 2 0 + 3 == length b) (le-leb 3 (length b) (omega (arith, whole))) (eq-eqb (get_or b 2 0 + 3) (length b) (omega (arith, whole, size))))
    (ap is_name rest ∙ is_one) in
    ap (λ (t : Bool). if t then Some (QueueMade (number_at 0 2 b) (drop 3 b)) else None) all ∙ λ i. Some (QueueMade (number i) (rest i))

-- a record that was spelt is read back
pub record_in-spelt : (r : SpaceRecord) → IsInRange r → record_in (spelt r) ≡ Some r
record_in-spelt (Added queue a body) fits =
    let q = digits 2 queue in
    let e = digits 4 a.epoch in
    let n = digits 4 a.number in
    added_read queue a body (q ++ e ++ n ++ body)
    (append_assoc (q ++ e) n body ∙ append_assoc q e (n ++ body)) fits.0 fits.1 fits.2
record_in-spelt (Gone a) fits = gone_read a (digits 4 a.epoch ++ digits 4 a.number) refl fits
record_in-spelt (QueueMade index name) fits = queue_read index name (digits 2 index ++ length name ∷ name) refl fits.0 fits.1

-- and does what the record does
pub followed_by-spelt : (epoch : ℕ) (s : IndexedSpace) (r : SpaceRecord) → IsInRange r → followed_by epoch s (spelt r) ≡ followed epoch s r
followed_by-spelt epoch s r fits = ap (option_and_then (followed epoch s)) (record_in-spelt r fits)

-- ---- in a log

-- a payload of a record is short
pub length-spelt_below : (r : SpaceRecord) → IsInRange r → length (spelt r) < 2 ^ 32
length-spelt_below (Added queue a body) fits =
    let q = digits 2 queue in
    let e = digits 4 a.epoch in
    let n = digits 4 a.number in
    omega (arith, fits.2, length-append (q ++ e ++ n) body, length-append (q ++ e) n, length-append q e, length-digits 2 queue, length-digits 4 a.epoch, length-digits 4 a.number)
length-spelt_below (Gone a) fits =
    omega (arith, length-append (digits 4 a.epoch) (digits 4 a.number), length-digits 4 a.epoch, length-digits 4 a.number)
length-spelt_below (QueueMade index name) fits =
    let most = (name_from_test name fits.1).most in
    omega (arith, most, length-append (digits 2 index) (length name ∷ name), length-digits 2 index)

-- a payload behind an open gate and its length, and a further byte behind it
pub record_stands : (p : ℕ) (before payload rest : List ℕ) (further : ℕ) → length before ≡ p → length payload < 2 ^ 32
    → IsRecord (before ++ (79 ∷ (digits 4 (length payload) ++ (payload ++ further ∷ rest)))) p payload
record_stands p before payload rest further long fits =
    let d = digits 4 (length payload) in
    let end = payload ++ further ∷ rest in
    let log = before ++ (79 ∷ (d ++ end)) in
    let first = before ++ 79 ∷ [] in
    let first_long : length first ≡ p + 1 = omega (arith, length-append before (79 ∷ []), long) in
    let at_number : log ≡ first ++ (d ++ end) = sym (append_assoc before (79 ∷ []) (d ++ end)) in
    let at_run : log ≡ (first ++ d) ++ (payload ++ further ∷ rest) = at_number ∙ sym (append_assoc first d end) in
    let run_long : length (first ++ d) ≡ p + 5 = omega (arith, length-append first d, first_long, length-digits 4 (length payload)) in
    record {
      gate = get_or_at before 79 (d ++ end) 0 p long;
      number = number_behind (p + 1) 4 (length payload) first end log at_number first_long fits;
      run = ap (run_at (p + 5) (length payload)) at_run ∙ run_at-here (p + 5) (length payload) (first ++ d) payload (further ∷ rest) run_long refl;
      fits = omega (arith, ap length at_run, length-append (first ++ d) (payload ++ further ∷ rest), length-append payload (further ∷ rest), run_long);
    }

-- In a log, behind these bytes, stands an open gate, the length of a record's payload, the payload and a further byte: the
-- payload is the next that is read, whatever follows.
pub reading_from-spelt : (most p : ℕ) (before rest : List ℕ) (further : ℕ) (r : SpaceRecord) → length before ≡ p → IsInRange r
    → reading_from (suc most) p (before ++ (79 ∷ (digits 4 (length (spelt r)) ++ (spelt r ++ further ∷ rest))))
    ≡ option_map (λ payloads. spelt r ∷ payloads) (reading_from most (p + (5 + length (spelt r))) (before ++ (79 ∷ (digits 4 (length (spelt r)) ++ (spelt r ++ further ∷ rest)))))
reading_from-spelt most p before rest further r long fits =
    reading_more most p (before ++ (79 ∷ (digits 4 (length (spelt r)) ++ (spelt r ++ further ∷ rest)))) (spelt r)
    (record_stands p before (spelt r) rest further long (length-spelt_below r fits))

-- the same at the start of a log
pub log_reading-spelt : (rest : List ℕ) (further : ℕ) (r : SpaceRecord) → IsInRange r
    → log_reading (79 ∷ (digits 4 (length (spelt r)) ++ (spelt r ++ further ∷ rest)))
    ≡ option_map (λ payloads. spelt r ∷ payloads) (reading_from (length (digits 4 (length (spelt r)) ++ (spelt r ++ further ∷ rest))) (5 + length (spelt r)) (79 ∷ (digits 4 (length (spelt r)) ++ (spelt r ++ further ∷ rest))))
log_reading-spelt rest further r fits =
    let behind = digits 4 (length (spelt r)) ++ (spelt r ++ further ∷ rest) in
    reading_from-spelt (length behind) 0 [] rest further r refl fits
    ∙ ap (λ (p : ℕ). option_map (λ (payloads : List (List ℕ)). spelt r ∷ payloads) (reading_from (length behind) p (79 ∷ behind))) (zero-add (5 + length (spelt r)))
