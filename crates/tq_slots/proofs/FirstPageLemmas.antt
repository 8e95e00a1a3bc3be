-- Where the first page of a message set stands in the spelling of a record.
use Rattle.std.proofs.Common.{◌≡◌, ℕ, zero, suc, ◌+◌, ◌-◌, ◌*◌, ◌<◌, ◌≤◌, true, List, [], ◌∷◌, ◌++◌, length, take, drop, get_or, refl, sym, ap, ◌∙◌, append_assoc, arith}
use Rattle.std.specs.Prelude.{set}
use Rattle.std.specs.List.{flat_map}
use Rattle.std.proofs.lemmas.List.{take_at, drop_at, length-append, length-take-le}
use Rattle.std.proofs.lemmas.List.Concat.{flat_map-cons}
use Rattle.tq_field.specs.Digits.{digits}
use Rattle.tq_field.specs.Places.{run_at, with_number}
use Rattle.tq_field.proofs.Numbers.{length-digits}
use Rattle.tq_field.proofs.Runs.{length-run_at, length-with_number, run_at-here, with_run-run_at}
use Rattle.tq_slots.specs.declared.record.MessageSlot.{MessageSlot}
use Rattle.tq_slots.specs.declared.record.Set.{Set}
use Rattle.tq_slots.specs.declared.record.Set.TheVariants as sets
use Rattle.tq_slots.specs.Fields.{Field, Number, fields_spelt}
use Rattle.tq_slots.specs.RecordForm.{Record, kind_number, message_fields, slot_spelt, set_spelt, spelt, key_of, AreAscending, IsMessageAt, is_message, with_first, changed_at}
use Rattle.tq_slots.proofs.FieldLemmas.{length-all, fields-append}

-- Bytes that differ in the four from one place on: there the second ones spell a number.
pub record Differs (at x : ℕ) (before after : List ℕ) : Type 0 where
  pub front : List ℕ
  pub old : ℕ
  pub back : List ℕ
  pub place : length front ≡ at
  pub before_is : before ≡ front ++ (digits 4 old ++ back)
  pub after_is : after ≡ front ++ (digits 4 x ++ back)

differs-behind : (n at x : ℕ) (xs before after : List ℕ) → length xs ≡ n → Differs at x before after → Differs (n + at) x (xs ++ before) (xs ++ after)
differs-behind n at x xs before after long d =
    let all = length-append xs d.front in
    let place = d.place in
    record {
      front = xs ++ d.front;
      old = d.old;
      back = d.back;
      place = omega arith;
      before_is = ap (λ (l : List ℕ). xs ++ l) d.before_is ∙ sym (append_assoc xs d.front (digits 4 d.old ++ d.back));
      after_is = ap (λ (l : List ℕ). xs ++ l) d.after_is ∙ sym (append_assoc xs d.front (digits 4 x ++ d.back));
    }

differs-before : (at x : ℕ) (before after ys : List ℕ) → Differs at x before after → Differs at x (before ++ ys) (after ++ ys)
differs-before at x before after ys d =
    let moved = λ (n : ℕ). append_assoc d.front (digits 4 n ++ d.back) ys ∙ ap (λ (l : List ℕ). d.front ++ l) (append_assoc (digits 4 n) d.back ys) in
    record {
      front = d.front;
      old = d.old;
      back = d.back ++ ys;
      place = d.place;
      before_is = ap (λ (l : List ℕ). l ++ ys) d.before_is ∙ moved d.old;
      after_is = ap (λ (l : List ℕ). l ++ ys) d.after_is ∙ moved x;
    }

-- the number written over the first ones makes the second ones
differs-written : (at x : ℕ) (before after : List ℕ) → Differs at x before after → with_number at 4 x before ≡ after
differs-written at x before after d =
    let all = length-append d.front (digits 4 d.old) in
    let four = length-digits 4 d.old in
    let place = d.place in
    let front : take at before ≡ d.front = ap (take at) d.before_is ∙ take_at d.front (digits 4 d.old ++ d.back) at d.place in
    let back : drop (at + 4) before ≡ d.back =
    ap (drop (at + 4)) (d.before_is ∙ sym (append_assoc d.front (digits 4 d.old) d.back)) ∙ drop_at (d.front ++ digits 4 d.old) d.back (at + 4) (omega arith) in
    (λ i. front i ++ (digits 4 x ++ back i)) ∙ sym d.after_is

differs-length : (at x : ℕ) (before after : List ℕ) → Differs at x before after → (length after ≡ length before) × (at + 4 ≤ length before)
differs-length at x before after d =
    let one = ap (λ (l : List ℕ). length l) d.before_is ∙ length-append d.front (digits 4 d.old ++ d.back) in
    let two = length-append (digits 4 d.old) d.back in
    let three = ap (λ (l : List ℕ). length l) d.after_is ∙ length-append d.front (digits 4 x ++ d.back) in
    let four = length-append (digits 4 x) d.back in
    let five = length-digits 4 d.old in
    let six = length-digits 4 x in
    let place = d.place in
    (omega arith, omega arith)

-- the fields of a message slot before its first page, and those behind it
abbrev fields_before : MessageSlot → List Field
fields_before m =
    Number 1 m.mark ∷ Number 1 m.branch ∷ Number 1 m.queue ∷ Number 1 m.bits ∷ Number 1 m.priority ∷ Number 1 m.root_priority ∷ Number 1 m.numbers ∷ Number 1 0
    ∷ Number 4 m.retries ∷ []

abbrev fields_behind : MessageSlot → List Field
fields_behind m =
    Number 4 m.epoch ∷ Number 4 m.number
    ∷ Number 8 m.available ∷ Number 8 m.expiration ∷ Number 8 m.root_available ∷ Number 8 m.root_expiration
    ∷ Number 4 m.root_epoch ∷ Number 4 m.root_number ∷ []

differs-slot : (page : ℕ) (m : MessageSlot) → Differs 12 page (fields_spelt (message_fields m)) (fields_spelt (message_fields (record m { first = page })))
unfolding fields_spelt
differs-slot page m =
    record {
      front = fields_spelt (fields_before m);
      old = m.first;
      back = fields_spelt (fields_behind m);
      place = length-all (fields_before m) (tt, (tt, (tt, (tt, (tt, (tt, (tt, (tt, (tt, tt)))))))));
      before_is = fields-append (fields_before m) (Number 4 m.first ∷ fields_behind m);
      after_is = fields-append (fields_before m) (Number 4 page ∷ fields_behind m);
    }

differs-set : (index page : ℕ) (m : MessageSlot) → Differs 15 page (set_spelt (sets.Message index m)) (set_spelt (with_first page (sets.Message index m)))
unfolding slot_spelt
differs-set index page m =
    differs-behind 3 12 page (digits 3 (65536 + index)) (fields_spelt (message_fields m)) (fields_spelt (message_fields (record m { first = page })))
    (length-digits 3 (65536 + index)) (differs-slot page m)

length-message : (index : ℕ) (m : MessageSlot) → length (set_spelt (sets.Message index m)) ≡ 67
unfolding slot_spelt
length-message index m =
    let slot = length-all (message_fields m) (tt, (tt, (tt, (tt, (tt, (tt, (tt, (tt, (tt, (tt, (tt, (tt, (tt, (tt, (tt, (tt, (tt, (tt, tt)))))))))))))))))) in
    let all = length-append (digits 3 (65536 + index)) (fields_spelt (message_fields m)) in
    let key = length-digits 3 (65536 + index) in
    omega arith

-- the set at a place has a key from the least on
key-least : (k least : ℕ) (xs : List Set) (d : Set) → AreAscending least xs → IsMessageAt k xs → least ≤ key_of (get_or xs k d)
unfolding AreAscending
key-least k least [] d ascend is = absurd is
key-least zero least (s ∷ xs) d ascend is = ascend.0
key-least (suc k) least (s ∷ xs) d ascend is = let from = ascend.0 in let rest = key-least k (key_of s + 1) xs d ascend.1 is in omega arith

differs-sets : (k least page : ℕ) (xs : List Set) (d : Set) → AreAscending least xs → IsMessageAt k xs → key_of (get_or xs k d) < 131072
    → Differs (67 * k + 15) page (flat_map set_spelt xs) (flat_map set_spelt (changed_at k (with_first page) xs))
unfolding AreAscending
differs-sets k least page [] d ascend is low = absurd is
differs-sets zero least page (sets.Message index m ∷ xs) d ascend is low =
    let s = sets.Message index m in
    rw (flat_map-cons set_spelt s xs, flat_map-cons set_spelt (with_first page s) xs)
    (differs-before 15 page (set_spelt s) (set_spelt (with_first page s)) (flat_map set_spelt xs) (differs-set index page m))
differs-sets zero least page (sets.Queue index q ∷ xs) d ascend is low = absurd cc
differs-sets zero least page (sets.Branch index b ∷ xs) d ascend is low = absurd cc
differs-sets (suc k) least page (sets.Message index m ∷ xs) d ascend is low =
    let s = sets.Message index m in
    let place : 67 + (67 * k + 15) ≡ 67 * suc k + 15 = omega arith in
    let rest = differs-sets k (key_of s + 1) page xs d ascend.1 is low in
    rw (flat_map-cons set_spelt s xs, flat_map-cons set_spelt s (changed_at k (with_first page) xs), ← place)
    (differs-behind 67 (67 * k + 15) page (set_spelt s) (flat_map set_spelt xs) (flat_map set_spelt (changed_at k (with_first page) xs))
    (length-message index m) rest)
differs-sets (suc k) least page (sets.Queue index q ∷ xs) d ascend is low =
    let least-is = key-least k (131072 + index + 1) xs d ascend.1 is in absurd (omega arith)
differs-sets (suc k) least page (sets.Branch index b ∷ xs) d ascend is low =
    let least-is = key-least k (196608 + index + 1) xs d ascend.1 is in absurd (omega arith)

pub changed-length : (k page : ℕ) (xs : List Set) → length (changed_at k (with_first page) xs) ≡ length xs
changed-length k page [] = refl
changed-length zero page (s ∷ xs) = refl
changed-length (suc k) page (s ∷ xs) = ap suc (changed-length k page xs)

pub place-below : (k : ℕ) (xs : List Set) → IsMessageAt k xs → k < length xs
place-below k [] is = absurd is
place-below zero (s ∷ xs) is = omega arith
place-below (suc k) (s ∷ xs) is = let rest = place-below k xs is in omega arith

pub message-is : (k : ℕ) (xs : List Set) (d : Set) → IsMessageAt k xs → is_message (get_or xs k d) ≡ true
message-is k [] d is = absurd is
message-is zero (s ∷ xs) d is = is
message-is (suc k) (s ∷ xs) d is = message-is k xs d is

-- the set is put back in its place
pub changed-set : (k page : ℕ) (xs : List Set) (d s : Set) → IsMessageAt k xs → s ≡ with_first page (get_or xs k d)
    → set xs k s ≡ changed_at k (with_first page) xs
changed-set k page [] d s is made = absurd is
changed-set zero page (x ∷ xs) d s is made = ap (λ (y : Set). y ∷ xs) made
changed-set (suc k) page (x ∷ xs) d s is made = ap (λ (l : List Set). x ∷ l) (changed-set k page xs d s is made)

abbrev pub changed : ℕ → ℕ → Record → Record
changed k page r = record { kind = r.kind; sets = changed_at k (with_first page) r.sets }

differs-record : (k page : ℕ) (r : Record) (d : Set) → AreAscending 65536 r.sets → IsMessageAt k r.sets → key_of (get_or r.sets k d) < 131072
    → Differs (67 * k + 18) page (spelt r) (spelt (changed k page r))
differs-record k page r d ascend is low =
    let kind = digits 1 (kind_number r.kind) in
    let count = digits 2 (length r.sets) in
    let before = flat_map set_spelt r.sets in
    let after = flat_map set_spelt (changed_at k (with_first page) r.sets) in
    let place : 1 + (2 + (67 * k + 15)) ≡ 67 * k + 18 = omega arith in
    rw (changed-length k page r.sets, ← place)
    (differs-behind 1 (2 + (67 * k + 15)) page kind (count ++ before) (count ++ after) (length-digits 1 (kind_number r.kind))
    (differs-behind 2 (67 * k + 15) page count before after (length-digits 2 (length r.sets)) (differs-sets k 65536 page r.sets d ascend is low)))

-- the same in bytes around the record, five before it and one behind it
pub first-written : (k page : ℕ) (r : Record) (d : Set) (frame : List ℕ) → AreAscending 65536 r.sets → IsMessageAt k r.sets
    → key_of (get_or r.sets k d) < 131072
    → 6 ≤ length frame → run_at 5 (length frame - 6) frame ≡ spelt r
    → (67 * k + 27 ≤ length frame)
    × (let new = with_number (67 * k + 23) 4 page frame in run_at 5 (length new - 6) new ≡ spelt (changed k page r))
first-written k page r d frame ascend is low wide payload =
    let size = length frame - 6 in
    let before = spelt r in
    let after = spelt (changed k page r) in
    let front = take 5 frame in
    let tail = drop (5 + size) frame in
    let five = length-take-le 5 frame (omega arith) in
    let long : length before ≡ size = ap (λ (l : List ℕ). length l) (sym payload) ∙ length-run_at 5 size frame (omega arith) in
    let inner = differs-record k page r d ascend is low in
    let sizes = differs-length (67 * k + 18) page before after inner in
    let whole : front ++ (before ++ tail) ≡ frame = ap (λ (l : List ℕ). front ++ (l ++ tail)) (sym payload) ∙ with_run-run_at 5 size frame in
    let outer = differs-behind 5 (67 * k + 18) page front (before ++ tail) (after ++ tail) five (differs-before (67 * k + 18) page before after tail inner) in
    let place : 5 + (67 * k + 18) ≡ 67 * k + 23 = omega arith in
    let new : with_number (67 * k + 23) 4 page frame ≡ front ++ (after ++ tail) =
    (λ i. with_number (sym place i) 4 page (sym whole i)) ∙ differs-written (5 + (67 * k + 18)) page (front ++ (before ++ tail)) (front ++
    (after ++ tail)) outer in
    let within : 67 * k + 27 ≤ length frame = let fits = sizes.1 in omega arith in
    let kept : length (with_number (67 * k + 23) 4 page frame) ≡ length frame = length-with_number (67 * k + 23) 4 page frame (omega arith) in
    let same = sizes.0 in
    (within, (λ i. run_at 5 (kept i - 6) (new i)) ∙ run_at-here 5 size front after tail five (omega arith))
