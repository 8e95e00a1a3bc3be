-- A queue's slot makes that queue again, and what makes a queue is that queue's slot.
use Rattle.std.proofs.Common.{◌≡◌, ◌≢◌, ℕ, zero, suc, ◌+◌, ◌-◌, ◌/◌, ◌%◌, ◌^◌, ◌≤◌, ◌&&◌, Bool, true, false, cond, not, List, [], ◌∷◌, ◌++◌, length, take, drop, get_or, replicate, map, Option, Some, None, refl, sym, ap, ◌∙◌, arith}
use Rattle.std.specs.Prelude.{◌==◌, nat_le, if◌then◌else◌, slice_get}
use Rattle.std.specs.List.{list_all}
use Rattle.std.proofs.Math.Nat.{zero-div}
use Rattle.std.proofs.lemmas.Bool.{and_parts, and_from, eqb-true, leb-true, le-leb}
use Rattle.std.proofs.lemmas.List.{take_at, length-map, length-take}
use Rattle.tq_field.specs.Digits.{digits}
use Rattle.tq_types.specs.declared.messages.Qos.{Qos}
use Rattle.tq_types.specs.declared.messages.Qos.TheVariants.{Persistent, NonPersistent}
use Rattle.tq_types.specs.declared.orders.Criterion.{Criterion}
use Rattle.tq_types.specs.declared.orders.Criterion.TheVariants.{Priority, Time, Expiration}
use Rattle.tq_types.specs.declared.orders.Last.{Last}
use Rattle.tq_types.specs.declared.orders.Last.TheVariants.{Fifo, Lifo}
use Rattle.tq_types.specs.Name.{is_allowed_at}
use Rattle.tq_types.specs.Order.{IsDistinct, IsFirstRepeat}
use Rattle.tq_types.proofs.Distinct.{length-distinct}
use Rattle.tq_model.specs.declared.space.QueueDef.{QueueDef}
use Rattle.tq_model.specs.Names.{is_name}
use Rattle.tq_model.specs.Reading.{no_two}
use Rattle.tq_slots.specs.declared.record.QueueSlot.{QueueSlot}
use Rattle.tq_slots.specs.MessageForm.{filled, has_bit, last_moment}
use Rattle.tq_slots.specs.QueueForm.{criterion_number, criterion_of, last_number, last_of, qos_number, qos_of, bit_if, slot_of_queue, slot_name, slot_criteria, is_criterion, is_one_or_two, are_one_number, are_criteria, is_queue_slot, queue_in_slot, queue_of_slot, read_queue_slot, has_queue_name, has_queue_order, has_queue_numbers, order_in_slot, HasQueueSlot, HasWidths}

-- ---- numbers

criterion-again : (c : Criterion) → criterion_of (criterion_number c) ≡ c
criterion-again Priority = refl
criterion-again Time = refl
criterion-again Expiration = refl

criterion-fits : (c : Criterion) → is_criterion (criterion_number c) ≡ true
criterion-fits Priority = refl
criterion-fits Time = refl
criterion-fits Expiration = refl

criterion-read : (n : ℕ) → is_criterion n ≡ true → criterion_number (criterion_of n) ≡ n
criterion-read zero is = absurd cc
criterion-read (suc zero) is = refl
criterion-read (suc (suc zero)) is = refl
criterion-read (suc (suc (suc zero))) is = refl
criterion-read (suc (suc (suc (suc n)))) is =
    let most = leb-true (suc (suc (suc (suc n)))) 3 (and_parts (nat_le 1 (suc (suc (suc (suc n))))) (nat_le (suc (suc (suc (suc n)))) 3) is).1 in
    absurd (omega arith)

last-again : (l : Last) → (last_of (last_number l) ≡ l) × (is_one_or_two (last_number l) ≡ true)
last-again Fifo = (refl, refl)
last-again Lifo = (refl, refl)

qos-again : (q : Qos) → (qos_of (qos_number q) ≡ q) × (is_one_or_two (qos_number q) ≡ true)
qos-again Persistent = (refl, refl)
qos-again NonPersistent = (refl, refl)

one-or-two-read : (n : ℕ) → is_one_or_two n ≡ true → (last_number (last_of n) ≡ n) × (qos_number (qos_of n) ≡ n)
one-or-two-read zero is = absurd cc
one-or-two-read (suc zero) is = (refl, refl)
one-or-two-read (suc (suc zero)) is = (refl, refl)
one-or-two-read (suc (suc (suc n))) is =
    let most = leb-true (suc (suc (suc n))) 2 (and_parts (nat_le 1 (suc (suc (suc n)))) (nat_le (suc (suc (suc n))) 2) is).1 in
    absurd (omega arith)

rights-again : (top before : Bool)
    → (has_bit 1 (bit_if 1 top + bit_if 2 before) ≡ top) × (has_bit 2 (bit_if 1 top + bit_if 2 before) ≡ before)
    × (nat_le (bit_if 1 top + bit_if 2 before) 3 ≡ true)
rights-again true true = (refl, refl, refl)
rights-again true false = (refl, refl, refl)
rights-again false true = (refl, refl, refl)
rights-again false false = (refl, refl, refl)

rights-read : (n : ℕ) → n ≤ 3 → bit_if 1 (has_bit 1 n) + bit_if 2 (has_bit 2 n) ≡ n
rights-read zero most = refl
rights-read (suc zero) most = refl
rights-read (suc (suc zero)) most = refl
rights-read (suc (suc (suc zero))) most = refl
rights-read (suc (suc (suc (suc n)))) most = absurd (omega arith)

-- ---- criteria

criteria-again : (cs : List Criterion) → map criterion_of (map criterion_number cs) ≡ cs
criteria-again [] = refl
criteria-again (c ∷ cs) = λ i. criterion-again c i ∷ criteria-again cs i

criteria-fit : (cs : List Criterion) → list_all is_criterion (map criterion_number cs) ≡ true
criteria-fit [] = refl
criteria-fit (c ∷ cs) = and_from (is_criterion (criterion_number c)) (list_all is_criterion (map criterion_number cs)) (criterion-fits c) (criteria-fit cs)

criteria-read : (numbers : List ℕ) → list_all is_criterion numbers ≡ true → map criterion_number (map criterion_of numbers) ≡ numbers
criteria-read [] are = refl
criteria-read (n ∷ numbers) are =
    let parts = and_parts (is_criterion n) (list_all is_criterion numbers) are in
    λ i. criterion-read n parts.0 i ∷ criteria-read numbers parts.1 i

differ : (a b : Criterion) → a ≢ b → not (criterion_number a == criterion_number b) ≡ true
differ Priority Priority apart = absurd (apart refl)
differ Priority Time apart = refl
differ Priority Expiration apart = refl
differ Time Priority apart = refl
differ Time Time apart = absurd (apart refl)
differ Time Expiration apart = refl
differ Expiration Priority apart = refl
differ Expiration Time apart = refl
differ Expiration Expiration apart = absurd (apart refl)

-- distinct criteria have distinct numbers
pub criteria-differ : (cs : List Criterion) → IsDistinct cs → no_two are_one_number (map criterion_number cs) ≡ true
criteria-differ [] h = refl
criteria-differ (a ∷ []) h = refl
criteria-differ (a ∷ b ∷ []) h = rw (differ a b (λ e. h 0 1 (omega arith) (omega arith) (ap Some e))) refl
criteria-differ (a ∷ b ∷ c ∷ []) h =
    rw (
      differ a b (λ e. h 0 1 (omega arith) (omega arith) (ap Some e)),
      differ a c (λ e. h 0 2 (omega arith) (omega arith) (ap Some e)),
      differ b c (λ e. h 1 2 (omega arith) (omega arith) (ap Some e)),
    ) refl
criteria-differ (a ∷ b ∷ c ∷ d ∷ cs) h = let few = length-distinct (a ∷ b ∷ c ∷ d ∷ cs) h in absurd (omega arith)

-- ---- names and runs

name-short : (name : List ℕ) → is_name name ≡ true → length name ≤ 15
name-short [] is = omega arith
name-short (b ∷ name) is =
    let parts = and_parts (is_allowed_at 0 b && list_all (is_allowed_at 1) name) (nat_le (length name) 14) is in
    let most = leb-true (length name) 14 parts.1 in
    omega arith

front-again : (n : ℕ) (bytes : List ℕ) → take (length bytes) (filled n bytes) ≡ bytes
front-again n bytes = take_at bytes (digits (n - length bytes) 0) (length bytes) refl

-- ---- what is made of a queue

name-again : (d : QueueDef) → slot_name (slot_of_queue d) ≡ d.name
name-again d = front-again 127 d.name

numbers-again : (d : QueueDef) → slot_criteria (slot_of_queue d) ≡ map criterion_number d.order.criteria
numbers-again d =
    let numbers = map criterion_number d.order.criteria in
    ap (λ (n : ℕ). take n (filled 3 numbers)) (sym (length-map d.order.criteria criterion_number)) ∙ front-again 3 numbers

order-again : (d : QueueDef) → map criterion_of (slot_criteria (slot_of_queue d)) ≡ d.order.criteria
order-again d = ap (map criterion_of) (numbers-again d) ∙ criteria-again d.order.criteria

slot-holds : (d : QueueDef) → HasQueueSlot d → is_queue_slot (slot_of_queue d) ≡ true
slot-holds d has =
    let short = le-leb (length d.name) 15 (name-short d.name has.name) in
    let named = ap is_name (name-again d) ∙ has.name in
    let few = le-leb (length d.order.criteria) 3 (length-distinct d.order.criteria has.distinct) in
    let criteria = and_from (list_all is_criterion (map criterion_number d.order.criteria)) (no_two are_one_number (map criterion_number d.order.criteria))
    (criteria-fit d.order.criteria) (criteria-differ d.order.criteria has.distinct) in
    let are = ap are_criteria (numbers-again d) ∙ criteria in
    rw (short, named, few, are, (last-again d.order.last).1, (rights-again d.top d.before).2, (qos-again d.qos).1, has.delay) refl

queue-same : (d : QueueDef) → queue_in_slot (slot_of_queue d) ≡ d
queue-same d =
    let name = name-again d in
    let criteria = order-again d in
    let last = (last-again d.order.last).0 in
    let rights = rights-again d.top d.before in
    let top = rights.0 in
    let before = rights.1 in
    let qos = (qos-again d.qos).0 in
    λ i. record {
      name = name i;
      order = record { criteria = criteria i; last = last i };
      top = top i;
      before = before i;
      qos = qos i;
      retries = d.retries;
      delay = d.delay;
    }

pub queue-again : (d : QueueDef) → HasQueueSlot d → queue_of_slot (slot_of_queue d) ≡ Some d
unfolding queue_of_slot
queue-again d has =
    ap (λ (b : Bool). cond b (Some (queue_in_slot (slot_of_queue d))) None) (slot-holds d has) ∙ ap Some (queue-same d)

-- ---- what makes a queue

guard-some : {X : Type 0} (b : Bool) (x y : X) → cond b (Some x) None ≡ Some y → (b ≡ true) × (x ≡ y)
guard-some true x y e = (refl, cc)
guard-some false x y e = absurd cc

-- what the tests of a slot say of it
pub record IsQueueSlot (s : QueueSlot) : Type 0 where
  pub used : s.used ≡ 1
  pub short : s.name_length ≤ 15
  pub name : is_name (slot_name s) ≡ true
  pub few : s.count ≤ 3
  pub criteria : list_all is_criterion (slot_criteria s) ≡ true
  pub distinct : no_two are_one_number (slot_criteria s) ≡ true
  pub last : is_one_or_two s.last ≡ true
  pub rights : s.rights ≤ 3
  pub qos : is_one_or_two s.qos ≡ true

pub slot-parts : (s : QueueSlot) → is_queue_slot s ≡ true → IsQueueSlot s
slot-parts s holds =
    let criteria = are_criteria (slot_criteria s) in
    let all = and_parts (has_queue_name s && has_queue_order s) (has_queue_numbers s) holds in
    let first = and_parts (has_queue_name s) (has_queue_order s) all.0 in
    let name = and_parts (s.used == 1 && nat_le s.name_length 15) (is_name (slot_name s)) first.0 in
    let used = and_parts (s.used == 1) (nat_le s.name_length 15) name.0 in
    let order = and_parts (nat_le s.count 3 && criteria) (is_one_or_two s.last) first.1 in
    let few = and_parts (nat_le s.count 3) criteria order.0 in
    let are = and_parts (list_all is_criterion (slot_criteria s)) (no_two are_one_number (slot_criteria s)) few.1 in
    let numbers = (and_parts (nat_le s.rights 3 && is_one_or_two s.qos) (nat_le s.delay last_moment) all.1).0 in
    let rights = and_parts (nat_le s.rights 3) (is_one_or_two s.qos) numbers in
    record {
      used = eqb-true s.used 1 used.0;
      short = leb-true s.name_length 15 used.1;
      name = name.1;
      few = leb-true s.count 3 few.0;
      criteria = are.0;
      distinct = are.1;
      last = order.1;
      rights = leb-true s.rights 3 rights.0;
      qos = rights.1;
    }

slot-same : (s : QueueSlot) → HasWidths s → is_queue_slot s ≡ true → slot_of_queue (queue_in_slot s) ≡ read_queue_slot s
slot-same s wide holds =
    let is = slot-parts s holds in
    let short = is.short in
    let few = is.few in
    let name_wide = wide.name in
    let criteria_wide = wide.criteria in
    let used = sym is.used in
    let name_size = length-take s.name_length s.name in
    let name_length : length (slot_name s) ≡ s.name_length = omega arith in
    let criteria = criteria-read (slot_criteria s) is.criteria in
    let size = length-map (slot_criteria s) criterion_of in
    let taken = length-take s.count s.criteria in
    let count : length (map criterion_of (slot_criteria s)) ≡ s.count = omega arith in
    let last = (one-or-two-read s.last is.last).0 in
    let rights = rights-read s.rights is.rights in
    let qos = (one-or-two-read s.qos is.qos).1 in
    λ i. record {
      used = used i;
      name_length = name_length i;
      name = filled 127 (slot_name s);
      count = count i;
      criteria = filled 3 (criteria i);
      last = last i;
      rights = rights i;
      qos = qos i;
      retries = s.retries;
      delay = s.delay;
    }

pub queue-read : (s : QueueSlot) (d : QueueDef) → HasWidths s → queue_of_slot s ≡ Some d → slot_of_queue d ≡ read_queue_slot s
unfolding queue_of_slot
queue-read s d wide is =
    let made = guard-some (is_queue_slot s) (queue_in_slot s) d is in
    ap slot_of_queue (sym made.1) ∙ slot-same s wide made.0

-- ---- what code makes of numbers

pub zeros-all : (n : ℕ) → replicate n 0 ≡ digits n 0
unfolding digits
zeros-all zero = refl
zeros-all (suc n) =
    let first : 0 ≡ 0 / 256 ^ n % 256 = sym (ap (λ (x : ℕ). x % 256) (zero-div (256 ^ n))) in
    λ i. first i ∷ zeros-all n i

zeros-left : (n k : ℕ) → drop k (replicate n 0) ≡ digits (n - k) 0
unfolding digits
zeros-left n zero = let whole : n ≡ n - 0 = omega arith in zeros-all n ∙ ap (λ (m : ℕ). digits m 0) whole
zeros-left zero (suc k) = let none : 0 ≡ 0 - suc k = omega arith in ap (λ (m : ℕ). digits m 0) none
zeros-left (suc n) (suc k) = let same : n - k ≡ suc n - suc k = omega arith in zeros-left n k ∙ ap (λ (m : ℕ). digits m 0) same

-- bytes at the front of zeros
pub front-filled : (n : ℕ) (bytes : List ℕ) → bytes ++ drop (length bytes) (replicate n 0) ≡ filled n bytes
front-filled n bytes = ap (λ (back : List ℕ). bytes ++ back) (zeros-left n (length bytes))

-- three numbers, of which those past the end are 0
pub three-filled : (numbers : List ℕ) → length numbers ≤ 3
    → get_or numbers 0 0 ∷ get_or numbers 1 0 ∷ get_or numbers 2 0 ∷ [] ≡ filled 3 numbers
unfolding digits
three-filled [] few = refl
three-filled (a ∷ []) few = refl
three-filled (a ∷ b ∷ []) few = refl
three-filled (a ∷ b ∷ c ∷ []) few = refl
three-filled (a ∷ b ∷ c ∷ d ∷ numbers) few = absurd (omega arith)

map-take : {A B : Type 0} (f : A → B) (n : ℕ) (xs : List A) → take n (map f xs) ≡ map f (take n xs)
map-take f zero xs = refl
map-take f (suc n) [] = refl
map-take f (suc n) (x ∷ xs) = ap (λ l. f x ∷ l) (map-take f n xs)

-- the criteria of a slot, among those of all its places
pub criteria-taken : (s : QueueSlot) → take s.count (map criterion_of s.criteria) ≡ (order_in_slot s).criteria
criteria-taken s = map-take criterion_of s.count s.criteria

not-same : (a b : Criterion) → a ≡ b → not (criterion_number a == criterion_number b) ≡ true → ⊥
not-same Priority Priority same holds = cc
not-same Priority Time same holds = cc
not-same Priority Expiration same holds = cc
not-same Time Priority same holds = cc
not-same Time Time same holds = cc
not-same Time Expiration same holds = cc
not-same Expiration Priority same holds = cc
not-same Expiration Time same holds = cc
not-same Expiration Expiration same holds = cc

-- criteria of distinct numbers are distinct
numbers-differ : (cs : List Criterion) → no_two are_one_number (map criterion_number cs) ≡ true → IsDistinct cs
numbers-differ [] holds i j before below same = absurd (omega arith)
numbers-differ (c ∷ cs) holds i zero before below same = absurd (omega arith)
numbers-differ (c ∷ cs) holds zero (suc j) before below same =
    among c cs j (and_parts (list_all (λ y. not (are_one_number (criterion_number c) y)) (map criterion_number cs))
    (no_two are_one_number (map criterion_number cs)) holds).0 (sym same)
  where
    among : (c : Criterion) (cs : List Criterion) (j : ℕ)
        → list_all (λ y. not (are_one_number (criterion_number c) y)) (map criterion_number cs) ≡ true → slice_get cs j ≡ Some c → ⊥
    among c [] j all is = cc
    among c (d ∷ cs) zero all is =
        let same : c ≡ d = cc in
        not-same c d same (and_parts (not (are_one_number (criterion_number c) (criterion_number d)))
        (list_all (λ y. not (are_one_number (criterion_number c) y)) (map criterion_number cs)) all).0
    among c (d ∷ cs) (suc j) all is =
        among c cs j (and_parts (not (are_one_number (criterion_number c) (criterion_number d)))
        (list_all (λ y. not (are_one_number (criterion_number c) y)) (map criterion_number cs)) all).1 is
numbers-differ (c ∷ cs) holds (suc i) (suc j) before below same =
    numbers-differ cs (and_parts (list_all (λ y. not (are_one_number (criterion_number c) y)) (map criterion_number cs))
    (no_two are_one_number (map criterion_number cs)) holds).1 i j (omega arith) (omega arith) same

-- no criterion of a queue's slot is repeated
pub none-repeated : (s : QueueSlot) (at : ℕ) → is_queue_slot s ≡ true → IsFirstRepeat (order_in_slot s).criteria at → ⊥
none-repeated s at holds (below, front, (earlier, before, same)) =
    let is = slot-parts s holds in
    let numbers = ap (no_two are_one_number) (criteria-read (slot_criteria s) is.criteria) ∙ is.distinct in
    numbers-differ (order_in_slot s).criteria numbers earlier at before below same

-- a queue's slot has a name
pub name-there : (s : QueueSlot) (found : Option (List ℕ)) → is_queue_slot s ≡ true
    → found ≡ (if is_name (slot_name s) then Some (slot_name s) else None) → found ≡ None → ⊥
name-there s found holds is none =
    let named = ap (λ (b : Bool). cond b (Some (slot_name s)) None) (slot-parts s holds).name in
    let some : Some (slot_name s) ≡ None = sym named ∙ sym is ∙ none in
    cc
