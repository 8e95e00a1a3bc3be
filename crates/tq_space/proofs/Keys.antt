-- Keys that are listed once where they have an entry: what an insert and a removal leave.
use Rattle.std.proofs.Common.{◌≡◌, ◌≢◌, ℕ, suc, ◌+◌, ◌<◌, ◌≤◌, ◌==◌, Bool, true, false, cond, not, List, [], ◌∷◌, map, length, get_or, set, refl, sym, ap, ◌∙◌, arith, Option, Some, None, eq-eqb, eqb-true, ltb, le-ltb}
use Rattle.std.specs.Prelude.{is_some}
use Rattle.std.specs.List.{All, list_any, find, position, position_or_len, count_by}
use Rattle.std.proofs.lemmas.List.{length-map}
use Rattle.std.proofs.lemmas.List.Sums.{sum_by-cons, sum_by-set, get_or-le-sum_by}
use Rattle.tq_types.specs.declared.identifiers.MsgId.{MsgId}
use Rattle.tq_types.specs.declared.messages.Entry.{Entry as HeldEntry}
use Rattle.tq_model.specs.Space.{Entry, has_id, without_entry, holds_id}
use Rattle.tq_model.specs.Moves.{IndexedQueue, queue_of, has_index, on_queue, entry_removed, indexed_holds, entry_with_id}
use Rattle.tq_space.specs.declared.shelf.HeldQueue.{HeldQueue}
use Rattle.tq_space.specs.Slots.{slot_entry, slot_at, entry_at, slot_test, slot_count}
use Rattle.tq_space.specs.Shelf.{indexed_at, key_count, IsListed}
use Rattle.tq_model.proofs.Places.{position_or_len-map, position_or_len-agree, position-none, change_first-past, list_any-place, some-cond}

-- one where it is true
abbrev pub hit : Bool → ℕ
hit b = cond b 1 0

-- ---- what is listed is there

some_from_count : (o : Option HeldEntry) → 1 ≤ slot_count o → is_some o ≡ true
some_from_count None h = absurd (omega arith)
some_from_count (Some e) h = refl

pub count-most : (o : Option HeldEntry) → slot_count o ≤ 1
count-most None = omega arith
count-most (Some e) = omega arith

at_itself : (keys : List ℕ) (place d : ℕ) → place < length keys → 1 ≤ count_by (λ k. k == get_or keys place d) keys
at_itself keys place d within =
    let key = get_or keys place d in
    let one : hit (key == key) ≡ 1 = ap hit (eq-eqb key key refl) in
    let bound = get_or-le-sum_by (λ (k : ℕ). hit (k == key)) keys place d within in
    omega arith

module _ (slots : List (Option HeldEntry)) (queues : List HeldQueue) (listed : IsListed slots queues) where
  counted_once : (at : ℕ) (d : HeldQueue) → at < length queues → (place e : ℕ) → place < length (get_or queues at d).keys.items
      → 1 ≤ key_count (get_or (get_or queues at d).keys.items place e) queues
  counted_once at d within place e inside =
      let key = get_or (get_or queues at d).keys.items place e in
      let here = at_itself (get_or queues at d).keys.items place e inside in
      let all = get_or-le-sum_by (λ (q : HeldQueue). count_by (λ k. k == key) q.keys.items) queues at d within in
      omega arith

  pub all_kept : (at : ℕ) (d : HeldQueue) → at < length queues → All (λ k. is_some (slot_at slots k) ≡ true) (get_or queues at d).keys.items
  all_kept at d within place e inside =
      let key = get_or (get_or queues at d).keys.items place e in
      let once = counted_once at d within place e inside in
      let count = listed.keys key in
      some_from_count (slot_at slots key) (omega arith)

-- ---- tests of entries at keys

slot-agrees : (test : Entry → Bool) (o : Option HeldEntry) → is_some o ≡ true → test (slot_entry o) ≡ slot_test test o
slot-agrees test None h = cc
slot-agrees test (Some e) h = refl

pub place-entries : (slots : List (Option HeldEntry)) (test : Entry → Bool) (keys : List ℕ) → All (λ k. is_some (slot_at slots k) ≡ true) keys
    → position_or_len test (map (entry_at slots) keys) ≡ position_or_len (λ k. slot_test test (slot_at slots k)) keys
place-entries slots test keys all =
    position_or_len-map (entry_at slots) test keys
    ∙ position_or_len-agree (λ k. test (entry_at slots k)) (λ k. slot_test test (slot_at slots k)) keys
    (λ k d lt. slot-agrees test (slot_at slots (get_or keys k d)) (all k d lt))

-- the queue of an index is there
pub index_there : (slots : List (Option HeldEntry)) (queues : List HeldQueue) (index : ℕ) → list_any (has_index index) (map (indexed_at slots) queues) ≡ true
    → position (λ q. q.index == index) queues ≡ None → ⊥
index_there slots queues index there none =
    let view = map (indexed_at slots) queues in
    let first = position_or_len-map (indexed_at slots) (has_index index) queues in
    let past = position-none (λ (q : HeldQueue). q.index == index) queues none in
    let long = length-map queues (indexed_at slots) in
    let no : ltb (position_or_len (has_index index) view) (length view) ≡ false = le-ltb (position_or_len (has_index index) view) (length view) (omega arith) in
    let yes : ltb (position_or_len (has_index index) view) (length view) ≡ true = sym (list_any-place (has_index index) view) ∙ there in
    cc

-- the item of that identifier
pub entry_with_id-at : (id : MsgId) (d : IndexedQueue) (qs : List IndexedQueue) → position_or_len (indexed_holds id) qs < length qs
    → entry_with_id id qs ≡ find (has_id id) (get_or qs (position_or_len (indexed_holds id) qs) d).queue.items
entry_with_id-at id d [] = λ within. absurd (omega arith)
entry_with_id-at id d (q ∷ qs) =
    let n = position_or_len (indexed_holds id) qs in
    let step : 1 + n ≡ suc n = omega arith in
    elim (indexed_holds id q) as (λ b. cond (not b) (1 + n) 0 < suc (length qs)
    → cond b (find (has_id id) q.queue.items) (entry_with_id id qs) ≡ find (has_id id) (get_or (q ∷ qs) (cond (not b) (1 + n) 0) d).queue.items) [
      | true ↦ λ within. refl
      | false ↦ λ within. rw step (entry_with_id-at id d qs (omega arith))
    ]

pub entry_with_id-past : (id : MsgId) (qs : List IndexedQueue) → length qs ≤ position_or_len (indexed_holds id) qs → entry_with_id id qs ≡ None
entry_with_id-past id [] = λ past. refl
entry_with_id-past id (q ∷ qs) =
    let n = position_or_len (indexed_holds id) qs in
    elim (indexed_holds id q) as (λ b. suc (length qs) ≤ cond (not b) (1 + n) 0 → cond b (find (has_id id) q.queue.items) (entry_with_id id qs) ≡ None) [
      | true ↦ λ past. absurd (omega arith)
      | false ↦ λ past. entry_with_id-past id qs (omega arith)
    ]

module _ (slots : List (Option HeldEntry)) (queues : List HeldQueue) (listed : IsListed slots queues) where
  -- the test of an identifier finds the queue and the place
  mark_at : (id : MsgId) (n : ℕ) (e : HeldQueue) → n < length queues
      → holds_id id (indexed_at slots (get_or queues n e)).queue ≡ is_some (position (λ k. slot_test (has_id id) (slot_at slots k)) (get_or queues n e).keys.items)
  mark_at id n e below =
      let keys = (get_or queues n e).keys.items in
      let items = map (entry_at slots) keys in
      let test = λ (k : ℕ). slot_test (has_id id) (slot_at slots k) in
      let spot : position_or_len (has_id id) items ≡ position_or_len test keys = place-entries slots (has_id id) keys (all_kept slots queues listed n e below) in
      list_any-place (has_id id) items
      ∙ (λ i. ltb (spot i) (length-map keys (entry_at slots) i))
      ∙ sym (some-cond (ltb (position_or_len test keys) (length keys)) (position_or_len test keys))

  pub first_holding : (id : MsgId)
      → position_or_len (indexed_holds id) (map (indexed_at slots) queues) ≡ position_or_len (λ (q : HeldQueue). is_some (position (λ k. slot_test (has_id id) (slot_at slots k)) q.keys.items)) queues
  first_holding id =
      position_or_len-map (indexed_at slots) (indexed_holds id) queues
      ∙ position_or_len-agree (λ q. indexed_holds id (indexed_at slots q)) (λ q. is_some (position (λ k. slot_test (has_id id) (slot_at slots k)) q.keys.items)) queues
      (λ n e below. mark_at id n e below)

  -- no queue has it: a removal leaves all as it is
  pub nothing_held : (id : MsgId) → position (λ (q : HeldQueue). is_some (position (λ k. slot_test (has_id id) (slot_at slots k)) q.keys.items)) queues ≡ None
      → entry_removed id (map (indexed_at slots) queues) ≡ map (indexed_at slots) queues
  nothing_held id none =
      change_first-past (indexed_holds id) (on_queue (without_entry id)) (map (indexed_at slots) queues)
      (let past = position-none (λ (q : HeldQueue). is_some (position (λ k. slot_test (has_id id) (slot_at slots k)) q.keys.items)) queues none in
      omega (arith, first_holding id, length-map queues (indexed_at slots)))

  pub no_entry_held : (id : MsgId) → position (λ (q : HeldQueue). is_some (position (λ k. slot_test (has_id id) (slot_at slots k)) q.keys.items)) queues ≡ None
      → entry_with_id id (map (indexed_at slots) queues) ≡ None
  no_entry_held id none =
      entry_with_id-past id (map (indexed_at slots) queues)
      (let past = position-none (λ (q : HeldQueue). is_some (position (λ k. slot_test (has_id id) (slot_at slots k)) q.keys.items)) queues none in
      omega (arith, first_holding id, length-map queues (indexed_at slots)))

-- ---- an entry changes at a key that is not listed

module _ (slots slots' : List (Option HeldEntry)) (key : ℕ) (others : (other : ℕ) → other ≢ key → slot_at slots' other ≡ slot_at slots other) where
  pub frame_keys : (keys : List ℕ) → count_by (λ k. k == key) keys ≡ 0 → map (entry_at slots') keys ≡ map (entry_at slots) keys
  frame_keys [] none = refl
  frame_keys (k ∷ keys) none =
      let sum = sum_by-cons (λ (x : ℕ). hit (x == key)) k keys in
      let differs : k ≢ key = λ e. let one : hit (k == key) ≡ 1 = ap hit (eq-eqb k key e) in omega arith in
      let rest = frame_keys keys (omega arith) in
      λ i. slot_entry (others k differs i) ∷ rest i

  pub frame : (queues : List HeldQueue) → key_count key queues ≡ 0 → map (indexed_at slots') queues ≡ map (indexed_at slots) queues
  frame [] none = refl
  frame (q ∷ queues) none =
      let sum = sum_by-cons (λ (x : HeldQueue). count_by (λ k. k == key) x.keys.items) q queues in
      let here = frame_keys q.keys.items (omega arith) in
      let rest = frame queues (omega arith) in
      λ i. record { index = q.index; queue = queue_of q.def (here i) } ∷ rest i

-- ---- a queue gets other keys

pub record IsRekeyed (q q' : HeldQueue) (keys : List ℕ) : Type 0 where
  pub index : q'.index ≡ q.index
  pub def : q'.def ≡ q.def
  pub keys_are : q'.keys.items ≡ keys

module _ (queues : List HeldQueue) (at : ℕ) (d : HeldQueue) (within : at < length queues) (q' : HeldQueue) where
  pub counted : (k : ℕ) → key_count k (set queues at q') + count_by (λ x. x == k) (get_or queues at d).keys.items ≡ key_count k queues + count_by (λ x. x == k) q'.keys.items
  counted k = sum_by-set (λ (q : HeldQueue). count_by (λ x. x == k) q.keys.items) queues at q' d within

  pub same_indices : q'.index ≡ (get_or queues at d).index → (index : ℕ) → count_by (λ q. q.index == index) (set queues at q') ≡ count_by (λ q. q.index == index) queues
  same_indices same index =
      let both = sum_by-set (λ (q : HeldQueue). hit (q.index == index)) queues at q' d within in
      let e : hit (q'.index == index) ≡ hit ((get_or queues at d).index == index) = ap (λ (n : ℕ). hit (n == index)) same in
      omega arith

pub by_key : (key k : ℕ) (P : Type 0) → (key ≡ k → P) → (k ≢ key → (key == k) ≡ false → P) → P
by_key key k P same other =
    elim (key == k) as (λ b. (key == k) ≡ b → P) [
      | true ↦ λ e. same (eqb-true key k e)
      | false ↦ λ e. other (λ h. let t = eq-eqb key k (sym h) in cc) e
    ] refl
