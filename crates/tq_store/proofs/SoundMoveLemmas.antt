-- A space in memory is sound after one move.
use Rattle.std.proofs.Common.{◌≡◌, ◌≢◌, inl, inr, ℕ, ◌+◌, ◌-◌, ◌<◌, ◌≤◌, ◌==◌, ◌&&◌, not, Bool, true, false, List, [], ◌∷◌, length, get_or, Option, Some, None}
use Rattle.std.proofs.Common.{refl, sym, ap, ◌∙◌, subst, arith}
use Rattle.std.specs.Prelude.{is_some, nat_le, slice_index_or, slice_set}
use Rattle.std.specs.List.{All, insert, list_all, list_any, position_or_len, remove}
use Rattle.std.proofs.lemmas.Bool.{and_from, and_parts, cases_eq, cases_lt, cond-false, eqb-true, false≢true, le-leb, leb-true}
use Rattle.std.proofs.lemmas.List.{get_or-set_same, get_or-set_other, length-map, length-set, map-set}
use Rattle.std.proofs.lemmas.List.Elements.{All-nil, All-set}
use Rattle.std.proofs.lemmas.List.Sums.{AllPass-from_list_all, list_all-from_AllPass}
use Rattle.std.proofs.Math.ListN.{get_or-eq_default}
use Rattle.tq_types.specs.Order.{IsDistinct}
use Rattle.tq_types.specs.declared.identifiers.Arrival.{Arrival}
use Rattle.tq_types.specs.declared.identifiers.MsgId.{MsgId}
use Rattle.tq_types.specs.declared.messages.Entry.{Entry as HeldEntry}
use Rattle.tq_types.specs.declared.messages.Qos.{Qos}
use Rattle.tq_types.specs.declared.messages.Qos.TheVariants.{NonPersistent, Persistent}
use Rattle.tq_model.specs.declared.space.QueueDef.{QueueDef}
use Rattle.tq_model.specs.declared.space.Shape.{Shape}
use Rattle.tq_model.specs.declared.space.SpaceMove.TheVariants.{Insert, PutQueue, Remove}
use Rattle.tq_model.specs.Moves.{IndexedQueue, IndexedSpace, comes_before, entry_removed, entry_view, entry_with_id, has_index, indexed_holds, mark_view, moved, on_queue}
use Rattle.tq_model.specs.Moves.{owner_in, queue_added, queue_of, session_owners, space_of}
use Rattle.tq_model.specs.Names.{is_name}
use Rattle.tq_model.specs.Plain.{HasOnlySurvivors, SurvivesCrash}
use Rattle.tq_model.specs.Reading.{hold_all}
use Rattle.tq_model.specs.Room.{messages_held, pages_at, pages_held, pages_of_entry, queue_pages}
use Rattle.tq_model.specs.Space.{Entry, Limits, Queue, change_first, has_id, stands_before, with_entry, without_entry}
use Rattle.tq_model.proofs.RecordMoves.{All-change_first, All-insert, All-remove}
use Rattle.tq_pages.specs.Store.{Store, IsStore, HasAdded, chain_pages, free_pages, size_of}
use Rattle.tq_space.proofs.Counts.{length_less, length_more, length_of, pages_less, pages_more, removed_nothing, total, total_added, total_inserted, total_removed}
use Rattle.tq_slots.specs.declared.record.MessageSlot.{MessageSlot}
use Rattle.tq_slots.specs.declared.record.QueueSlot.{QueueSlot}
use Rattle.tq_slots.specs.declared.record.Set.TheVariants as sets
use Rattle.tq_slots.specs.MessageForm.{header_size, is_free_slot, last_moment}
use Rattle.tq_slots.specs.MessageSlots.{Slots, UsedSlot, arrival_of}
use Rattle.tq_slots.specs.QueueForm.{is_queue_slot, queue_in_slot, queue_of_slot, slot_of_queue}
use Rattle.tq_slots.specs.SlotImages.{RawSlots, queue_slots_in, raw_of, slots_in, used_of, with_set}
use Rattle.tq_slots.specs.SpaceReading.{is_bare_entry, is_bare_label, is_bare_message, is_bare_queue, is_message_or_empty, is_no_branch, is_persistent_queue}
use Rattle.tq_slots.specs.SpaceReading.{is_queue_or_unused, slot_tests, space_tests}
use Rattle.tq_slots.proofs.LawLemmas.{first_law}
use Rattle.tq_slots.proofs.ListLemmas.{no_some, some_injective, some_none}
use Rattle.tq_slots.proofs.QueueFormLemmas.{queue-again}
use Rattle.tq_slots.proofs.QueueSlotLemmas.{made}
use Rattle.tq_slots.proofs.SlotImageLemmas.{used-again}
use Rattle.tq_store.specs.Draft.{entry_slot, with_message}
use Rattle.tq_store.specs.declared.place.SpacePlace.{SpacePlace}
use Rattle.tq_store.specs.Commit.{CanBeMade, CanComeIn}
use Rattle.tq_store.specs.File.{FileState, IsHeld, IsSound, clusters_of}
use Rattle.tq_store.specs.Place.{IsPlace, log_layout}
use Rattle.tq_store.specs.Sound.{IsSpaceOf}
use Rattle.tq_store.specs.Stored.{HasStore, IsUsedAt}
use Rattle.tq_store.proofs.ReadSpaceLemmas.{some_where}
use Rattle.tq_store.proofs.StoreChangeLemmas.{store_added, store_removed}

-- ---- room for what comes in

module _ (f : FileState) (sound : IsSound f) (e : HeldEntry) (can : CanComeIn e f.space) where
  -- its pages are free
  pub insert_room : chain_pages (header_size + length e.message.body) ≤ free_pages f.store
  insert_room =
      let room = sound.room in
      let most = subst (λ q. pages_held (space_of f.space) + pages_at q (length e.message.body) ≤ f.space.limits.pages) can.persistent can.can.pages in
      omega arith

  -- and there are slots enough
  pub insert_few : messages_held (space_of f.space) + 1 ≤ length (slots_in f.raw)
  insert_few =
      let most = can.can.messages in
      let limit = ap (λ (l : Limits). l.messages) sound.space.limits in
      let size = length-map f.raw.messages used_of in
      let slots = sound.size.messages in
      omega arith

-- ---- one message slot is set

slots_set : (raw : RawSlots) (index : ℕ) (u : Option UsedSlot) → slots_in (with_message index u raw) ≡ slice_set (slots_in raw) index u
slots_set raw index u = map-set used_of raw.messages index (raw_of u) ∙ ap (slice_set (slots_in raw) index) (used-again u)

pub set_there : (raw : RawSlots) (index : ℕ) (u : Option UsedSlot) → index < length (slots_in raw)
    → slice_index_or (slots_in (with_message index u raw)) index None ≡ u
set_there raw index u lt = ap (λ (l : Slots). slice_index_or l index None) (slots_set raw index u) ∙ get_or-set_same (slots_in raw) index u None lt

pub set_elsewhere : (raw : RawSlots) (index i : ℕ) (u : Option UsedSlot) → i ≢ index
    → slice_index_or (slots_in (with_message index u raw)) i None ≡ slice_index_or (slots_in raw) i None
set_elsewhere raw index i u other =
    ap (λ (l : Slots). slice_index_or l i None) (slots_set raw index u) ∙ get_or-set_other (slots_in raw) index i u None other

-- a used slot is one of the slots
pub used_within : (raw : RawSlots) (index : ℕ) (m : UsedSlot) → IsUsedAt raw index m → index < length (slots_in raw)
used_within raw index m at = elim (cases_lt index (length (slots_in raw))) [
  | inl lt ↦ lt
  | inr past ↦ absurd (some_none (sym at ∙ get_or-eq_default (slots_in raw) None past))
]

module _ (shape : Shape) (clusters : List ℕ) (raw : RawSlots) (old new : Store) (has : HasStore shape clusters raw old) (is : IsStore new) (index : ℕ) where
  -- a slot that was empty begins a chain that was added
  pub store_inserted : (u : UsedSlot) (size : ℕ) → HasAdded old u.first size new → 1 ≤ size → index < length (slots_in raw)
      → slice_index_or (slots_in raw) index None ≡ None → HasStore shape clusters (with_message index (Some u) raw) new
  store_inserted u size added some lt empty =
      let raw' = with_message index (Some u) raw in
      let here : IsUsedAt raw' index u = set_there raw index (Some u) lt in
      store_added shape clusters raw old new u.first size has is added raw' some
      (λ g r. elim (cases_eq r.0 index) [
        | inl same ↦
            let one : u ≡ r.1 = some_injective (sym here ∙ ap (λ (n : ℕ). slice_index_or (slots_in raw') n None) (sym same) ∙ r.2) in
            inl (sym r.3 ∙ sym (ap (λ (m : UsedSlot). m.first) one))
        | inr other ↦ inr (r.0, r.1, sym (set_elsewhere raw index r.0 (Some u) other) ∙ r.2, r.3)
      ])
      (λ g r.
      let other : r.0 ≢ index = λ same. some_none (sym r.2 ∙ ap (λ (n : ℕ). slice_index_or (slots_in raw) n None) same ∙ empty) in
      (r.0, r.1, set_elsewhere raw index r.0 (Some u) other ∙ r.2, r.3))
      (index, u, here, refl)

  -- a slot that began a chain, as no other does, is empty where the chain is removed
  pub store_emptied : (m : UsedSlot) → IsUsedAt raw index m → ((j : ℕ) (r : UsedSlot) → IsUsedAt raw j r → r.first ≡ m.first → j ≡ index)
      → HasAdded new m.first (size_of old m.first) old → HasStore shape clusters (with_message index None raw) new
  store_emptied m at once removed =
      let raw' = with_message index None raw in
      let none = set_there raw index None (used_within raw index m at) in
      store_removed shape clusters raw old new m.first (size_of old m.first) has is removed raw'
      (λ g r.
      let other : r.0 ≢ index = λ same. some_none (sym r.2 ∙ ap (λ (n : ℕ). slice_index_or (slots_in raw') n None) same ∙ none) in
      let before : IsUsedAt raw r.0 r.1 = sym (set_elsewhere raw index r.0 None other) ∙ r.2 in
      ((r.0, r.1, before, r.3), λ same. other (once r.0 r.1 before (r.3 ∙ same))))
      (λ g r apart.
      let other : r.0 ≢ index = λ same.
      let one : r.1 ≡ m = some_injective (sym r.2 ∙ ap (λ (n : ℕ). slice_index_or (slots_in raw) n None) same ∙ at) in
      apart (sym r.3 ∙ ap (λ (u : UsedSlot). u.first) one) in
      (r.0, r.1, set_elsewhere raw index r.0 None other ∙ r.2, r.3))

-- a slot of a queue says nothing of chains
pub store_queue : (shape : Shape) (clusters : List ℕ) (raw : RawSlots) (store : Store) (index : ℕ) (slot : QueueSlot) → HasStore shape clusters raw store
    → HasStore shape clusters (with_set (sets.Queue index slot) raw) store
store_queue shape clusters raw store index slot has =
    record {
      is = has.is;
      clusters_are = has.clusters_are;
      pages = has.pages;
      overhead = has.overhead;
      chains = λ i m at. has.chains i m at;
      within = has.within;
      slots = λ g some. has.slots g some;
    }

-- ---- what is judged of slots

all_three : (a b c : Bool) → a ≡ true → b ≡ true → c ≡ true → (a && (b && (c && true))) ≡ true
all_three a b c x y z = and_from a (b && (c && true)) x (and_from b (c && true) y (and_from c true z refl))

three_parts : (a b c : Bool) → (a && (b && (c && true))) ≡ true → (a ≡ true) × (b ≡ true) × (c ≡ true)
three_parts a b c h =
    let first = and_parts a (b && (c && true)) h in
    let rest = and_parts b (c && true) first.1 in
    (first.0, rest.0, (and_parts c true rest.1).0)

all_set : {X : Type 0} (p : X → Bool) (xs : List X) (index : ℕ) (x : X) → p x ≡ true → list_all p xs ≡ true → list_all p (slice_set xs index x) ≡ true
all_set p xs index x here all =
    list_all-from_AllPass p (slice_set xs index x) (All-set (λ y. p y ≡ true) xs index x here (AllPass-from_list_all p xs all))

tests_message : (raw : RawSlots) (index : ℕ) (m : MessageSlot) → is_message_or_empty m ≡ true → hold_all (slot_tests raw) ≡ true
    → hold_all (slot_tests (with_set (sets.Message index m) raw)) ≡ true
tests_message raw index m here tests =
    let are = three_parts (list_all is_no_branch raw.branches) (list_all is_queue_or_unused raw.queues) (list_all is_message_or_empty raw.messages) tests in
    all_three (list_all is_no_branch raw.branches) (list_all is_queue_or_unused raw.queues) (list_all is_message_or_empty (slice_set raw.messages index m))
    are.0 are.1 (all_set is_message_or_empty raw.messages index m here are.2)

-- a slot is emptied
pub tests_emptied : (raw : RawSlots) (index : ℕ) → hold_all (slot_tests raw) ≡ true → hold_all (slot_tests (with_message index None raw)) ≡ true
tests_emptied raw index tests = tests_message raw index (raw_of None) refl tests

is_not : (b : Bool) → not b ≡ true → b ≡ false
is_not true h = absurd (false≢true h)
is_not false h = refl

-- an entry that has nothing that is not built
record IsBareEntry (e : Entry) : Type 0 where
  top : e.label.root.top ≡ false
  root_priority : e.label.root.priority ≡ 50
  root_available : e.label.root.available ≡ 0
  root_expiration : e.label.root.expiration ≡ None
  path : (length e.label.path == 0) ≡ true
  priority : e.message.priority ≡ 50
  available : e.message.available ≡ 0
  expiration : e.message.expiration ≡ None

bare_parts : (e : Entry) → is_bare_entry e ≡ true → IsBareEntry e
bare_parts e bare =
    let both = and_parts (is_bare_label e.label) (is_bare_message e.message) bare in
    let path = and_parts _ _ both.0 in
    let lasting = and_parts _ _ path.0 in
    let root = and_parts _ _ lasting.0 in
    let numbers = and_parts _ _ root.1 in
    let rest = and_parts _ _ both.1 in
    let names = and_parts _ _ rest.0 in
    let own = and_parts _ _ names.0 in
    let tries = and_parts _ _ own.0 in
    let times = and_parts _ _ tries.0 in
    record {
      top = is_not e.label.root.top root.0;
      root_priority = eqb-true e.label.root.priority 50 numbers.0;
      root_available = eqb-true e.label.root.available 0 numbers.1;
      root_expiration = no_some e.label.root.expiration (is_not (is_some e.label.root.expiration) lasting.1);
      path = path.1;
      priority = eqb-true e.message.priority 50 times.0;
      available = eqb-true e.message.available 0 times.1;
      expiration = no_some e.message.expiration (is_not (is_some e.message.expiration) own.1);
    }

-- a label without a path ends with its root
root_last : (path : List Arrival) (root : Arrival) → (length path == 0) ≡ true → slice_index_or path (length path - 1) root ≡ root
root_last [] root h = refl
root_last (a ∷ path) root h = let none = eqb-true (length (a ∷ path)) 0 h in absurd (omega arith)

slot_free : (first : ℕ) (e : HeldEntry) (s : IndexedSpace) → CanComeIn e s → is_free_slot (raw_of (Some (entry_slot first e))) ≡ true
slot_free first e s can =
    let is = bare_parts (entry_view session_owners e) can.bare in
    let root : arrival_of e.message.id ≡ e.label.root.arrival = sym can.label ∙ root_last e.label.path e.label.root.arrival is.path in
    let root_epoch = subst (λ (a : Arrival). 1 ≤ a.epoch) root can.epoch in
    (λ i. is_free_slot (raw_of (Some (record {
      queue = e.queue;
      root = record {
        top = is.top i;
        priority = is.root_priority i;
        available = is.root_available i;
        expiration = is.root_expiration i;
        arrival = e.label.root.arrival;
      };
      numbers = length e.label.path;
      priority = is.priority i;
      available = is.available i;
      expiration = is.expiration i;
      retries = e.message.retries;
      arrival = arrival_of e.message.id;
      first = first;
    }))))
    ∙ and_from (nat_le 1 e.message.id.epoch) (nat_le 1 e.label.root.arrival.epoch) (le-leb 1 e.message.id.epoch can.epoch)
    (le-leb 1 e.label.root.arrival.epoch root_epoch)

-- a slot becomes that of an entry that comes in
pub tests_inserted : (raw : RawSlots) (index first : ℕ) (e : HeldEntry) (s : IndexedSpace) → CanComeIn e s → hold_all (slot_tests raw) ≡ true
    → hold_all (slot_tests (with_message index (Some (entry_slot first e)) raw)) ≡ true
tests_inserted raw index first e s can tests = tests_message raw index (raw_of (Some (entry_slot first e))) (slot_free first e s can) tests

-- a queue that has nothing that is not built
record IsBareQueue (q : Queue) : Type 0 where
  criteria : q.order.criteria ≡ []
  qos : q.qos ≡ Persistent
  delay : q.delay ≡ 0

no_items : {X : Type 0} (xs : List X) → (length xs == 0) ≡ true → xs ≡ []
no_items [] h = refl
no_items (x ∷ xs) h = let none = eqb-true (length (x ∷ xs)) 0 h in absurd (omega arith)

is_lasting : (q : Qos) → is_persistent_queue q ≡ true → q ≡ Persistent
is_lasting Persistent h = refl
is_lasting NonPersistent h = absurd (false≢true h)

queue_parts : (q : Queue) → is_bare_queue q ≡ true → IsBareQueue q
queue_parts q bare =
    let items = and_parts _ _ bare in
    let times = and_parts _ _ items.0 in
    let lasts = and_parts _ _ times.0 in
    let sides = and_parts _ _ lasts.0 in
    let order = and_parts _ _ sides.0 in
    let tries = and_parts _ _ times.1 in
    record {
      criteria = no_items q.order.criteria order.0;
      qos = is_lasting q.qos lasts.1;
      delay = eqb-true q.delay 0 tries.1;
    }

queue_passes : (d : QueueDef) → is_name d.name ≡ true → is_bare_queue (queue_of d []) ≡ true → is_queue_or_unused (slot_of_queue d) ≡ true
unfolding queue_of_slot
queue_passes d named bare =
    let is = queue_parts (queue_of d []) bare in
    (some_where (is_queue_slot (slot_of_queue d)) (Some (queue_in_slot (slot_of_queue d))) d (queue-again d (record {
      name = named;
      distinct = subst IsDistinct (sym is.criteria) (λ i j before below same. absurd (omega (arith, below)));
      delay = ap (λ (n : ℕ). nat_le n last_moment) is.delay;
    }))).0

-- a slot becomes that of a queue that is made
pub tests_queue : (raw : RawSlots) (index : ℕ) (d : QueueDef) (s : IndexedSpace) → CanBeMade index d s → hold_all (slot_tests raw) ≡ true
    → hold_all (slot_tests (with_set (sets.Queue index (slot_of_queue d)) raw)) ≡ true
tests_queue raw index d s can tests =
    let are = three_parts (list_all is_no_branch raw.branches) (list_all is_queue_or_unused raw.queues) (list_all is_message_or_empty raw.messages) tests in
    all_three (list_all is_no_branch raw.branches) (list_all is_queue_or_unused (slice_set raw.queues index (slot_of_queue d)))
    (list_all is_message_or_empty raw.messages)
    are.0 (all_set is_queue_or_unused raw.queues index (slot_of_queue d) (queue_passes d can.name can.bare) are.1) are.2

-- ---- the space

-- each still passes where some of them are changed
all_changed : {X : Type 0} (p test : X → Bool) (change : X → X) → ((x : X) → p x ≡ true → p (change x) ≡ true) → (xs : List X) → list_all p xs ≡ true
    → list_all p (change_first test change xs) ≡ true
all_changed p test change keeps xs all =
    list_all-from_AllPass p (change_first test change xs)
    (All-change_first (λ x. p x ≡ true) test change keeps xs (AllPass-from_list_all p xs all))

bare_with : (x : Entry) (q : Queue) → is_bare_entry x ≡ true → is_bare_queue q ≡ true → is_bare_queue (with_entry x q) ≡ true
bare_with x q here bare =
    let parts = and_parts _ (list_all is_bare_entry q.items) bare in
    let at = position_or_len (stands_before q.order x) q.items in
    and_from _ (list_all is_bare_entry (insert q.items at x)) parts.0
    (list_all-from_AllPass is_bare_entry (insert q.items at x)
    (All-insert (λ y. is_bare_entry y ≡ true) q.items at x here (AllPass-from_list_all is_bare_entry q.items parts.1)))

bare_without : (id : MsgId) (q : Queue) → is_bare_queue q ≡ true → is_bare_queue (without_entry id q) ≡ true
bare_without id q bare =
    let parts = and_parts _ (list_all is_bare_entry q.items) bare in
    let at = position_or_len (has_id id) q.items in
    and_from _ (list_all is_bare_entry (remove q.items at)) parts.0
    (list_all-from_AllPass is_bare_entry (remove q.items at)
    (All-remove (λ y. is_bare_entry y ≡ true) q.items at (AllPass-from_list_all is_bare_entry q.items parts.1)))

abbrev is_bare : IndexedQueue → Bool
is_bare q = is_bare_queue q.queue

space_passes : (s : IndexedSpace) → messages_held (space_of s) ≤ s.limits.messages → pages_held (space_of s) ≤ s.limits.pages
    → list_all is_bare s.queues ≡ true → hold_all (space_tests s) ≡ true
space_passes s few fit bare =
    all_three (nat_le (messages_held (space_of s)) s.limits.messages) (nat_le (pages_held (space_of s)) s.limits.pages) (list_all is_bare s.queues)
    (le-leb (messages_held (space_of s)) s.limits.messages few) (le-leb (pages_held (space_of s)) s.limits.pages fit) bare

-- ---- what is counted

abbrev inserted_entry : HeldEntry → IndexedSpace → Entry
inserted_entry e s = entry_view (owner_in s.owners) e

pub messages_inserted : (e : HeldEntry) (s : IndexedSpace) → CanComeIn e s → messages_held (space_of (moved (Insert e) s)) ≡ messages_held (space_of s) + 1
messages_inserted e s can = let x = inserted_entry e s in total_inserted length_of 1 x (length_more x) e.queue s.queues can.can.there

pub pages_inserted : (e : HeldEntry) (s : IndexedSpace) → CanComeIn e s
    → pages_held (space_of (moved (Insert e) s)) ≡ pages_held (space_of s) + chain_pages (header_size + length e.message.body)
pages_inserted e s can =
    let x = inserted_entry e s in
    total_inserted queue_pages (pages_of_entry x) x (pages_more x) e.queue s.queues can.can.there
    ∙ ap (λ (q : Qos). pages_held (space_of s) + pages_at q (length e.message.body)) can.persistent

-- what is removed is counted no more
total_less : (g : Queue → ℕ) (w : Entry → ℕ)
    → ((q : Queue) (at : ℕ) (d : Entry) → at < length q.items → g (record q { items = remove q.items at }) + w (get_or q.items at d) ≡ g q)
    → (id : MsgId) (queues : List IndexedQueue) → total g (entry_removed id queues) ≤ total g queues
total_less g w less id queues =
    (elim (entry_with_id id queues) as (λ o. entry_with_id id queues ≡ o → total g (entry_removed id queues) ≤ total g queues) [
      | None ↦ λ e. let same = ap (total g) (removed_nothing id queues e) in omega arith
      | Some item ↦ λ e. let one = total_removed g w less id item queues e in omega arith
    ]) refl

-- a queue is put in its place
queue_made : (index : ℕ) (d : QueueDef) (s : IndexedSpace) → CanBeMade index d s → (moved (PutQueue index d) s).queues ≡ queue_added index d s.queues
queue_made index d s can =
    cond-false (list_any (has_index index) s.queues) (change_first (has_index index) (on_queue (λ queue. queue_of d queue.items)) s.queues)
    (queue_added index d s.queues) can.unused

total_made : (g : Queue → ℕ) (index : ℕ) (d : QueueDef) (s : IndexedSpace) → CanBeMade index d s → g (queue_of d []) ≡ 0
    → total g (moved (PutQueue index d) s).queues ≡ total g s.queues
total_made g index d s can none = ap (total g) (queue_made index d s can) ∙ total_added g index d none s.queues

All-made : (P : IndexedQueue → Type 0) (index : ℕ) (d : QueueDef) (s : IndexedSpace) → CanBeMade index d s → P (made index d) → All P s.queues
    → All P (moved (PutQueue index d) s).queues
All-made P index d s can here all =
    subst (All P) (sym (queue_made index d s can)) (All-insert P s.queues (position_or_len (comes_before d.name) s.queues) (made index d) here all)

-- ---- the space after a move

module _ (place : SpacePlace) (shape : Shape) (s : IndexedSpace) (is : IsSpaceOf place shape s) where
  parts : (nat_le (messages_held (space_of s)) s.limits.messages ≡ true) × (nat_le (pages_held (space_of s)) s.limits.pages ≡ true)
      × (list_all is_bare s.queues ≡ true)
  parts =
      three_parts (nat_le (messages_held (space_of s)) s.limits.messages) (nat_le (pages_held (space_of s)) s.limits.pages) (list_all is_bare s.queues)
      is.tests

  few : messages_held (space_of s) ≤ s.limits.messages
  few = leb-true (messages_held (space_of s)) s.limits.messages parts.0

  fit : pages_held (space_of s) ≤ s.limits.pages
  fit = leb-true (pages_held (space_of s)) s.limits.pages parts.1

  abbrev IsOwnEntry : Entry → Type 0
  IsOwnEntry x = (x.message.id.site ≡ s.site) × (x.message.id.space ≡ s.number)

  abbrev HasOwn : IndexedQueue → Type 0
  HasOwn q = All IsOwnEntry q.queue.items

  pub space_inserted : (e : HeldEntry) → CanComeIn e s → IsSpaceOf place shape (moved (Insert e) s)
  space_inserted e can =
      let x = inserted_entry e s in
      let more = messages_inserted e s can in
      let most = can.can.messages in
      let pages = pages_inserted e s can in
      let room = subst (λ (q : Qos). pages_held (space_of s) + pages_at q (length e.message.body) ≤ s.limits.pages) can.persistent can.can.pages in
      let lasts : SurvivesCrash x = record { free = ap (mark_view (owner_in s.owners)) can.can.plain.mark; persistent = can.persistent } in
      record {
        site = is.site;
        number = is.number;
        limits = is.limits;
        error = is.error;
        own = All-change_first HasOwn (has_index e.queue) (on_queue (with_entry x))
            (λ q all. All-insert IsOwnEntry q.queue.items (position_or_len (stands_before q.queue.order x) q.queue.items) x can.own all) s.queues is.own;
        plain = All-change_first HasOnlySurvivors (has_index e.queue) (on_queue (with_entry x))
            (λ q has. record {
              qos = has.qos;
              items = All-insert SurvivesCrash q.queue.items (position_or_len (stands_before q.queue.order x) q.queue.items) x lasts has.items;
            })
            s.queues is.plain;
        tests = space_passes (moved (Insert e) s) (omega (arith, more, most)) (omega (arith, pages, room))
            (all_changed is_bare (has_index e.queue) (on_queue (with_entry x)) (λ q bare. bare_with x q.queue can.bare bare) s.queues parts.2);
      }

  pub space_removed : (id : MsgId) → IsSpaceOf place shape (moved (Remove id) s)
  space_removed id =
      let less = total_less length_of (λ x. 1) length_less id s.queues in
      let pages = total_less queue_pages pages_of_entry pages_less id s.queues in
      record {
        site = is.site;
        number = is.number;
        limits = is.limits;
        error = is.error;
        own = All-change_first HasOwn (indexed_holds id) (on_queue (without_entry id))
            (λ q all. All-remove IsOwnEntry q.queue.items (position_or_len (has_id id) q.queue.items) all) s.queues is.own;
        plain = All-change_first HasOnlySurvivors (indexed_holds id) (on_queue (without_entry id))
            (λ q has. record { qos = has.qos; items = All-remove SurvivesCrash q.queue.items (position_or_len (has_id id) q.queue.items) has.items })
            s.queues is.plain;
        tests = space_passes (moved (Remove id) s) (omega (arith, less, few)) (omega (arith, pages, fit))
            (all_changed is_bare (indexed_holds id) (on_queue (without_entry id)) (λ q bare. bare_without id q.queue bare) s.queues parts.2);
      }

  pub space_made : (index : ℕ) (d : QueueDef) → CanBeMade index d s → IsSpaceOf place shape (moved (PutQueue index d) s)
  space_made index d can =
      let less = total_made length_of index d s can refl in
      let pages = total_made queue_pages index d s can refl in
      record {
        site = is.site;
        number = is.number;
        limits = is.limits;
        error = is.error;
        own = All-made HasOwn index d s can (All-nil IsOwnEntry) is.own;
        plain = All-made HasOnlySurvivors index d s can
            (record { qos = (queue_parts (queue_of d []) can.bare).qos; items = All-nil SurvivesCrash }) is.plain;
        tests = space_passes (moved (PutQueue index d) s) (omega (arith, less, few)) (omega (arith, pages, fit))
            (list_all-from_AllPass is_bare (moved (PutQueue index d) s).queues
            (All-made (λ q. is_bare q ≡ true) index d s can can.bare (AllPass-from_list_all is_bare s.queues parts.2)));
      }

-- ---- all that is in memory

module _ (f : FileState) (sound : IsSound f) where
  -- An entry came in, with its slot at an empty one, and its chain.
  pub insert_sound : (e : HeldEntry) (index first : ℕ) (store' : Store) → CanComeIn e f.space
      → IsStore store' → HasAdded f.store first (header_size + length e.message.body) store'
      → index < length (slots_in f.raw) → slice_index_or (slots_in f.raw) index None ≡ None
      → IsHeld f.place.site f.place.number (with_message index (Some (entry_slot first e)) f.raw) store' (moved (Insert e) f.space)
      → IsSound (record f { space = moved (Insert e) f.space; raw = with_message index (Some (entry_slot first e)) f.raw; store = store' })
  insert_sound e index first store' can is added lt empty held =
      let u = entry_slot first e in
      let raw' = with_message index (Some u) f.raw in
      let clusters = added.pages.clusters in
      let count = added.pages.count in
      let more = pages_inserted e f.space can in
      let before = sound.room in
      record {
        placed = subst (IsPlace f.place) (sym clusters) sound.placed;
        creation = sound.creation;
        layout = sound.layout ∙ ap (log_layout f.place f.shape) (sym clusters);
        space = space_inserted f.place f.shape f.space sound.space e can;
        owners = sound.owners;
        size = record {
          queues = sound.size.queues;
          messages = length-set f.raw.messages index (raw_of (Some u)) ∙ sound.size.messages;
          branches = sound.size.branches;
        };
        tests = tests_inserted f.raw index first e f.space can sound.tests;
        store = subst (λ (cs : List ℕ). HasStore f.shape cs raw' store') (sym clusters)
            (store_inserted f.shape (clusters_of f) f.raw f.store store' sound.store is index u (header_size + length e.message.body) added (omega arith)
            lt empty);
        dev = added.pages.dev ∙ sound.dev;
        room = omega (arith, count, more, before);
        held = held;
      }

  -- no other used slot begins the chain of a used slot
  pub first_once : (index : ℕ) (m : UsedSlot) → IsUsedAt f.raw index m → (j : ℕ) (r : UsedSlot) → IsUsedAt f.raw j r → r.first ≡ m.first → j ≡ index
  first_once index m at j r there same =
      first_law f.place.site f.place.number (queue_slots_in f.raw) (slots_in f.raw) sound.held.chains f.space sound.held.holds j index r m there at same

  -- An entry went, and its slot and its chain with it.
  pub remove_sound : (id : MsgId) (index : ℕ) (m : UsedSlot) (store' : Store) → IsUsedAt f.raw index m
      → IsStore store' → HasAdded store' m.first (size_of f.store m.first) f.store
      → pages_held (space_of (moved (Remove id) f.space)) + chain_pages (size_of f.store m.first) ≡ pages_held (space_of f.space)
      → IsHeld f.place.site f.place.number (with_message index None f.raw) store' (moved (Remove id) f.space)
      → IsSound (record f { space = moved (Remove id) f.space; raw = with_message index None f.raw; store = store' })
  remove_sound id index m store' at is removed pages held =
      let raw' = with_message index None f.raw in
      let clusters = sym removed.pages.clusters in
      let count = removed.pages.count in
      let before = sound.room in
      record {
        placed = subst (IsPlace f.place) (sym clusters) sound.placed;
        creation = sound.creation;
        layout = sound.layout ∙ ap (log_layout f.place f.shape) (sym clusters);
        space = space_removed f.place f.shape f.space sound.space id;
        owners = sound.owners;
        size = record {
          queues = sound.size.queues;
          messages = length-set f.raw.messages index (raw_of None) ∙ sound.size.messages;
          branches = sound.size.branches;
        };
        tests = tests_emptied f.raw index sound.tests;
        store = subst (λ (cs : List ℕ). HasStore f.shape cs raw' store') (sym clusters)
            (store_emptied f.shape (clusters_of f) f.raw f.store store' sound.store is index m at (first_once index m at) removed);
        dev = sym removed.pages.dev ∙ sound.dev;
        room = omega (arith, count, pages, before);
        held = held;
      }

  -- A queue was made, with its slot.
  pub queue_sound : (index : ℕ) (d : QueueDef) → CanBeMade index d f.space
      → IsHeld f.place.site f.place.number (with_set (sets.Queue index (slot_of_queue d)) f.raw) f.store (moved (PutQueue index d) f.space)
      → IsSound (record f { space = moved (PutQueue index d) f.space; raw = with_set (sets.Queue index (slot_of_queue d)) f.raw })
  queue_sound index d can held =
      let same = total_made queue_pages index d f.space can refl in
      let before = sound.room in
      record {
        placed = sound.placed;
        creation = sound.creation;
        layout = sound.layout;
        space = space_made f.place f.shape f.space sound.space index d can;
        owners = sound.owners;
        size = record {
          queues = length-set f.raw.queues index (slot_of_queue d) ∙ sound.size.queues;
          messages = sound.size.messages;
          branches = sound.size.branches;
        };
        tests = tests_queue f.raw index d f.space can sound.tests;
        store = store_queue f.shape (clusters_of f) f.raw f.store index (slot_of_queue d) sound.store;
        dev = sound.dev;
        room = omega (arith, same, before);
        held = held;
      }
