-- What slots and chains hold after one move.
use Rattle.std.proofs.Common.{◌≡◌, ℕ, ◌+◌, ◌<◌, ◌≤◌, ◌==◌, ◌&&◌, ◌||◌, not, Bool, true, false, cond, List, [], ◌∷◌, ◌++◌, length, get_or, set, Option, Some, None}
use Rattle.std.proofs.Common.{refl, sym, ap, ◌∙◌, subst, arith, ⊎_elim, inl, inr, eqb-true, lt-ltb, ltb-true}
use Rattle.std.specs.Prelude.{if◌then◌else◌, is_some, nat_le}
use Rattle.std.specs.List.{list_any, find, position}
use Rattle.std.specs.FinMap as maps
use Rattle.std.specs.FinMap.{get, len, len-insert, same_map}
use Rattle.std.specs.Ordering.{eq_by_cmp}
use Rattle.std.proofs.lemmas.Bool.{and_parts, cases_Bool, cases_eq, cases_lt, false≢true}
use Rattle.std.proofs.lemmas.List.{get_or-set_other, get_or-set_same, length-map, map-set}
use Rattle.std.proofs.Math.ListN.{get_or-eq_default}
use Rattle.tq_types.specs.Label.{arrival_cmp}
use Rattle.tq_types.specs.declared.identifiers.Arrival.{Arrival}
use Rattle.tq_types.specs.declared.identifiers.MsgId.{MsgId}
use Rattle.tq_types.specs.declared.messages.Entry.{Entry as HeldEntry}
use Rattle.tq_types.proofs.LabelOrder.{arrival_total}
use Rattle.tq_model.specs.declared.space.QueueDef.{QueueDef}
use Rattle.tq_model.specs.declared.space.Shape.{Shape}
use Rattle.tq_model.specs.declared.space.SpaceMove.{SpaceMove}
use Rattle.tq_model.specs.declared.space.SpaceMove.TheVariants.{Insert, PutQueue, Remove}
use Rattle.tq_model.specs.Plain.{HasOnlySurvivors, KeepsAllAtCrash, SurvivesCrash}
use Rattle.tq_model.specs.Space.{Entry, body_length, freed, has_id, holds_id, is_adding, is_persistent, outlives}
use Rattle.tq_model.specs.Moves.{IndexedQueue, IndexedSpace, entry_view, entry_with_id, indexed_holds, mark_view, moved, owner_in, session_owners, space_of}
use Rattle.tq_model.specs.Room.{messages_held, pages_at, pages_held, pages_of_entry, queue_pages}
use Rattle.tq_model.proofs.Places.{find-at, find-found, list_any-place, position-found}
use Rattle.tq_pages.specs.Store.{Store, HasAdded, chain_pages, size_of}
use Rattle.tq_space.proofs.Counts.{any-find, pages_less, total_removed}
use Rattle.tq_slots.specs.declared.record.Set.TheVariants as sets
use Rattle.tq_slots.specs.KeptEntries.{KeptEntries, SpacePlan, kept_in, named_by}
use Rattle.tq_slots.specs.MessageForm.{header_size, last_moment}
use Rattle.tq_slots.specs.MessageSlots.{HasChain, IndexedEntry, UsedSlot, Slots, Chain, Chains, arrival_of, chain_of, says, slot_arrival}
use Rattle.tq_slots.specs.QueueForm.{HasQueueSlot, queue_of_slot, slot_of_queue}
use Rattle.tq_slots.specs.QueueSlots.{HaveQueues, QueueSlots, def_at}
use Rattle.tq_slots.specs.SlotImages.{RawSlots, queue_slots_in, raw_of, slots_in, used_of, with_set}
use Rattle.tq_slots.specs.SlotTable.{has_key, is_empty, is_one_of, lowest_empty, place_of, table_of}
use Rattle.tq_slots.specs.SlotsLaw.{HoldSpace}
use Rattle.tq_slots.specs.SpaceOrder.{IsInOrder, IsNew, IsOneOf, MoveFits}
use Rattle.tq_slots.proofs.FrameLemmas.{changes_named, of_found}
use Rattle.tq_slots.proofs.KeptLemmas.{kept_from, kept_there}
use Rattle.tq_slots.proofs.LawLemmas.{chain_law, first_law}
use Rattle.tq_slots.proofs.ListLemmas.{eq_itself, eq_other, of_find, some_injective, some_none, the_some}
use Rattle.tq_slots.proofs.MapLemmas.{get_inserted, get_inserted_other, get_removed, get_removed_other, same_keys}
use Rattle.tq_slots.proofs.MessageSlotLemmas.{exact_arrivals, is_said, same_arrivals, says_written}
use Rattle.tq_slots.proofs.OrderLemmas.{plan_in_order, removed_is_new}
use Rattle.tq_slots.proofs.QueueFormLemmas.{queue-again}
use Rattle.tq_slots.proofs.QueueSlotLemmas.{def_inserted, def_purged, def_put, queue_slots_after_have}
use Rattle.tq_slots.proofs.RoomLemmas.{room_law}
use Rattle.tq_slots.proofs.SlotImageLemmas.{used-again}
use Rattle.tq_slots.proofs.TableLemmas.{Empties, emptied, filled, has_its_key, missing, parts}
use Rattle.tq_store.specs.Draft.{entry_slot}
use Rattle.tq_store.specs.Commit.{CanBeMade, CanComeIn, CanGo}
use Rattle.tq_store.specs.File.{IsHeld}
use Rattle.tq_store.specs.Stored.{HasStore, IsUsedAt}
use Rattle.tq_store.proofs.MessageFillLemmas.{inserted_there, of_each}
use Rattle.tq_store.proofs.QueueFillLemmas.{put_def, put_kept, put_order}

-- ---- what is kept

abbrev one_move : SpaceMove → SpacePlan
one_move move = record { purge = []; moves = move ∷ [] }

-- what differs from what was kept only at the one arrival that a move names is what is kept after it
kept_changed : (move : SpaceMove) (a : Arrival) (s : IndexedSpace) (new : KeptEntries) → MoveFits move s.queues → named_by move ≡ a ∷ []
    → get new a ≡ get (kept_in (moved move s)) a → ((q : Arrival) → eq_by_cmp arrival_cmp q a ≡ false → get new q ≡ get (kept_in s) q)
    → new ≡ kept_in (moved move s)
kept_changed move a s new fits names here others =
    let after = kept_in (moved move s) in
    same_map arrival_total exact_arrivals new after (λ q.
    ⊎_elim
    (λ one. let q_is = same_keys exact_arrivals q a one in ap (get new) q_is ∙ here ∙ ap (get after) (sym q_is))
    (λ other.
    let apart : is_one_of arrival_cmp (named_by move ++ []) q ≡ false =
    ap (λ (l : List Arrival). is_one_of arrival_cmp (l ++ []) q) names ∙ ap (λ (b : Bool). b || false) other in
    others q other ∙ changes_named (one_move move) s (fits, tt) q apart)
    (cases_Bool (eq_by_cmp arrival_cmp q a)))

-- nothing is kept of a new arrival
none_kept_of : (s : IndexedSpace) (a : Arrival) → IsNew a s.queues → get (kept_in s) a ≡ None
none_kept_of s a is_new =
    (elim (get (kept_in s) a) as (λ o. get (kept_in s) a ≡ o → o ≡ None) [
      | None ↦ λ e. refl
      | Some y ↦ λ e.
          let k = kept_from s a y e in
          absurd (is_new k.queue k.entry k.of_space k.of_queue (sym (ap (λ (d : Arrival × IndexedEntry). d.0) k.is)))
    ]) refl

-- ---- slots

empty_none : {S : Type 0} (o : Option S) → is_empty o ≡ true → o ≡ None
empty_none None e = refl
empty_none (Some x) e = absurd (false≢true e)

-- where each slot is used, there is something of each
all_used : (say : UsedSlot → Option IndexedEntry) (slots : Slots) (m : KeptEntries) → table_of arrival_cmp slot_arrival say slots ≡ Some m
    → list_any is_empty slots ≡ false → length slots ≤ len m
all_used say [] m t none = omega arith
all_used say (None ∷ slots) m t none = absurd (false≢true (sym none))
all_used say (Some u ∷ slots) m t none =
    let p = parts u.arrival (say u) (table_of arrival_cmp slot_arrival say slots) m t in
    let rest = all_used say slots p.rest p.table none in
    let more : len (maps.insert p.rest u.arrival p.value) ≡ len p.rest + 1 =
    len-insert arrival_total p.rest u.arrival p.value
    ∙ ap (λ (o : Option IndexedEntry). cond (is_some o) (len p.rest) (len p.rest + 1)) p.new in
    let size : len m ≡ len p.rest + 1 = ap len p.is ∙ more in
    omega arith

module _ (site number : ℕ) (queue_slots : QueueSlots) (slots : Slots) (chains : Chains) (s : IndexedSpace)
    (hold : HoldSpace site number queue_slots slots chains s) where
  -- no slot has a new arrival
  no_slot : (a : Arrival) → IsNew a s.queues → get_or slots (place_of arrival_cmp slot_arrival a slots) None ≡ None
  no_slot a is_new =
      let say = says site number chains in
      let i = place_of arrival_cmp slot_arrival a slots in
      (elim (get_or slots i None) as (λ o. get_or slots i None ≡ o → o ≡ None) [
        | None ↦ λ e. refl
        | Some u ↦ λ e.
            let h = emptied arrival_total exact_arrivals slot_arrival say slots i u (kept_in s) hold.kept e in
            let its = has_its_key arrival_total exact_arrivals slot_arrival say slots a u e in
            absurd (some_none (sym h.had ∙ ap (get (kept_in s)) its ∙ none_kept_of s a is_new))
      ]) refl

  no_place : (a : Arrival) → IsNew a s.queues → position (has_key arrival_cmp slot_arrival a) slots ≡ None
  no_place a is_new =
      let test = has_key arrival_cmp slot_arrival a in
      (elim (position test slots) as (λ o. position test slots ≡ o → o ≡ None) [
        | None ↦ λ e. refl
        | Some at ↦ λ e.
            let passes = (of_find test slots (get_or slots at None) (find-found test slots at None e)).1 in
            let none : get_or slots at None ≡ None = ap (λ (n : ℕ). get_or slots n None) (sym (position-found test slots at e).0) ∙ no_slot a is_new in
            absurd (false≢true (sym (ap test none) ∙ passes))
      ]) refl

  -- there is an empty slot while there are more slots than messages
  empty_place : messages_held (space_of s) + 1 ≤ length slots
      → (lowest_empty slots < length slots) × (get_or slots (lowest_empty slots) None ≡ None)
  empty_place room =
      let some : list_any is_empty slots ≡ true = ⊎_elim
      (λ t. t)
      (λ f.
      let all = all_used (says site number chains) slots (kept_in s) hold.kept f in
      let most = room_law s in
      absurd (omega arith))
      (cases_Bool (list_any is_empty slots)) in
      let within : lowest_empty slots < length slots = ltb-true (lowest_empty slots) (length slots) (sym (list_any-place is_empty slots) ∙ some) in (
        within,
        empty_none (get_or slots (lowest_empty slots) None)
            (of_find is_empty slots (get_or slots (lowest_empty slots) None) (find-at is_empty None slots within)).1,
      )

-- ---- a message more

module _ (site number : ℕ) (queue_slots : QueueSlots) (slots : Slots) (chains : Chains) (e : HeldEntry) (s : IndexedSpace)
    (hold : HoldSpace site number queue_slots slots chains s) (can : CanComeIn e s) (room : messages_held (space_of s) + 1 ≤ length slots) where
  abbrev a : Arrival
  a = arrival_of e.message.id

  -- it has no slot yet, and there is an empty one for it
  pub insert_place : (lowest_empty slots < length slots) × (get_or slots (lowest_empty slots) None ≡ None)
      × (position (has_key arrival_cmp slot_arrival a) slots ≡ None)
  insert_place =
      let place = empty_place site number queue_slots slots chains s hold room in
      (place.0, place.1, no_place site number queue_slots slots chains s hold a can.new)

  module _ (first : ℕ) (site_is : s.site ≡ site) (number_is : s.number ≡ number)
      (chain : chains first ≡ Some (chain_of (entry_view session_owners e))) where
    abbrev after : IndexedSpace
    after = moved (Insert e) s

    -- the entry as the space holds it, and as it is kept
    abbrev x : Entry
    x = entry_view (owner_in s.owners) e

    abbrev kept : IndexedEntry
    kept = record { queue = e.queue; entry = freed x }

    fits : MoveFits (Insert e) s.queues
    fits = (can.label, can.new)

    order : IsInOrder after
    order = plan_in_order (one_move (Insert e)) s (fits, tt) hold.order

    kept_now : get (kept_in after) a ≡ Some kept
    kept_now =
        let there = inserted_there e.queue x s.queues can.can.there in
        let lives : outlives x ≡ true =
        λ i. is_persistent (can.persistent i) && not (is_adding (mark_view (owner_in s.owners) (can.can.plain.mark i))) in
        kept_there after order.entries there.0 x there.1 there.3 lives ∙ (λ i. Some (record { queue = there.2 i; entry = freed x }))

    has_chain : HasChain site number chains first (freed x)
    has_chain =
        record {
          chain = chain_of (entry_view session_owners e);
          at = chain;
          stands = record {
            own = can.label;
            free = refl;
            persistent = can.persistent;
            of_site = can.own.0 ∙ site_is;
            of_space = can.own.1 ∙ number_is;
            body = refl;
          };
          fits = record { path = inr refl; rest = refl };
        }

    -- The slots with its slot in the first empty one hold the space with it.
    pub insert_holds : HoldSpace site number queue_slots (set slots (lowest_empty slots) (Some (entry_slot first e))) chains after
    insert_holds =
        let say = says site number chains in
        let place = insert_place in
        let new = maps.insert (kept_in s) a kept in
        let is : new ≡ kept_in after =
        kept_changed (Insert e) a s new fits refl (get_inserted arrival_total exact_arrivals (kept_in s) a kept ∙ sym kept_now)
        (λ q other. get_inserted_other arrival_total exact_arrivals (kept_in s) a kept q other) in
        record {
          queues = λ i. hold.queues i ∙ sym (def_inserted i e.queue x s.queues);
          kept = filled arrival_total exact_arrivals slot_arrival say slots (lowest_empty slots) (entry_slot first e) kept (kept_in s) hold.kept place.0 place.1
              (says_written site number first chains kept has_chain) (none_kept_of s a can.new)
              ∙ ap Some is;
          order = order;
        }

-- raw slots with a message slot written say it there
pub said_with : (raw : RawSlots) (i : ℕ) (u : Option UsedSlot) → slots_in (with_set (sets.Message i (raw_of u)) raw) ≡ set (slots_in raw) i u
said_with raw i u = map-set used_of raw.messages i (raw_of u) ∙ ap (set (slots_in raw) i) (used-again u)

module _ (shape : Shape) (clusters : List ℕ) (site number first : ℕ) (raw : RawSlots) (store store' : Store) (e : HeldEntry) (s : IndexedSpace)
    (held : IsHeld site number raw store s) (site_is : s.site ≡ site) (number_is : s.number ≡ number) (can : CanComeIn e s)
    (room : messages_held (space_of s) + 1 ≤ length (slots_in raw)) (has : HasStore shape clusters raw store)
    (added : HasAdded store first (header_size + length e.message.body) store') where
  abbrev place : ℕ
  place = lowest_empty (slots_in raw)

  abbrev slot : UsedSlot
  slot = entry_slot first e

  abbrev chain_now : Chain
  chain_now = chain_of (entry_view session_owners e)

  -- the chains that are there, and the new one
  abbrev chains_now : Chains
  chains_now n = if n == first then Some chain_now else held.chains n

  begins_elsewhere : (i : ℕ) (m : UsedSlot) → IsUsedAt raw i m → m.first ≡ first → ⊥
  begins_elsewhere i m at same =
      let some = (has.chains i m at).1 in
      let none : size_of store m.first ≡ 0 = ap (size_of store) same ∙ added.none in
      absurd (omega arith)

  chain_stays : (n : ℕ) → (n ≡ first → ⊥) → chains_now n ≡ held.chains n
  chain_stays n other = ap (λ (b : Bool). cond b (Some chain_now) (held.chains n)) (eq_other n first other)

  chain_there : chains_now first ≡ Some chain_now
  chain_there = ap (λ (b : Bool). cond b (Some chain_now) (held.chains first)) (eq_itself first)

  still_held : HoldSpace site number (queue_slots_in raw) (slots_in raw) chains_now s
  still_held = chain_law site number (queue_slots_in raw) (slots_in raw) held.chains chains_now s held.holds
      (λ i m at. chain_stays m.first (begins_elsewhere i m at))

  sizes_now : (i : ℕ) (m : UsedSlot) (c : Chain) → get_or (set (slots_in raw) place (Some slot)) i None ≡ Some m → chains_now m.first ≡ Some c
      → size_of store' m.first ≡ header_size + length c.body
  sizes_now i m c at chain = elim (cases_eq i place) [
    | inl here ↦
        let within = (insert_place site number (queue_slots_in raw) (slots_in raw) chains_now e s still_held can room).0 in
        let there : get_or (set (slots_in raw) place (Some slot)) place None ≡ Some slot = get_or-set_same (slots_in raw) place (Some slot) None within in
        let m_is : slot ≡ m = some_injective (sym there ∙ ap (λ (n : ℕ). get_or (set (slots_in raw) place (Some slot)) n None) (sym here) ∙ at) in
        let first_is : first ≡ m.first = ap (λ (u : UsedSlot). u.first) m_is in
        let c_is : chain_now ≡ c = some_injective (sym chain_there ∙ ap chains_now first_is ∙ chain) in
        ap (size_of store') (sym first_is) ∙ added.is ∙ ap (λ (d : Chain). header_size + length d.body) c_is
    | inr other ↦
        let old : IsUsedAt raw i m = sym (get_or-set_other (slots_in raw) place i (Some slot) None other) ∙ at in
        let away = begins_elsewhere i m old in
        added.chains m.first away ∙ held.sizes i m c old (sym (chain_stays m.first away) ∙ chain)
  ]

  -- and so do the raw ones, with its chain in the store
  pub insert_held : IsHeld site number (with_set (sets.Message place (raw_of (Some slot))) raw) store' (moved (Insert e) s)
  insert_held =
      let said = said_with raw place (Some slot) in
      record {
        chains = chains_now;
        holds = subst (λ (l : Slots). HoldSpace site number (queue_slots_in raw) l chains_now (moved (Insert e) s)) (sym said)
            (insert_holds site number (queue_slots_in raw) (slots_in raw) chains_now e s still_held can room first site_is number_is chain_there);
        sizes = λ i m c at chain. sizes_now i m c (ap (λ (l : Slots). get_or l i None) (sym said) ∙ at) chain;
      }

-- ---- a queue more

module _ (site number index : ℕ) (queue_slots : QueueSlots) (slots : Slots) (chains : Chains) (d : QueueDef) (s : IndexedSpace)
    (hold : HoldSpace site number queue_slots slots chains s) (can : CanBeMade index d s) (within : index < length queue_slots) where
  abbrev with_queue : IndexedSpace
  with_queue = moved (PutQueue index d) s

  none_past : (i : ℕ) → length queue_slots ≤ i → def_at i with_queue.queues ≡ None
  none_past i past =
      def_put i index d (eq_other i index (λ same. absurd (omega (arith, same)))) s.queues ∙ sym (hold.queues i) ∙ get_or-eq_default queue_slots None past

  -- The slots with the queue in the one of its index hold the space with it.
  pub queue_holds : HoldSpace site number (set queue_slots index (Some d)) slots chains with_queue
  queue_holds =
      record {
        queues = subst (λ (o : Option QueueDef). HaveQueues (set queue_slots index o) with_queue.queues) (put_def index d s can.unused can.new hold.order)
            (queue_slots_after_have (one_move (PutQueue index d)) s queue_slots hold.queues none_past);
        kept = hold.kept ∙ ap Some (sym (put_kept index d s can.unused can.new hold.order));
        order = put_order index d s can.unused can.new hold.order;
      }

module _ (site number index : ℕ) (raw : RawSlots) (store : Store) (d : QueueDef) (s : IndexedSpace) (held : IsHeld site number raw store s)
    (can : CanBeMade index d s) (within : index < length raw.queues) where
  -- a queue with nothing that is not built can be spelt
  pub can_spell : HasQueueSlot d
  can_spell =
      let numbers = and_parts _ _ (and_parts _ _ can.bare).0 in
      let first = and_parts _ _ (and_parts _ _ numbers.0).0 in
      let none : length d.order.criteria ≡ 0 = eqb-true (length d.order.criteria) 0 (and_parts _ _ first.0).0 in
      record {
        name = can.name;
        distinct = λ i j less below. absurd (omega (arith, less, below, none));
        delay = ap (λ (n : ℕ). nat_le n last_moment) (eqb-true d.delay 0 (and_parts _ _ numbers.1).1);
      }

  pub queue_held : IsHeld site number (with_set (sets.Queue index (slot_of_queue d)) raw) store (moved (PutQueue index d) s)
  queue_held =
      let size = length-map raw.queues queue_of_slot in
      let said : queue_slots_in (with_set (sets.Queue index (slot_of_queue d)) raw) ≡ set (queue_slots_in raw) index (Some d) =
      map-set queue_of_slot raw.queues index (slot_of_queue d) ∙ ap (set (queue_slots_in raw) index) (queue-again d can_spell) in
      record {
        chains = held.chains;
        holds = subst (λ (l : QueueSlots). HoldSpace site number l (slots_in raw) held.chains (moved (PutQueue index d) s)) (sym said)
            (queue_holds site number index (queue_slots_in raw) (slots_in raw) held.chains d s held.holds can (omega (arith, size)));
        sizes = held.sizes;
      }

-- ---- a message less

found_of : (id : MsgId) (queues : List IndexedQueue) → list_any (indexed_holds id) queues ≡ true → (x : Entry) × (entry_with_id id queues ≡ Some x)
found_of id [] there = absurd (false≢true there)
found_of id (q ∷ queues) there =
    (elim (holds_id id q.queue) as (λ b. holds_id id q.queue ≡ b → b || list_any (indexed_holds id) queues ≡ true
    → (x : Entry) × (cond b (find (has_id id) q.queue.items) (entry_with_id id queues) ≡ Some x)) [
      | true ↦ λ e h. the_some (find (has_id id) q.queue.items) (sym (any-find (has_id id) q.queue.items) ∙ e)
      | false ↦ λ e h. found_of id queues h
    ]) refl there

module _ (site number : ℕ) (queue_slots : QueueSlots) (slots : Slots) (chains : Chains) (id : MsgId) (s : IndexedSpace)
    (hold : HoldSpace site number queue_slots slots chains s) (lasts : KeepsAllAtCrash s) (can : CanGo id s) where
  abbrev gone : Arrival
  gone = arrival_of id

  abbrev without_it : IndexedSpace
  without_it = moved (Remove id) s

  -- the entry, and its queue
  abbrev went : Entry
  went = (found_of id s.queues can.there).0

  found : entry_with_id id s.queues ≡ Some went
  found = (found_of id s.queues can.there).1

  stood : (q : IndexedQueue) × IsOneOf s.queues q × IsOneOf q.queue.items went × (has_id id went ≡ true)
  stood = of_found id s.queues went found

  went_own : arrival_of went.message.id ≡ gone
  went_own = same_arrivals went.message.id id stood.3

  survives : SurvivesCrash went
  survives = of_each SurvivesCrash stood.0.queue.items went (of_each HasOnlySurvivors s.queues stood.0 lasts stood.1).items stood.2

  kept_before : get (kept_in s) gone ≡ Some (record { queue = stood.0.index; entry = freed went })
  kept_before =
      let lives : outlives went ≡ true = λ i. is_persistent (survives.persistent i) && not (is_adding (survives.free i)) in
      ap (get (kept_in s)) (sym went_own) ∙ kept_there s hold.order.entries stood.0 went stood.1 stood.2 lives

  none_after : get (kept_in without_it) gone ≡ None
  none_after =
      none_kept_of without_it gone
      (subst (λ (a : Arrival). IsNew a without_it.queues) went_own
      (removed_is_new id s.queues went found (hold.order.entries, hold.order.names)))

  -- it has its slot
  pub remove_place : (index : ℕ) × (m : UsedSlot) × (position (has_key arrival_cmp slot_arrival gone) slots ≡ Some index) × (get_or slots index None ≡ Some m)
  remove_place =
      let index = place_of arrival_cmp slot_arrival gone slots in
      (elim (get_or slots index None) as (λ o. get_or slots index None ≡ o → (i : ℕ) × (m : UsedSlot)
      × (position (has_key arrival_cmp slot_arrival gone) slots ≡ Some i) × (get_or slots i None ≡ Some m)) [
        | None ↦ λ e.
            absurd (some_none (sym kept_before ∙ missing arrival_total exact_arrivals slot_arrival (says site number chains) slots gone (kept_in s) hold.kept e))
        | Some m ↦ λ e.
            let below : index < length slots =
            ⊎_elim (λ l. l) (λ past. absurd (some_none (sym e ∙ get_or-eq_default slots None past))) (cases_lt index (length slots)) in
            (index, m, ap (λ (b : Bool). cond b (Some index) None) (lt-ltb index (length slots) below), e)
      ]) refl

  module _ (index : ℕ) (m : UsedSlot) (is_place : position (has_key arrival_cmp slot_arrival gone) slots ≡ Some index) (at : get_or slots index None ≡ Some m) where
    its : m.arrival ≡ gone
    its =
        let place = (position-found (has_key arrival_cmp slot_arrival gone) slots index is_place).0 in
        has_its_key arrival_total exact_arrivals slot_arrival (says site number chains) slots gone m (ap (λ (n : ℕ). get_or slots n None) place ∙ at)

    empties : Empties slot_arrival (says site number chains) slots index m (kept_in s)
    empties = emptied arrival_total exact_arrivals slot_arrival (says site number chains) slots index m (kept_in s) hold.kept at

    -- The slots without its own hold the space without it.
    pub remove_holds : HoldSpace site number queue_slots (set slots index None) chains without_it
    remove_holds =
        let new = maps.remove (kept_in s) gone in
        let is : new ≡ kept_in without_it =
        kept_changed (Remove id) gone s new tt refl (get_removed arrival_total exact_arrivals (kept_in s) gone ∙ sym none_after)
        (λ q other. get_removed_other arrival_total exact_arrivals (kept_in s) gone q other) in
        record {
          queues = λ i. hold.queues i ∙ sym (def_purged i (id ∷ []) s);
          kept = empties.table ∙ ap (λ (a : Arrival). Some (maps.remove (kept_in s) a)) its ∙ ap Some is;
          order = plan_in_order (one_move (Remove id)) s (tt, tt) hold.order;
        }

    -- And the pages of its chain are those that it took.
    pub remove_room : (c : Chain) × (chains m.first ≡ Some c)
        × (pages_held (space_of without_it) + chain_pages (header_size + length c.body) ≡ pages_held (space_of s))
    remove_room =
        let said = is_said site number chains m empties.old empties.says in
        let c = said.chain.chain in
        let old_is : empties.old ≡ record { queue = stood.0.index; entry = freed went } =
        some_injective (sym empties.had ∙ ap (get (kept_in s)) its ∙ kept_before) in
        let size : body_length went.message.body ≡ length c.body =
        ap (λ (e : IndexedEntry). body_length e.entry.message.body) (sym old_is) ∙ ap body_length said.chain.stands.body
        ∙ ap (λ (d : Chain). length d.body) (sym said.chain.fits.rest) in
        let pages : pages_of_entry went ≡ chain_pages (header_size + length c.body) = λ i. pages_at (survives.persistent i) (size i) in
        let less = total_removed queue_pages pages_of_entry pages_less id went s.queues found in
        (c, said.chain.at, ap (λ (n : ℕ). pages_held (space_of without_it) + n) (sym pages) ∙ less)

module _ (site number : ℕ) (raw : RawSlots) (store store' : Store) (id : MsgId) (s : IndexedSpace) (held : IsHeld site number raw store s)
    (lasts : KeepsAllAtCrash s) (can : CanGo id s) (index : ℕ) (m : UsedSlot)
    (is_place : position (has_key arrival_cmp slot_arrival (arrival_of id)) (slots_in raw) ≡ Some index) (at : IsUsedAt raw index m)
    (taken : HasAdded store' m.first (size_of store m.first) store) where
  sizes_left : (i : ℕ) (u : UsedSlot) (c : Chain) → get_or (set (slots_in raw) index None) i None ≡ Some u → held.chains u.first ≡ Some c
      → size_of store' u.first ≡ header_size + length c.body
  sizes_left i u c now chain = elim (cases_eq i index) [
    | inl here ↦
        let within = (position-found (has_key arrival_cmp slot_arrival (arrival_of id)) (slots_in raw) index is_place).1 in
        absurd (some_none (sym now ∙ ap (λ (n : ℕ). get_or (set (slots_in raw) index None) n None) here
        ∙ get_or-set_same (slots_in raw) index None None within))
    | inr other ↦
        let old : IsUsedAt raw i u = sym (get_or-set_other (slots_in raw) index i None None other) ∙ now in
        let away : u.first ≡ m.first → ⊥ =
        λ same. other (first_law site number (queue_slots_in raw) (slots_in raw) held.chains s held.holds i index u m old at same) in
        sym (taken.chains u.first away) ∙ held.sizes i u c old chain
  ]

  -- and so do the raw ones, with its chain out of the store
  pub remove_held : IsHeld site number (with_set (sets.Message index (raw_of None)) raw) store' (moved (Remove id) s)
  remove_held =
      let said = said_with raw index None in
      record {
        chains = held.chains;
        holds = subst (λ (l : Slots). HoldSpace site number (queue_slots_in raw) l held.chains (moved (Remove id) s)) (sym said)
            (remove_holds site number (queue_slots_in raw) (slots_in raw) held.chains id s held.holds lasts can index m is_place at);
        sizes = λ i u c now chain. sizes_left i u c (ap (λ (l : Slots). get_or l i None) (sym said) ∙ now) chain;
      }
