-- Plans that can be done: a message more, or messages less.
use Rattle.std.proofs.Common.{◌≡◌, ℕ, zero, suc, ◌+◌, ◌<◌, ◌≤◌, ◌==◌, Bool, true, false, cond, List, [], ◌∷◌, ◌++◌, map, Some, None, length, get_or, take}
use Rattle.std.proofs.Common.{drop, refl, sym}
use Rattle.std.proofs.Common.{ap, ◌∙◌, subst, arith, length-append}
use Rattle.std.specs.Prelude.{is_some}
use Rattle.std.specs.List.{list_any, filter, flat_map, insert, remove, position_or_len, sum_by}
use Rattle.std.specs.FinMap.{from_entries, get, len, len-insert, len-empty}
use Rattle.std.proofs.lemmas.Bool.Decides.{nat_tests}
use Rattle.tq_model.specs.declared.space.QueueDef.{QueueDef}
use Rattle.tq_slots.proofs.ListLemmas.{eq_itself, to_any}
use Rattle.tq_model.specs.Moves.{queue_of, comes_before, queue_put}
use Rattle.std.proofs.lemmas.Bool.{false≢true, cond_both}
use Rattle.std.proofs.lemmas.List.{length-map, take-append-drop}
use Rattle.std.proofs.lemmas.List.Sums.{sum_by-cons}
use Rattle.std.proofs.Math.ListN.{get_or-eq_default}
use Rattle.tq_types.specs.Label.{arrival_cmp}
use Rattle.tq_types.specs.declared.identifiers.Arrival.{Arrival}
use Rattle.tq_types.specs.declared.identifiers.MsgId.{MsgId}
use Rattle.tq_types.specs.Placed.{own_arrival}
use Rattle.tq_types.specs.declared.messages.Entry.{Entry as HeldEntry}
use Rattle.tq_types.proofs.LabelOrder.{arrival_total}
use Rattle.tq_model.specs.declared.space.SpaceMove.TheVariants.{Insert, Remove, PutQueue}
use Rattle.tq_model.specs.Room.{messages_held}
use Rattle.tq_model.specs.Space.{Entry, Queue, change_first, has_id, outlives, freed, with_entry, without_entry, stands_before}
use Rattle.tq_model.specs.Moves.{IndexedQueue, IndexedSpace, NumberedOwner, the_queue, space_of, on_queue, has_index, indexed_holds, entry_inserted}
use Rattle.tq_model.specs.Moves.{entry_removed, owner_in, entry_view, moved, moved_by, purged_of}
use Rattle.tq_slots.specs.MessageSlots.{IndexedEntry, Slots, Chains, HasChain, arrival_of, slot_arrival, says}
use Rattle.tq_slots.specs.SlotTable.{place_of}
use Rattle.tq_slots.specs.KeptEntries.{kept_entry, kept_of, kept_in, SpacePlan, space_after}
use Rattle.tq_slots.specs.SpaceOrder.{IsOneOf, IsNew, MovesFit}
use Rattle.tq_slots.specs.SlotsAfter.{first_or, first_of, KeepsChain, ChainsFit}
use Rattle.tq_slots.specs.QueueSlots.{QueueSlots, def_at}
use Rattle.tq_slots.specs.SlotsLaw.{HoldSpace, CanDo, RoomLaw, EnqueueLaw, RemoveLaw, CreateLaw}
use Rattle.tq_slots.proofs.TableLemmas.{emptied, has_its_key}
use Rattle.tq_slots.proofs.MessageSlotLemmas.{exact_arrivals}
use Rattle.tq_slots.proofs.KeptLemmas.{kept_from}
use Rattle.tq_slots.proofs.QueueSlotLemmas.{def_inserted, def_purged, def_put}
use Rattle.tq_slots.proofs.ChainLemmas.{new_purged}

-- ---- how many

one_more : (b : Bool) (n m : ℕ) → n ≤ m → cond b n (n + 1) ≤ suc m
one_more true n m h = omega arith
one_more false n m h = omega arith

len_from_entries : (es : List (Arrival × IndexedEntry)) → len (from_entries {R = arrival_cmp} es) ≤ length es
len_from_entries [] = let e = len-empty arrival_cmp IndexedEntry in omega arith
len_from_entries (e ∷ es) =
    let m = from_entries {R = arrival_cmp} es in
    let more = one_more (is_some (get m e.0)) (len m) (length es) (len_from_entries es) in
    let is = len-insert arrival_total m e.0 e.1 in
    omega arith

length_filter : (p : Entry → Bool) (xs : List Entry) → length (filter p xs) ≤ length xs
length_filter p [] = omega arith
length_filter p (x ∷ xs) =
    let rest = length_filter p xs in
    cond_both (p x) (x ∷ filter p xs) (filter p xs) (λ ys. length ys ≤ suc (length xs)) (λ t. omega arith) (λ f. omega arith)

held : List IndexedQueue → ℕ
held queues = sum_by (λ (q : Queue). length q.items) (map the_queue queues)

held-cons : (q : IndexedQueue) (queues : List IndexedQueue) → held (q ∷ queues) ≡ length q.queue.items + held queues
unfolding held
held-cons q queues = sum_by-cons (λ (r : Queue). length r.items) q.queue (map the_queue queues)

length_kept : (queues : List IndexedQueue) → length (flat_map kept_of queues) ≤ held queues
length_kept [] = omega arith
length_kept (q ∷ queues) =
    let joined = length-append (kept_of q) (flat_map kept_of queues) in
    let here = length-map (filter outlives q.queue.items) (kept_entry q.index) in
    let fewer = length_filter outlives q.queue.items in
    let sum = held-cons q queues in
    let rest = length_kept queues in
    omega arith

pub room_law : RoomLaw
unfolding held
room_law s = let a = len_from_entries (flat_map kept_of s.queues) in let b = length_kept s.queues in omega arith

-- ---- after moves

held_changed : (test : IndexedQueue → Bool) (change : Queue → Queue) (more : ℕ) → ((q : Queue) → length (change q).items ≤ length q.items + more)
    → (queues : List IndexedQueue) → held (change_first test (on_queue change) queues) ≤ held queues + more
held_changed test change more most [] = omega arith
held_changed test change more most (q ∷ queues) =
    let rest = change_first test (on_queue change) queues in
    let before = held-cons q queues in
    cond_both (test q) (on_queue change q ∷ queues) (q ∷ rest) (λ qs. held qs ≤ held (q ∷ queues) + more)
    (λ t. let after = held-cons (on_queue change q) queues in let m = most q.queue in omega arith)
    (λ f. let after = held-cons q rest in let r = held_changed test change more most queues in omega arith)

length_inserted : (items : List Entry) (at : ℕ) (x : Entry) → length (insert items at x) ≤ length items + 1
length_inserted items at x =
    let joined = length-append (take at items) (x ∷ drop at items) in
    let whole = length-append (take at items) (drop at items) in
    let same = ap (λ (xs : List Entry). length xs) (take-append-drop at items) in
    omega arith

length_removed : (items : List Entry) (at : ℕ) → length (remove items at) ≤ length items + 0
length_removed [] zero = omega arith
length_removed [] (suc at) = omega arith
length_removed (x ∷ items) zero = omega arith
length_removed (x ∷ items) (suc at) = let rest = length_removed items at in omega arith

held_inserted : (index : ℕ) (x : Entry) (queues : List IndexedQueue) → held (entry_inserted index x queues) ≤ held queues + 1
held_inserted index x = held_changed (has_index index) (with_entry x) 1 (λ q. length_inserted q.items (position_or_len (stands_before q.order x) q.items) x)

held_removed : (id : MsgId) (queues : List IndexedQueue) → held (entry_removed id queues) ≤ held queues + 0
held_removed id = held_changed (indexed_holds id) (without_entry id) 0 (λ q. length_removed q.items (position_or_len (has_id id) q.items))

held_purged : (ids : List MsgId) (s : IndexedSpace) → held (purged_of ids s).queues ≤ held s.queues
held_purged [] s = omega arith
held_purged (id ∷ ids) s = let here = held_removed id s.queues in let rest = held_purged ids (moved (Remove id) s) in omega arith

held-joined : (xs ys : List IndexedQueue) → held (xs ++ ys) ≡ held xs + held ys
unfolding held
held-joined [] ys = omega arith
held-joined (q ∷ xs) ys =
    let a = held-cons q (xs ++ ys) in
    let b = held-cons q xs in
    let rest = held-joined xs ys in
    omega arith

held_put : (index : ℕ) (d : QueueDef) (queues : List IndexedQueue) → list_any (has_index index) queues ≡ false → held (queue_put index d queues) ≡ held queues
held_put index d queues unused =
    let made : IndexedQueue = record { index = index; queue = queue_of d [] } in
    let at = position_or_len (comes_before d.name) queues in
    let joined = held-joined (take at queues) (made ∷ drop at queues) in
    let one = held-cons made (drop at queues) in
    let whole = held-joined (take at queues) (drop at queues) in
    let same = ap held (take-append-drop at queues) in
    let added : held (insert queues at made) ≡ held queues = omega arith in
    ap (λ b. held (cond b (change_first (has_index index) (on_queue (λ queue. queue_of d queue.items)) queues) (insert queues at made))) unused ∙ added

other_number : (i k : ℕ) → k < i → (i == k) ≡ false
other_number i k less = grind (arith, nat_tests)

-- what is purged and then removed is purged
removed_as_purged : (removed : List MsgId) (s : IndexedSpace) → moved_by (map Remove removed) s ≡ purged_of removed s
removed_as_purged [] s = refl
removed_as_purged (id ∷ removed) s = removed_as_purged removed (moved (Remove id) s)

owners_purged : (ids : List MsgId) (s : IndexedSpace) → (purged_of ids s).owners ≡ s.owners
owners_purged [] s = refl
owners_purged (id ∷ ids) s = owners_purged ids (moved (Remove id) s)

-- ---- what is owed

module _ (site number : ℕ) (queue_slots : QueueSlots) (slots : Slots) (chains : Chains) (new : Arrival → ℕ) (s : IndexedSpace)
    (hold : HoldSpace site number queue_slots slots chains s) where
  none_past : (index : ℕ) → length queue_slots ≤ index → def_at index s.queues ≡ None
  none_past index past = sym (hold.queues index) ∙ get_or-eq_default queue_slots None past

  -- a new message has no slot yet
  new_first : (a : Arrival) → IsNew a s.queues → first_of slots new a ≡ new a
  new_first a is_new =
      let say = says site number chains in
      let i = place_of arrival_cmp slot_arrival a slots in
      (elim (get_or slots i None) as (λ o. get_or slots i None ≡ o → first_or o (new a) ≡ new a) [
        | None ↦ λ e. refl
        | Some u ↦ λ e.
            let h = emptied arrival_total exact_arrivals slot_arrival say slots i u (kept_in s) hold.kept e in
            let its = has_its_key arrival_total exact_arrivals slot_arrival say slots a u e in
            let k = kept_from s a h.old (ap (get (kept_in s)) (sym its) ∙ h.had) in
            absurd (is_new k.queue k.entry k.of_space k.of_queue (sym (ap (λ (d : Arrival × IndexedEntry). d.0) k.is)))
      ]) refl

  all_fit : (removed : List MsgId) (t : IndexedSpace) → MovesFit (map Remove removed) t × ChainsFit site number chains new slots (map Remove removed) t
  all_fit [] t = (tt, tt)
  all_fit (id ∷ removed) t = let rest = all_fit removed (moved (Remove id) t) in ((tt, rest.0), (tt, rest.1))

  removals_can : (ids removed : List MsgId) → messages_held (space_of s) ≤ length slots
      → CanDo site number queue_slots slots chains new (record { purge = ids; moves = map Remove removed }) s
  unfolding held
  removals_can ids removed limit =
      let fit = all_fit removed (purged_of ids s) in
      let one = removed_as_purged removed (purged_of ids s) in
      let kept = room_law (purged_of removed (purged_of ids s)) in
      let fewer = held_purged removed (purged_of ids s) in
      let few = held_purged ids s in
      let room : len (kept_in (purged_of removed (purged_of ids s))) ≤ length slots = omega arith in
      record {
        moves = fit.0;
        fits = fit.1;
        room = subst (λ (t : IndexedSpace). len (kept_in t) ≤ length slots) (sym one) room;
        queue_room = λ index past. ap (λ (t : IndexedSpace). def_at index t.queues) one ∙ def_purged index removed (purged_of ids s)
            ∙ def_purged index ids s ∙ none_past index past;
      }

  enqueue_can : (ids : List MsgId) (e : HeldEntry) → own_arrival e.label ≡ arrival_of e.message.id → IsNew (arrival_of e.message.id) s.queues
      → (outlives (entry_view (owner_in s.owners) e) ≡ true → HasChain site number chains (new (arrival_of e.message.id))
      (freed (entry_view (owner_in s.owners) e)))
      → messages_held (space_of s) + 1 ≤ length slots → CanDo site number queue_slots slots chains new (record { purge = ids; moves = Insert e ∷ [] }) s
  unfolding held
  enqueue_can ids e own is_new chain limit =
      let t = purged_of ids s in
      let x = entry_view (owner_in t.owners) e in
      let plan : SpacePlan = record { purge = ids; moves = Insert e ∷ [] } in
      let kept = room_law (space_after plan s) in
      let more = held_inserted e.queue x t.queues in
      let few = held_purged ids s in
      let chained : KeepsChain site number chains new slots (entry_view (owner_in s.owners) e) =
      λ lives. subst (λ (n : ℕ). HasChain site number chains n (freed (entry_view (owner_in s.owners) e)))
      (sym (new_first (arrival_of e.message.id) is_new)) (chain lives) in
      record {
        moves = ((own, new_purged (arrival_of e.message.id) ids s is_new), tt);
        fits = (
          subst (λ (os : List NumberedOwner). KeepsChain site number chains new slots (entry_view (owner_in os) e))
              (sym (owners_purged ids s)) chained,
          tt,
        );
        room = omega arith;
        queue_room = λ index past. def_inserted index e.queue x t.queues ∙ def_purged index ids s ∙ none_past index past;
      }

  creation_can : (index : ℕ) (d : QueueDef) → list_any (has_index index) s.queues ≡ false
      → ((q : IndexedQueue) → IsOneOf s.queues q → q.queue.name ≡ d.name → ⊥)
      → index < length queue_slots → messages_held (space_of s) ≤ length slots
      → CanDo site number queue_slots slots chains new (record { purge = []; moves = PutQueue index d ∷ [] }) s
  unfolding held
  creation_can index d unused name within limit =
      let plan : SpacePlan = record { purge = []; moves = PutQueue index d ∷ [] } in
      let kept = room_law (space_after plan s) in
      let same = held_put index d s.queues unused in
      record {
        moves = (
          record {
            kept = λ q h e. absurd (false≢true (sym unused ∙ to_any (has_index index) s.queues q h (ap (λ (n : ℕ). n == index) e ∙ eq_itself index)));
            new = λ u q h e. name q h e;
          },
          tt,
        );
        fits = (tt, tt);
        room = omega arith;
        queue_room = λ i past. def_put i index d (other_number i index (omega arith)) s.queues ∙ none_past i past;
      }

pub enqueue_law : EnqueueLaw
enqueue_law site number queue_slots slots chains new ids e s hold own is_new chain limit =
    enqueue_can site number queue_slots slots chains new s hold ids e own is_new chain limit

pub remove_law : RemoveLaw
remove_law site number queue_slots slots chains new ids removed s hold limit = removals_can site number queue_slots slots chains new s hold ids removed limit

pub create_law : CreateLaw
create_law site number queue_slots slots chains new index d s hold unused name within limit =
    creation_can site number queue_slots slots chains new s hold index d unused name within limit
