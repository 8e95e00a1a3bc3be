use Rattle.std.proofs.Common.{◌≡◌, ℕ, ◌-◌, ◌==◌, refl, sym, ap, ◌∙◌, arith, Some, None}
use Rattle.std.specs.List.{position, position_or_len, list_any, insert}
use Rattle.tq_model.specs.Moves.{entry_view, entry_inserted, has_index, session_owners}
use Rattle.tq_space.specs.declared.shelf.HeldQueue.{HeldQueue}
use Rattle.tq_space.specs.State.{ShelfValue}
use Rattle.tq_space.specs.Slots.{slot_at, slot_test, label_before}
use Rattle.tq_model.proofs.Places.{position_or_len-within, position-found}
use Rattle.tq_space.proofs.Keys.{IsRekeyed, index_there}
use Rattle.tq_space.proofs.Shelves.{inserted_listed, inserted_seen, room_less, room_set, room_at}
use Rattle.tq_space.proofs.Spares.{spares_less}
use Rattle.tq_space.proofs.shelf.Shelf.insert.Goals as goal

pub put_key-requires-clause-within : goal.put_key-requires-clause-within
put_key-requires-clause-within c =
    let test = λ (k : ℕ). slot_test (label_before c.index_mut-queue.result.now.def.order c.args.entry.label) (slot_at c.self.inside.entries.slots k) in
    omega (arith, c.place_for-place.ensures, position_or_len-within test c.deref-in-Some.result.now, c.deref-in-Some.ensures.len)

pub invariant_of-self : goal.invariant_of-self
invariant_of-self c =
    let queues = c.self.inside.queues.items in
    let slots = c.self.inside.entries.slots in
    let slots' = c.insert_reserved-key.new.self.slots in
    let at = c.in-Some.at in
    let d = c.index_mut-queue.result.now in
    let place = c.place_for-place.result in
    let key = c.insert_reserved-key.result in
    let entry = c.args.entry in
    let q' : HeldQueue = record { index = d.index; def = d.def; keys = c.put_key.new.keys } in
    let test = λ (k : ℕ). slot_test (label_before d.def.order entry.label) (slot_at slots k) in
    let found : position (λ (q : HeldQueue). q.index == entry.queue) queues ≡ Some at =
    sym (c.in-Some.ensures ∙ ap (position (λ (q : HeldQueue). q.index == entry.queue)) c.deref.ensures.value) in
    let is_place : place ≡ position_or_len test d.keys.items = c.place_for-place.ensures ∙ ap (position_or_len test) c.deref-in-Some.ensures.value in
    let keyed : IsRekeyed d q' (insert d.keys.items place key) = record { index = refl; def = refl; keys_are = c.put_key.ensures.items } in
    let ready = ap (λ (v : ShelfValue). v.ready) c.self.view_is in
    let room = room_at c.self.inside.ready queues at d c.index_mut-queue.ensures.value (position-found (λ (q : HeldQueue). q.index == entry.queue) queues at found).1 c.self.invariant.key_room in
    record {
      listed = inserted_listed slots slots' queues c.self.invariant.listed at d c.index_mut-queue.ensures.value q' key place entry c.insert_reserved-key.ensures.updates.others c.insert_reserved-key.ensures.was_vacant c.insert_reserved-key.ensures.updates.changed keyed c.requires.plain found is_place;
      entry_room = omega (arith, c.insert_reserved-key.ensures.len, c.insert_reserved-key.ensures.capacity, c.self.invariant.entry_room, c.requires.room, ready);
      key_room = room_set (c.self.inside.ready - 1) queues at q' (omega (arith, c.put_key.ensures.len, c.put_key.ensures.capacity, room, c.requires.room, ready)) (room_less c.self.inside.ready (c.self.inside.ready - 1) queues (omega arith) c.self.invariant.key_room);
      queue_room = omega (arith, c.self.invariant.queue_room);
      spare = spares_less c.self.inside.ready (c.self.inside.ready - 1) c.self.inside.spare (omega arith) c.self.invariant.spare;
    }

pub unreachable-requires : goal.unreachable-requires
unreachable-requires c =
    let queues = c.self.inside.queues.items in
    let none : position (λ (q : HeldQueue). q.index == c.args.entry.queue) queues ≡ None =
    ap (position (λ (q : HeldQueue). q.index == c.args.entry.queue)) (sym c.deref.ensures.value) ∙ sym c.place_indexed.ensures ∙ c.in_default.is in
    index_there c.self.inside.entries.slots queues c.args.entry.queue (ap (λ (v : ShelfValue). list_any (has_index c.args.entry.queue) v.queues) c.self.view_is ∙ c.requires.there) none

pub returns-clause-queues : goal.returns-clause-queues
returns-clause-queues c =
    let queues = c.self.inside.queues.items in
    let slots = c.self.inside.entries.slots in
    let slots' = c.insert_reserved-key.new.self.slots in
    let at = c.in-Some.at in
    let d = c.index_mut-queue.result.now in
    let place = c.place_for-place.result in
    let key = c.insert_reserved-key.result in
    let entry = c.args.entry in
    let q' : HeldQueue = record { index = d.index; def = d.def; keys = c.put_key.new.keys } in
    let test = λ (k : ℕ). slot_test (label_before d.def.order entry.label) (slot_at slots k) in
    let found : position (λ (q : HeldQueue). q.index == entry.queue) queues ≡ Some at =
    sym (c.in-Some.ensures ∙ ap (position (λ (q : HeldQueue). q.index == entry.queue)) c.deref.ensures.value) in
    let is_place : place ≡ position_or_len test d.keys.items = c.place_for-place.ensures ∙ ap (position_or_len test) c.deref-in-Some.ensures.value in
    let keyed : IsRekeyed d q' (insert d.keys.items place key) = record { index = refl; def = refl; keys_are = c.put_key.ensures.items } in
    inserted_seen slots slots' queues c.self.invariant.listed at d c.index_mut-queue.ensures.value q' key place entry c.insert_reserved-key.ensures.updates.others c.insert_reserved-key.ensures.was_vacant c.insert_reserved-key.ensures.updates.changed keyed c.requires.plain found is_place
    ∙ ap (λ (v : ShelfValue). entry_inserted entry.queue (entry_view session_owners entry) v.queues) c.self.view_is
