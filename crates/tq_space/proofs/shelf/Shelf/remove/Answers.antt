use Rattle.std.proofs.Common.{◌≡◌, ℕ, true, false, List, refl, sym, ap, ◌∙◌, subst, arith, Some, None, option_map}
use Rattle.std.specs.Prelude.{is_some}
use Rattle.std.specs.List.{position, remove}
use Rattle.tq_model.specs.Space.{has_id}
use Rattle.tq_model.specs.Moves.{entry_view, entry_removed, entry_with_id, IndexedQueue, session_owners}
use Rattle.tq_space.specs.declared.shelf.HeldQueue.{HeldQueue}
use Rattle.tq_space.specs.State.{ShelfValue}
use Rattle.tq_space.specs.Slots.{slot_at, slot_test}
use Rattle.tq_model.proofs.Places.{position-found}
use Rattle.tq_space.proofs.Keys.{IsRekeyed, nothing_held, no_entry_held}
use Rattle.tq_space.proofs.Shelves.{removed_listed, removed_seen, removed_entry, room_set, room_at, position-passes, slab_less}
use Rattle.tq_space.proofs.shelf.Shelf.remove.Goals as goal

pub returns-in_default-clause-queues : goal.returns-in_default-clause-queues
returns-in_default-clause-queues c =
    let queues = c.self.inside.queues.items in
    let slots = c.self.inside.entries.slots in
    let id = c.args.id.now in
    let mark = λ (q : HeldQueue). is_some (position (λ k. slot_test (has_id id) (slot_at slots k)) q.keys.items) in
    let none : position mark queues ≡ None = ap (position mark) (sym c.deref.ensures.value) ∙ sym c.place_holding.ensures ∙ c.in_default.is in
    let view = ap (λ (v : ShelfValue). v.queues) c.self.view_is in
    subst (λ (l : List IndexedQueue). l ≡ entry_removed id l) view (sym (nothing_held slots queues c.self.invariant.listed id none))

pub returns-in_default-clause-entry : goal.returns-in_default-clause-entry
returns-in_default-clause-entry c =
    let queues = c.self.inside.queues.items in
    let slots = c.self.inside.entries.slots in
    let id = c.args.id.now in
    let mark = λ (q : HeldQueue). is_some (position (λ k. slot_test (has_id id) (slot_at slots k)) q.keys.items) in
    let none : position mark queues ≡ None = ap (position mark) (sym c.deref.ensures.value) ∙ sym c.place_holding.ensures ∙ c.in_default.is in
    let view = ap (λ (v : ShelfValue). v.queues) c.self.view_is in
    sym (subst (λ (l : List IndexedQueue). entry_with_id id l ≡ None) view (no_entry_held slots queues c.self.invariant.listed id none))

pub unreachable-requires : goal.unreachable-requires
unreachable-requires c =
    let queues = c.self.inside.queues.items in
    let slots = c.self.inside.entries.slots in
    let id = c.args.id.now in
    let d = c.index_mut-queue.result.now in
    let test = λ (k : ℕ). slot_test (has_id id) (slot_at slots k) in
    let mark = λ (q : HeldQueue). is_some (position (λ k. slot_test (has_id id) (slot_at slots k)) q.keys.items) in
    let holds : position mark queues ≡ Some c.in-Some.at = sym (c.in-Some.ensures ∙ ap (position mark) c.deref.ensures.value) in
    let passes : mark d ≡ true = subst (λ (q : HeldQueue). mark q ≡ true) (sym c.index_mut-queue.ensures.value) (position-passes mark queues c.in-Some.at d holds) in
    let none : position test d.keys.items ≡ None = ap (position test) (sym c.deref-2.ensures.value) ∙ sym c.place_of_id.ensures ∙ c.in_default-place_of_id.is in
    let no : is_some (position test d.keys.items) ≡ false = ap is_some none in
    cc

pub invariant_of-self : goal.invariant_of-self
invariant_of-self c =
    let queues = c.self.inside.queues.items in
    let slots = c.self.inside.entries.slots in
    let slots' = c.try_remove.new.self.slots in
    let at = c.in-Some.at in
    let d = c.index_mut-queue.result.now in
    let place = c.in-Some-place_of_id.place in
    let key = c.remove-key.result in
    let id = c.args.id.now in
    let q' : HeldQueue = record { index = d.index; def = d.def; keys = c.remove-key.new.self } in
    let test = λ (k : ℕ). slot_test (has_id id) (slot_at slots k) in
    let mark = λ (q : HeldQueue). is_some (position (λ k. slot_test (has_id id) (slot_at slots k)) q.keys.items) in
    let holds : position mark queues ≡ Some at = sym (c.in-Some.ensures ∙ ap (position mark) c.deref.ensures.value) in
    let found : position test d.keys.items ≡ Some place = sym (c.in-Some-place_of_id.ensures ∙ ap (position test) c.deref-2.ensures.value) in
    let keyed : IsRekeyed d q' (remove d.keys.items place) = record { index = refl; def = refl; keys_are = c.remove-key.ensures.items } in
    let room = room_at c.self.inside.ready queues at d c.index_mut-queue.ensures.value (position-found mark queues at holds).1 c.self.invariant.key_room in
    let less = slab_less c.try_remove.result c.self.inside.entries c.try_remove.new.self c.try_remove.ensures.len c.try_remove.ensures.absent in
    record {
      listed = removed_listed slots slots' queues c.self.invariant.listed at d c.index_mut-queue.ensures.value q' place key c.remove-key.ensures.value id c.try_remove.ensures.updates.others c.try_remove.ensures.updates.changed keyed holds found;
      entry_room = omega (arith, less, c.try_remove.ensures.capacity, c.self.invariant.entry_room);
      key_room = room_set c.self.inside.ready queues at q' (omega (arith, c.remove-key.ensures.len, c.remove-key.ensures.capacity, room)) c.self.invariant.key_room;
      queue_room = c.self.invariant.queue_room;
      spare = c.self.invariant.spare;
    }

pub returns-clause-queues : goal.returns-clause-queues
returns-clause-queues c =
    let queues = c.self.inside.queues.items in
    let slots = c.self.inside.entries.slots in
    let slots' = c.try_remove.new.self.slots in
    let at = c.in-Some.at in
    let d = c.index_mut-queue.result.now in
    let place = c.in-Some-place_of_id.place in
    let key = c.remove-key.result in
    let id = c.args.id.now in
    let q' : HeldQueue = record { index = d.index; def = d.def; keys = c.remove-key.new.self } in
    let test = λ (k : ℕ). slot_test (has_id id) (slot_at slots k) in
    let mark = λ (q : HeldQueue). is_some (position (λ k. slot_test (has_id id) (slot_at slots k)) q.keys.items) in
    let holds : position mark queues ≡ Some at = sym (c.in-Some.ensures ∙ ap (position mark) c.deref.ensures.value) in
    let found : position test d.keys.items ≡ Some place = sym (c.in-Some-place_of_id.ensures ∙ ap (position test) c.deref-2.ensures.value) in
    let keyed : IsRekeyed d q' (remove d.keys.items place) = record { index = refl; def = refl; keys_are = c.remove-key.ensures.items } in
    removed_seen slots slots' queues c.self.invariant.listed at d c.index_mut-queue.ensures.value q' place key c.remove-key.ensures.value id c.try_remove.ensures.updates.others c.try_remove.ensures.updates.changed keyed holds found
    ∙ ap (λ (v : ShelfValue). entry_removed id v.queues) c.self.view_is

pub returns-clause-entry : goal.returns-clause-entry
returns-clause-entry c =
    let queues = c.self.inside.queues.items in
    let slots = c.self.inside.entries.slots in
    let slots' = c.try_remove.new.self.slots in
    let at = c.in-Some.at in
    let d = c.index_mut-queue.result.now in
    let place = c.in-Some-place_of_id.place in
    let key = c.remove-key.result in
    let id = c.args.id.now in
    let q' : HeldQueue = record { index = d.index; def = d.def; keys = c.remove-key.new.self } in
    let test = λ (k : ℕ). slot_test (has_id id) (slot_at slots k) in
    let mark = λ (q : HeldQueue). is_some (position (λ k. slot_test (has_id id) (slot_at slots k)) q.keys.items) in
    let holds : position mark queues ≡ Some at = sym (c.in-Some.ensures ∙ ap (position mark) c.deref.ensures.value) in
    let found : position test d.keys.items ≡ Some place = sym (c.in-Some-place_of_id.ensures ∙ ap (position test) c.deref-2.ensures.value) in
    let keyed : IsRekeyed d q' (remove d.keys.items place) = record { index = refl; def = refl; keys_are = c.remove-key.ensures.items } in
    ap (option_map (entry_view session_owners)) c.try_remove.ensures.value ∙ removed_entry slots slots' queues c.self.invariant.listed at d c.index_mut-queue.ensures.value q' place key c.remove-key.ensures.value id c.try_remove.ensures.updates.others c.try_remove.ensures.updates.changed keyed holds found
    ∙ ap (λ (v : ShelfValue). entry_with_id id v.queues) c.self.view_is
