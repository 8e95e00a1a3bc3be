use Rattle.std.proofs.Common.{◌≡◌, ◌==◌, List, map, sym, ap, ◌∙◌, subst, arith, Some, None}
use Rattle.std.specs.List.{position, find}
use Rattle.tq_model.specs.Moves.{IndexedQueue, has_index, queue_dropped}
use Rattle.tq_space.specs.declared.shelf.HeldQueue.{HeldQueue}
use Rattle.tq_space.specs.State.{ShelfValue}
use Rattle.tq_space.specs.Plain.{HasNoEntries}
use Rattle.tq_space.specs.Shelf.{indexed_at, IsListed}
use Rattle.tq_space.specs.Grown.{HasRoomIn}
use Rattle.tq_space.proofs.Definitions.{dropped_listed, dropped_seen, dropped_nothing, room_dropped}
use Rattle.tq_space.proofs.shelf.Shelf.drop_queue.Goals as goal

pub invariant_of-self : goal.invariant_of-self
invariant_of-self c =
    let queues = c.self.inside.queues.items in
    let slots = c.self.inside.entries.slots in
    let index = c.args.index in
    let at = c.in-Some.at in
    let found : position (λ (q : HeldQueue). q.index == index) queues ≡ Some at =
    sym (c.in-Some.ensures ∙ ap (position (λ (q : HeldQueue). q.index == index)) c.deref.ensures.value) in
    let empty : HasNoEntries (find (has_index index) (map (indexed_at slots) queues)) =
    subst (λ (v : ShelfValue). HasNoEntries (find (has_index index) v.queues)) (sym c.self.view_is) c.requires in
    record {
      listed = subst (IsListed slots) (sym c.remove.ensures.items) (dropped_listed slots queues c.self.invariant.listed index at c.remove.result c.remove.ensures.value found empty);
      entry_room = c.self.invariant.entry_room;
      key_room = subst (HasRoomIn c.self.inside.ready) (sym c.remove.ensures.items) (room_dropped c.self.inside.ready queues at c.self.invariant.key_room);
      queue_room = omega (arith, c.remove.ensures.len, c.remove.ensures.capacity, c.self.invariant.queue_room);
      spare = c.self.invariant.spare;
    }

pub returns-in-Some-clause-queues : goal.returns-in-Some-clause-queues
returns-in-Some-clause-queues c =
    let queues = c.self.inside.queues.items in
    let slots = c.self.inside.entries.slots in
    let index = c.args.index in
    let at = c.in-Some.at in
    let found : position (λ (q : HeldQueue). q.index == index) queues ≡ Some at =
    sym (c.in-Some.ensures ∙ ap (position (λ (q : HeldQueue). q.index == index)) c.deref.ensures.value) in
    ap (λ (l : List HeldQueue). map (indexed_at slots) l) c.remove.ensures.items
    ∙ dropped_seen slots queues c.self.invariant.listed index at c.remove.result c.remove.ensures.value found
    ∙ ap (λ (v : ShelfValue). queue_dropped index v.queues) c.self.view_is

pub returns-in_default-clause-queues : goal.returns-in_default-clause-queues
returns-in_default-clause-queues c =
    let queues = c.self.inside.queues.items in
    let index = c.args.index in
    let none : position (λ (q : HeldQueue). q.index == index) queues ≡ None =
    ap (position (λ (q : HeldQueue). q.index == index)) (sym c.deref.ensures.value) ∙ sym c.place_indexed.ensures ∙ c.in_default.is in
    let view = ap (λ (v : ShelfValue). v.queues) c.self.view_is in
    subst (λ (l : List IndexedQueue). l ≡ queue_dropped index l) view (sym (dropped_nothing c.self.inside.entries.slots queues index none))
