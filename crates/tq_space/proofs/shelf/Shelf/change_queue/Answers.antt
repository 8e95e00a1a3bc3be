use Rattle.std.proofs.Common.{◌≡◌, ◌==◌, List, refl, sym, ap, ◌∙◌, subst, Some, None}
use Rattle.std.specs.List.{position}
use Rattle.tq_model.specs.Space.{Queue, change_first}
use Rattle.tq_model.specs.Moves.{IndexedQueue, queue_of, has_index, on_queue}
use Rattle.tq_space.specs.declared.shelf.HeldQueue.{HeldQueue}
use Rattle.tq_space.specs.State.{ShelfValue}
use Rattle.tq_model.proofs.Places.{position-found}
use Rattle.tq_space.proofs.Shelves.{room_set, room_at}
use Rattle.tq_space.proofs.Definitions.{changed_listed, changed_seen, changed_nothing}
use Rattle.tq_space.proofs.shelf.Shelf.change_queue.Goals as goal

pub invariant_of-self : goal.invariant_of-self
invariant_of-self c =
    let queues = c.self.inside.queues.items in
    let index = c.args.index in
    let at = c.in-Some.at in
    let d = c.index_mut-queue.result.now in
    let q' : HeldQueue = record { index = d.index; def = c.args.def.now; keys = d.keys } in
    let found : position (λ (q : HeldQueue). q.index == index) queues ≡ Some at =
    sym (c.in-Some.ensures ∙ ap (position (λ (q : HeldQueue). q.index == index)) c.deref.ensures.value) in
    let room = room_at c.self.inside.ready queues at d c.index_mut-queue.ensures.value (position-found (λ (q : HeldQueue). q.index == index) queues at found).1 c.self.invariant.key_room in
    record {
      listed = changed_listed c.self.inside.entries.slots queues c.self.invariant.listed index at d c.index_mut-queue.ensures.value found q' refl refl;
      entry_room = c.self.invariant.entry_room;
      key_room = room_set c.self.inside.ready queues at q' room c.self.invariant.key_room;
      queue_room = c.self.invariant.queue_room;
      spare = c.self.invariant.spare;
    }

pub returns-in-Some-clause-queues : goal.returns-in-Some-clause-queues
returns-in-Some-clause-queues c =
    let queues = c.self.inside.queues.items in
    let index = c.args.index in
    let def = c.args.def.now in
    let at = c.in-Some.at in
    let d = c.index_mut-queue.result.now in
    let q' : HeldQueue = record { index = d.index; def = def; keys = d.keys } in
    let found : position (λ (q : HeldQueue). q.index == index) queues ≡ Some at =
    sym (c.in-Some.ensures ∙ ap (position (λ (q : HeldQueue). q.index == index)) c.deref.ensures.value) in
    changed_seen c.self.inside.entries.slots queues c.self.invariant.listed index at d c.index_mut-queue.ensures.value found q' refl refl def refl
    ∙ ap (λ (v : ShelfValue). change_first (has_index index) (on_queue (λ queue. queue_of def queue.items)) v.queues) c.self.view_is

pub returns-in_default-clause-queues : goal.returns-in_default-clause-queues
returns-in_default-clause-queues c =
    let queues = c.self.inside.queues.items in
    let index = c.args.index in
    let change : Queue → Queue = λ (queue : Queue). queue_of c.args.def.now queue.items in
    let none : position (λ (q : HeldQueue). q.index == index) queues ≡ None =
    ap (position (λ (q : HeldQueue). q.index == index)) (sym c.deref.ensures.value) ∙ sym c.place_indexed.ensures ∙ c.in_default.is in
    let view = ap (λ (v : ShelfValue). v.queues) c.self.view_is in
    subst (λ (l : List IndexedQueue). l ≡ change_first (has_index index) (on_queue change) l) view (sym (changed_nothing c.self.inside.entries.slots queues index none change))
