use Rattle.std.proofs.Common.{◌≡◌, ℕ, List, sym, ap, ◌∙◌, subst, Some, None, option_map}
use Rattle.std.specs.Str.{bytes_eq}
use Rattle.std.specs.List.{position, find}
use Rattle.tq_model.specs.Moves.{IndexedQueue, entry_view, session_owners}
use Rattle.tq_model.specs.DequeueStep.{can_answer}
use Rattle.tq_space.specs.declared.shelf.HeldQueue.{HeldQueue}
use Rattle.tq_space.specs.State.{ShelfValue}
use Rattle.tq_space.specs.Slots.{slot_at, slot_test}
use Rattle.tq_space.specs.Shelf.{indexed_at}
use Rattle.tq_space.specs.Reads.{indexed_named}
use Rattle.tq_space.specs.Reading.{answer_in}
use Rattle.tq_model.proofs.Places.{position-found}
use Rattle.tq_space.proofs.Found.{named_none, named_at, answer_none, answer_at}
use Rattle.tq_space.proofs.shelf.Shelf.answering.Goals as goal

pub returns-in_default : goal.returns-in_default
returns-in_default c =
    let queues = c.self.inside.queues.items in
    let slots = c.self.inside.entries.slots in
    let view = ap (λ (v : ShelfValue). v.queues) c.self.view_is in
    let test = λ (q : HeldQueue). bytes_eq q.def.name c.args.call.now.queue in
    let none : position test queues ≡ None = ap (position test) (sym c.deref.ensures.value) ∙ sym c.place_named.ensures ∙ c.in_default.is in
    record { entry = sym (ap (answer_in c.args.call.now c.args.clock) (subst (λ (l : List IndexedQueue). find (indexed_named c.args.call.now.queue) l ≡ None) view (named_none slots queues c.args.call.now.queue none))) }

pub returns-in_default-place_answering : goal.returns-in_default-place_answering
returns-in_default-place_answering c =
    let queues = c.self.inside.queues.items in
    let slots = c.self.inside.entries.slots in
    let view = ap (λ (v : ShelfValue). v.queues) c.self.view_is in
    let test = λ (q : HeldQueue). bytes_eq q.def.name c.args.call.now.queue in
    let d = c.index-queue.result.now in
    let found : position test queues ≡ Some c.in-Some.at = sym (c.in-Some.ensures ∙ ap (position test) c.deref.ensures.value) in
    let at_d = named_at slots queues c.args.call.now.queue c.in-Some.at d c.index-queue.ensures found in
    let keyed = λ (k : ℕ). slot_test (can_answer c.args.call.now c.args.clock) (slot_at slots k) in
    let none : position keyed d.keys.items ≡ None = ap (position keyed) (sym c.deref-2.ensures.value) ∙ sym c.place_answering.ensures ∙ c.in_default-place_answering.is in
    record {
      entry = sym (ap (answer_in c.args.call.now c.args.clock) (subst (λ (l : List IndexedQueue). find (indexed_named c.args.call.now.queue) l ≡ Some (indexed_at slots d)) view at_d)
          ∙ answer_none slots queues c.self.invariant.listed (can_answer c.args.call.now c.args.clock) c.in-Some.at d c.index-queue.ensures (position-found test queues c.in-Some.at found).1 none);
    }

pub returns : goal.returns
returns c =
    let queues = c.self.inside.queues.items in
    let slots = c.self.inside.entries.slots in
    let view = ap (λ (v : ShelfValue). v.queues) c.self.view_is in
    let test = λ (q : HeldQueue). bytes_eq q.def.name c.args.call.now.queue in
    let d = c.index-queue.result.now in
    let found : position test queues ≡ Some c.in-Some.at = sym (c.in-Some.ensures ∙ ap (position test) c.deref.ensures.value) in
    let at_d = named_at slots queues c.args.call.now.queue c.in-Some.at d c.index-queue.ensures found in
    let keyed = λ (k : ℕ). slot_test (can_answer c.args.call.now c.args.clock) (slot_at slots k) in
    let place = c.in-Some-place_answering.place in
    let key = c.index-key.result.now in
    let spot : position keyed d.keys.items ≡ Some place = sym (c.in-Some-place_answering.ensures ∙ ap (position keyed) c.deref-2.ensures.value) in
    record {
      entry = ap (option_map (entry_view session_owners)) c.get.ensures
          ∙ answer_at slots queues c.self.invariant.listed (can_answer c.args.call.now c.args.clock) c.in-Some.at d c.index-queue.ensures (position-found test queues c.in-Some.at found).1 place key spot c.index-key.ensures
          ∙ sym (ap (answer_in c.args.call.now c.args.clock) (subst (λ (l : List IndexedQueue). find (indexed_named c.args.call.now.queue) l ≡ Some (indexed_at slots d)) view at_d));
    }
