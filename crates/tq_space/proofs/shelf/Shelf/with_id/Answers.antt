use Rattle.std.proofs.Common.{◌≡◌, ℕ, true, false, List, sym, ap, ◌∙◌, subst, Some, None, option_map}
use Rattle.std.specs.Prelude.{is_some}
use Rattle.std.specs.List.{position}
use Rattle.tq_model.specs.Space.{has_id}
use Rattle.tq_model.specs.Moves.{entry_view, entry_with_id, IndexedQueue, session_owners}
use Rattle.tq_space.specs.declared.shelf.HeldQueue.{HeldQueue}
use Rattle.tq_space.specs.State.{ShelfValue}
use Rattle.tq_space.specs.Slots.{slot_at, slot_test}
use Rattle.tq_space.proofs.Keys.{no_entry_held}
use Rattle.tq_space.proofs.Shelves.{position-passes}
use Rattle.tq_space.proofs.Found.{entry_at_id}
use Rattle.tq_space.proofs.shelf.Shelf.with_id.Goals as goal

pub returns-in_default : goal.returns-in_default
returns-in_default c =
    let queues = c.self.inside.queues.items in
    let slots = c.self.inside.entries.slots in
    let id = c.args.id.now in
    let mark = λ (q : HeldQueue). is_some (position (λ k. slot_test (has_id id) (slot_at slots k)) q.keys.items) in
    let none : position mark queues ≡ None = ap (position mark) (sym c.deref.ensures.value) ∙ sym c.place_holding.ensures ∙ c.in_default.is in
    let view = ap (λ (v : ShelfValue). v.queues) c.self.view_is in
    record { entry = sym (subst (λ (l : List IndexedQueue). entry_with_id id l ≡ None) view (no_entry_held slots queues c.self.invariant.listed id none)) }

pub unreachable-requires : goal.unreachable-requires
unreachable-requires c =
    let queues = c.self.inside.queues.items in
    let slots = c.self.inside.entries.slots in
    let id = c.args.id.now in
    let d = c.index-queue.result.now in
    let test = λ (k : ℕ). slot_test (has_id id) (slot_at slots k) in
    let mark = λ (q : HeldQueue). is_some (position (λ k. slot_test (has_id id) (slot_at slots k)) q.keys.items) in
    let holds : position mark queues ≡ Some c.in-Some.at = sym (c.in-Some.ensures ∙ ap (position mark) c.deref.ensures.value) in
    let passes : mark d ≡ true = subst (λ (q : HeldQueue). mark q ≡ true) (sym c.index-queue.ensures) (position-passes mark queues c.in-Some.at d holds) in
    let none : position test d.keys.items ≡ None = ap (position test) (sym c.deref-2.ensures.value) ∙ sym c.place_of_id.ensures ∙ c.in_default-place_of_id.is in
    let no : is_some (position test d.keys.items) ≡ false = ap is_some none in
    cc

pub returns : goal.returns
returns c =
    let queues = c.self.inside.queues.items in
    let slots = c.self.inside.entries.slots in
    let id = c.args.id.now in
    let d = c.index-queue.result.now in
    let test = λ (k : ℕ). slot_test (has_id id) (slot_at slots k) in
    let mark = λ (q : HeldQueue). is_some (position (λ k. slot_test (has_id id) (slot_at slots k)) q.keys.items) in
    let holds : position mark queues ≡ Some c.in-Some.at = sym (c.in-Some.ensures ∙ ap (position mark) c.deref.ensures.value) in
    let found : position test d.keys.items ≡ Some c.in-Some-place_of_id.place = sym (c.in-Some-place_of_id.ensures ∙ ap (position test) c.deref-2.ensures.value) in
    record {
      entry =
          ap (option_map (entry_view session_owners)) c.get.ensures
          ∙ entry_at_id slots queues c.self.invariant.listed id c.in-Some.at d c.index-queue.ensures holds c.in-Some-place_of_id.place c.index-key.result.now found c.index-key.ensures
          ∙ ap (λ (v : ShelfValue). entry_with_id id v.queues) c.self.view_is;
    }
