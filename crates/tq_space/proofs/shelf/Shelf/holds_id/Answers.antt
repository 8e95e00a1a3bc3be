use Rattle.std.proofs.Common.{ap, sym, ◌∙◌}
use Rattle.std.specs.Prelude.{is_some}
use Rattle.std.specs.List.{position, list_any}
use Rattle.tq_model.specs.Space.{has_id}
use Rattle.tq_model.specs.Moves.{indexed_holds}
use Rattle.tq_space.specs.declared.shelf.HeldQueue.{HeldQueue}
use Rattle.tq_space.specs.State.{ShelfValue}
use Rattle.tq_space.specs.Slots.{slot_at, slot_test}
use Rattle.tq_space.proofs.Found.{id_any}
use Rattle.tq_space.proofs.shelf.Shelf.holds_id.Goals as goal

pub returns : goal.returns
returns c =
    let slots = c.self.inside.entries.slots in
    let id = c.args.id.now in
    c.is_some.ensures
    ∙ ap is_some (c.place_holding.ensures
    ∙ ap (position (λ (q : HeldQueue). is_some (position (λ k. slot_test (has_id id) (slot_at slots k)) q.keys.items))) c.deref.ensures.value)
    ∙ sym (id_any slots c.self.inside.queues.items c.self.invariant.listed id)
    ∙ ap (λ (v : ShelfValue). list_any (indexed_holds id) v.queues) c.self.view_is
