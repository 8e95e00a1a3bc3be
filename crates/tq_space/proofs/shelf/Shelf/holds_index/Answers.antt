use Rattle.std.proofs.Common.{◌==◌, sym, ap, ◌∙◌}
use Rattle.std.specs.Prelude.{is_some}
use Rattle.std.specs.List.{position, list_any}
use Rattle.tq_model.specs.Moves.{has_index}
use Rattle.tq_space.specs.declared.shelf.HeldQueue.{HeldQueue}
use Rattle.tq_space.specs.State.{ShelfValue}
use Rattle.tq_space.proofs.Found.{index_any}
use Rattle.tq_space.proofs.shelf.Shelf.holds_index.Goals as goal

pub returns : goal.returns
returns c =
    let queues = c.self.inside.queues.items in
    let index = c.args.index in
    c.is_some.ensures
    ∙ ap is_some (c.place_indexed.ensures ∙ ap (position (λ (q : HeldQueue). q.index == index)) c.deref.ensures.value)
    ∙ sym (index_any c.self.inside.entries.slots queues index)
    ∙ ap (λ (v : ShelfValue). list_any (has_index index) v.queues) c.self.view_is
