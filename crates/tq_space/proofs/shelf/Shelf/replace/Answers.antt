use Rattle.std.proofs.Common.{◌≡◌, sym, ap, ◌∙◌, Option, None, option_map}
use Rattle.std.specs.List.{list_any}
use Rattle.tq_model.specs.Space.{Entry}
use Rattle.tq_model.specs.Moves.{entry_view, entry_with_id, entry_replaced, has_index, session_owners}
use Rattle.tq_space.proofs.Counts.{any_removed, removed_nothing}
use Rattle.tq_space.proofs.shelf.Shelf.replace.Goals as goal

pub insert-requires-clause-there : goal.insert-requires-clause-there
insert-requires-clause-there c =
    let change = c.args.change.now in
    let queues = c.args.self.now.queues in
    (λ i. list_any (has_index (c.changed_entry.ensures.queue i)) (c.remove.ensures.queues i))
    ∙ any_removed change.queue change.id queues ∙ c.requires.there

pub returns-in_default-clause-queues : goal.returns-in_default-clause-queues
returns-in_default-clause-queues c =
    let change = c.args.change.now in
    let queues = c.args.self.now.queues in
    let none : entry_with_id change.id queues ≡ None = sym c.remove.ensures.entry ∙ ap (option_map (entry_view session_owners)) c.in_default.is in
    c.remove.ensures.queues ∙ removed_nothing change.id queues none ∙ ap (λ (o : Option Entry). entry_replaced session_owners change o queues) (sym none)
