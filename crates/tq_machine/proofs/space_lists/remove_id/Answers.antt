use Rattle.std.proofs.Common.{◌∙◌, ap, sym, set}
use Rattle.tq_model.specs.Space.{holds_id, without_entry}
use Rattle.tq_model.proofs.Places.{change_first-found, change_first-past, position-none}
use Rattle.tq_machine.proofs.space_lists.remove_id.Goals as goal

pub returns-in-Some : goal.returns-in-Some
returns-in-Some c =
    let id = c.args.id.now in
    ap (set c.args.queues.now c.in-Some.at) c.remove.ensures
    ∙ sym (change_first-found (holds_id id) (without_entry id) c.args.queues.now c.in-Some.at c.index-queues-at.result (sym c.in-Some.ensures))

pub returns-in_default : goal.returns-in_default
returns-in_default c =
    let id = c.args.id.now in
    sym (change_first-past (holds_id id) (without_entry id) c.args.queues.now (position-none (holds_id id) c.args.queues.now (sym c.place_holding.ensures ∙ c.in_default.is)))
