use Rattle.std.proofs.Common.{◌∙◌, ap, ℕ, Option, length, unwrap_or, not, ◌&&◌}
use Rattle.tq_types.specs.declared.messages.Entry.{Entry}
use Rattle.tq_model.specs.Space.{is_expired, stands_before}
use Rattle.tq_model.specs.Moves.{entry_view, session_owners}
use Rattle.tq_model.proofs.Places.{position-or}
use Rattle.tq_machine.proofs.queue_list.place_for.Goals as goal

pub returns : goal.returns
returns c =
    c.unwrap_or.ensures ∙ ap (λ (o : Option ℕ). unwrap_or o (length c.args.items.now)) c.place_after.ensures
    ∙ position-or (λ (other : Entry). not (is_expired c.args.clock (entry_view session_owners other)) && stands_before c.args.order.now (entry_view session_owners c.args.entry.now) (entry_view session_owners other)) c.args.items.now
