use Rattle.std.proofs.Common.{◌∙◌, List, sym, ap, option_map}
use Rattle.std.specs.List.{find}
use Rattle.tq_types.specs.declared.messages.Entry.{Entry}
use Rattle.tq_model.specs.Space.{Queue, is_eligible}
use Rattle.tq_model.specs.Moves.{entry_view, session_owners}
use Rattle.tq_model.proofs.Maps.{find-map}
use Rattle.tq_machine.proofs.queue_list.QueueList.eligible.Goals as goal

pub returns : goal.returns
returns c =
    let clock = c.args.clock in
    ap (option_map (entry_view session_owners)) (c.first_eligible.ensures ∙ ap (λ (es : List Entry). find (λ e. is_eligible clock (entry_view session_owners e)) es) c.deref.ensures.value)
    ∙ sym (find-map (entry_view session_owners) (is_eligible clock) c.self.inside.items.items) ∙ ap (λ (q : Queue). find (is_eligible clock) q.items) c.self.view_is
