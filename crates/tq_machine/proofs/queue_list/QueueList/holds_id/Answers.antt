use Rattle.std.proofs.Common.{◌∙◌, List, sym, ap}
use Rattle.std.specs.List.{list_any}
use Rattle.tq_types.specs.declared.messages.Entry.{Entry}
use Rattle.tq_model.specs.Space.{has_id, holds_id}
use Rattle.tq_model.specs.Moves.{entry_view, session_owners}
use Rattle.tq_model.proofs.Maps.{list_any-map}
use Rattle.tq_machine.proofs.queue_list.QueueList.holds_id.Goals as goal

pub returns : goal.returns
returns c =
    let id = c.args.id.now in
    c.any_has_id.ensures ∙ ap (λ (es : List Entry). list_any (λ e. has_id id (entry_view session_owners e)) es) c.deref.ensures.value
    ∙ sym (list_any-map (entry_view session_owners) (has_id id) c.self.inside.items.items) ∙ ap (holds_id id) c.self.view_is
