use Rattle.std.proofs.Common.{◌∙◌, List, sym, ap, length, not}
use Rattle.std.specs.Prelude.{filter}
use Rattle.std.proofs.lemmas.List.{length-map}
use Rattle.tq_types.specs.declared.messages.Entry.{Entry}
use Rattle.tq_model.specs.Space.{Queue, is_expired, purged_queue}
use Rattle.tq_model.specs.Moves.{entry_view, session_owners}
use Rattle.tq_machine.proofs.QueueLists.{purged_items}
use Rattle.tq_machine.proofs.queue_list.QueueList.lasting.Goals as goal

pub returns : goal.returns
returns c =
    let clock = c.args.clock in
    let es = c.self.inside.items.items in
    c.count_lasting.ensures ∙ ap (λ (l : List Entry). length (filter (λ e. not (is_expired clock (entry_view session_owners e))) l)) c.deref.ensures.value
    ∙ sym (length-map (filter (λ e. not (is_expired clock (entry_view session_owners e))) es) (entry_view session_owners)) ∙ ap length (purged_items clock es) ∙ ap (λ (q : Queue). length (purged_queue clock q).items) c.self.view_is
