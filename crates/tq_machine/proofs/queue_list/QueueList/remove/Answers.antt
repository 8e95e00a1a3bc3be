use Rattle.std.proofs.Common.{◌∙◌, sym, ap, map}
use Rattle.std.specs.List.{position}
use Rattle.tq_types.specs.declared.messages.Entry.{Entry}
use Rattle.tq_model.specs.Space.{has_id, without_entry}
use Rattle.tq_model.specs.Moves.{entry_view, queue_of, session_owners}
use Rattle.tq_machine.proofs.QueueLists.{dropped_found, dropped_none}
use Rattle.tq_machine.proofs.queue_list.QueueList.remove.Goals as goal

pub returns-in-Some : goal.returns-in-Some
returns-in-Some c =
    let id = c.args.id.now in
    let es = c.self.inside.items.items in
    let found = ap (position (λ (e : Entry). has_id id (entry_view session_owners e))) (sym c.deref.ensures.value) ∙ sym c.in-Some.ensures in
    ap (queue_of c.self.inside.def) (ap (map (entry_view session_owners)) c.remove.ensures.items ∙ dropped_found id es c.in-Some.at found) ∙ ap (without_entry id) c.self.view_is

pub returns-in_default : goal.returns-in_default
returns-in_default c =
    let id = c.args.id.now in
    let es = c.self.inside.items.items in
    let none = ap (position (λ (e : Entry). has_id id (entry_view session_owners e))) (sym c.deref.ensures.value) ∙ sym c.place_of_id.ensures ∙ c.in_default.is in
    sym c.self.view_is ∙ ap (queue_of c.self.inside.def) (dropped_none id es none) ∙ ap (without_entry id) c.self.view_is
