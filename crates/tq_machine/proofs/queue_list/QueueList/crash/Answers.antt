use Rattle.std.proofs.Common.{◌∙◌, ◌≡◌, ap, map, length, arith}
use Rattle.std.specs.Prelude.{filter}
use Rattle.std.proofs.lemmas.List.{with_items_is, length-map}
use Rattle.tq_types.specs.declared.messages.Entry.{Entry}
use Rattle.tq_machine.specs.Entries.{free_entry}
use Rattle.tq_model.specs.Space.{outlives, crashed_queue}
use Rattle.tq_model.specs.Moves.{entry_view, queue_of, session_owners}
use Rattle.tq_machine.proofs.QueueLists.{crashed_items}
use Rattle.tq_machine.proofs.queue_list.QueueList.crash.Goals as goal

pub returns : goal.returns
returns c =
    let es = c.self.inside.items.items in
    let kept : c.deref_mut.result.now ≡ filter (λ (e : Entry). outlives (entry_view session_owners e)) es = c.deref_mut.ensures.value ∙ c.keep_outliving.ensures in
    let freed : c.free_all.new.items ≡ map free_entry (filter (λ (e : Entry). outlives (entry_view session_owners e)) es) = c.free_all.ensures ∙ ap (map free_entry) kept in
    let back = with_items_is c.keep_outliving.new.items c.free_all.new.items (omega (arith, ap length c.free_all.ensures, length-map c.deref_mut.result.now free_entry, c.deref_mut.ensures.len)) in
    ap (queue_of c.self.inside.def) (ap (map (entry_view session_owners)) (back ∙ freed) ∙ crashed_items es) ∙ ap crashed_queue c.self.view_is
