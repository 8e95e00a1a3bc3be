use Rattle.std.proofs.Common.{◌∙◌, List, ap, map, arith, not, ◌&&◌}
use Rattle.std.specs.Prelude.{filter}
use Rattle.std.specs.List.{position_or_len}
use Rattle.tq_types.specs.declared.messages.Entry.{Entry as HeldEntry}
use Rattle.tq_model.specs.Space.{Entry, Queue, is_expired, stands_before, with_entry, purged_queue}
use Rattle.tq_model.specs.Moves.{entry_view, queue_of, session_owners}
use Rattle.tq_machine.proofs.QueueLists.{placed_items}
use Rattle.tq_model.proofs.Places.{position_or_len-within}
use Rattle.tq_machine.proofs.queue_list.QueueList.add.Goals as goal

pub insert-requires : goal.insert-requires
insert-requires c =
    omega (
      arith,
      c.place_for-place.ensures,
      c.deref.ensures.len,
      position_or_len-within (λ (other : HeldEntry). not (is_expired c.args.clock (entry_view session_owners other)) && stands_before c.self.inside.def.order (entry_view session_owners c.args.entry) (entry_view session_owners other)) c.deref.result.now,
    )

pub returns-clause-ok : goal.returns-clause-ok
returns-clause-ok c =
    let clock = c.args.clock in
    let d = c.self.inside.def in
    let es = c.self.inside.items.items in
    let test = λ (other : HeldEntry). not (is_expired clock (entry_view session_owners other)) && stands_before d.order (entry_view session_owners c.args.entry) (entry_view session_owners other) in
    let spot = c.place_for-place.ensures ∙ ap (position_or_len test) c.deref.ensures.value in
    ap (queue_of d) (ap (λ (l : List HeldEntry). filter (λ (item : Entry). not (is_expired clock item)) (map (entry_view session_owners) l)) c.in_ok-insert.ensures.items
    ∙ placed_items clock d.order c.args.entry c.requires es c.place_for-place.result spot)
    ∙ ap (λ (q : Queue). with_entry (entry_view session_owners c.args.entry) (purged_queue clock q)) c.self.view_is
