use Rattle.std.proofs.Common.{◌≡◌, ◌∙◌, List, ap, sym, subst, map, arith, Some}
use Rattle.std.specs.Vec.{with_items}
use Rattle.std.specs.List.{position}
use Rattle.std.proofs.lemmas.List.{with_items_is}
use Rattle.tq_machine.specs.MachineViews.{space_view, IsWithinLimits}
use Rattle.tq_model.specs.Moves.{entry_view, session_owners}
use Rattle.tq_model.specs.Space.{Space, Queue, Free, is_named, purged_queue, with_entry_in}
use Rattle.tq_model.specs.CallChecks.{enqueue_call}
use Rattle.tq_machine.specs.SpaceCalls.{enqueue_asked}
use Rattle.tq_model.specs.EnqueueStep.{next_id, plain_label, message_to_come, enqueue_step, enqueue_refusal}
use Rattle.tq_model.proofs.Places.{position-none, find-none}
use Rattle.tq_machine.proofs.SpaceSteps.{enqueue-unnamed, entry-added, space-added, within-limits-added}
use Rattle.tq_machine.proofs.space_lists.SpaceLists.add_message.Goals as goal

pub unreachable-requires : goal.unreachable-requires
unreachable-requires c =
    let s = space_view c.self.inside in
    let w = c.args.ask.now.words.now in
    let clock = c.args.ask.now.clock in
    let next = c.args.ask.now.next in
    let granted = ap (λ (t : Space). enqueue_refusal t (enqueue_asked w clock next)) c.self.view_is ∙ c.requires in
    let missing = ap (position (is_named w.queue)) (sym c.deref.ensures.value) ∙ sym c.place_named.ensures ∙ c.in_default.is in
    let clash = sym (enqueue-unnamed s w clock next (find-none (is_named w.queue) s.queues (position-none (is_named w.queue) s.queues missing))) ∙ granted in
    cc

pub invariant_of-self-2 : goal.invariant_of-self-2
invariant_of-self-2 c =
    let s = space_view c.self.inside in
    let w = c.args.ask.now.words.now in
    let clock = c.args.ask.now.clock in
    let next = c.args.ask.now.next in
    let at = c.in-Some.place in
    let d = c.index.result.now in
    let granted = ap (λ (t : Space). enqueue_refusal t (enqueue_asked w clock next)) c.self.view_is ∙ c.requires in
    let found : position (is_named w.queue) s.queues ≡ Some at = sym (c.in-Some.ensures ∙ ap (position (is_named w.queue)) c.deref.ensures.value) in
    let qos = c.qos.ensures ∙ ap (λ (q : Queue). q.qos) c.index.ensures in
    let id = c.next_id-id.ensures ∙ ap (λ (t : Space). next_id t next) (sym c.self.view_is) in
    let item : entry_view session_owners c.in_ok-entry.entry ≡ entry-added s w clock at d next found granted =
    c.in_ok-entry.ensures ∙ λ i. record { label = plain_label (enqueue_call w clock) next; mark = Free; message = message_to_come (enqueue_call w clock) (qos i) (id i) } in
    let queues : (with_items c.self.inside.queues c.add_at.new.queues).items ≡ with_entry_in w.queue (entry-added s w clock at d next found granted) (map (purged_queue clock) s.queues) =
    with_items_is c.self.inside.queues c.add_at.new.queues (omega arith)
    ∙ c.in_ok-add_at.ensures.ok w.queue (ap (position (is_named w.queue)) c.deref_mut.ensures.value ∙ found)
    ∙ λ i. with_entry_in w.queue (item i) (map (purged_queue clock) (c.deref_mut.ensures.value i)) in
    subst IsWithinLimits (ap (λ (l : List Queue). let after : Space = record s { queues = l } in after) (sym queues)) (within-limits-added s w clock at d next found granted c.self.invariant)

pub returns-clause-space : goal.returns-clause-space
returns-clause-space c =
    let s = space_view c.self.inside in
    let w = c.args.ask.now.words.now in
    let clock = c.args.ask.now.clock in
    let next = c.args.ask.now.next in
    let at = c.in-Some.place in
    let d = c.index.result.now in
    let granted = ap (λ (t : Space). enqueue_refusal t (enqueue_asked w clock next)) c.self.view_is ∙ c.requires in
    let found : position (is_named w.queue) s.queues ≡ Some at = sym (c.in-Some.ensures ∙ ap (position (is_named w.queue)) c.deref.ensures.value) in
    let qos = c.qos.ensures ∙ ap (λ (q : Queue). q.qos) c.index.ensures in
    let id = c.next_id-id.ensures ∙ ap (λ (t : Space). next_id t next) (sym c.self.view_is) in
    let item : entry_view session_owners c.in_ok-entry.entry ≡ entry-added s w clock at d next found granted =
    c.in_ok-entry.ensures ∙ λ i. record { label = plain_label (enqueue_call w clock) next; mark = Free; message = message_to_come (enqueue_call w clock) (qos i) (id i) } in
    let queues : (with_items c.self.inside.queues c.add_at.new.queues).items ≡ with_entry_in w.queue (entry-added s w clock at d next found granted) (map (purged_queue clock) s.queues) =
    with_items_is c.self.inside.queues c.add_at.new.queues (omega arith)
    ∙ c.in_ok-add_at.ensures.ok w.queue (ap (position (is_named w.queue)) c.deref_mut.ensures.value ∙ found)
    ∙ λ i. with_entry_in w.queue (item i) (map (purged_queue clock) (c.deref_mut.ensures.value i)) in
    ap (λ (l : List Queue). let after : Space = record s { queues = l } in after) queues
    ∙ space-added s w clock at d next found granted
    ∙ ap (λ (t : Space). (enqueue_step t (enqueue_asked w clock next)).space) c.self.view_is
