use Rattle.std.proofs.Common.{◌≡◌, ◌∙◌, List, ap, sym, subst, map, arith, Option, option_map}
use Rattle.std.specs.Prelude.{option_copied}
use Rattle.std.specs.Vec.{with_items}
use Rattle.std.proofs.lemmas.List.{with_items_is}
use Rattle.tq_machine.specs.MachineViews.{space_view, IsWithinLimits}
use Rattle.tq_model.specs.Space.{Space, Queue, queue_named, purged_queue, without}
use Rattle.tq_model.specs.Moves.{entry_view, session_owners}
use Rattle.tq_machine.specs.SpaceCalls.{dequeue_asked}
use Rattle.tq_model.specs.EnqueueStep.{CallOutcome}
use Rattle.tq_model.specs.DequeueStep.{dequeue_step, dequeue_refusal}
use Rattle.tq_machine.proofs.Limits.{within-taken}
use Rattle.tq_machine.proofs.SpaceSteps.{dequeue-queue, dequeue-entry, dequeue-granted}
use Rattle.tq_machine.proofs.space_lists.SpaceLists.take_message.Goals as goal

pub unreachable-requires : goal.unreachable-requires
unreachable-requires c =
    let s = space_view c.self.inside in
    let w = c.args.ask.now.words.now in
    let clock = c.args.ask.now.clock in
    let granted = ap (λ (t : Space). dequeue_refusal t (dequeue_asked w clock)) c.self.view_is ∙ c.requires in
    dequeue-queue s w clock granted (ap (queue_named w.queue) (sym c.deref.ensures.value) ∙ sym c.queue_named.ensures ∙ ap option_copied c.in_default.is)

pub unreachable-requires-in_default-eligible : goal.unreachable-requires-in_default-eligible
unreachable-requires-in_default-eligible c =
    let s = space_view c.self.inside in
    let w = c.args.ask.now.words.now in
    let clock = c.args.ask.now.clock in
    let granted = ap (λ (t : Space). dequeue_refusal t (dequeue_asked w clock)) c.self.view_is ∙ c.requires in
    let found = ap (queue_named w.queue) (sym c.deref.ensures.value) ∙ sym c.in-Some.ensures in
    dequeue-entry s w clock c.in-Some.queue.now granted found (sym c.eligible.ensures ∙ ap (λ (o : Option _). option_map (entry_view session_owners) (option_copied o)) c.in_default-eligible.is)

pub invariant_of-self : goal.invariant_of-self
invariant_of-self c =
    let s = space_view c.self.inside in
    let clock = c.args.ask.now.clock in
    let id = c.in-Some-eligible.entry.now.message.id in
    let queues : (with_items c.self.inside.queues c.take_out.new.queues).items ≡ without id (map (purged_queue clock) s.queues) =
    with_items_is c.self.inside.queues c.take_out.new.queues (omega arith) ∙ c.take_out.ensures ∙ ap (λ (l : List Queue). without id (map (purged_queue clock) l)) c.deref_mut.ensures.value in
    subst IsWithinLimits (ap (λ (l : List Queue). let after : Space = record s { queues = l } in after) (sym queues)) (within-taken id clock s c.self.invariant)

pub returns-clause-answer : goal.returns-clause-answer
returns-clause-answer c =
    let s = space_view c.self.inside in
    let w = c.args.ask.now.words.now in
    let clock = c.args.ask.now.clock in
    let found = ap (queue_named w.queue) (sym c.deref.ensures.value) ∙ sym c.in-Some.ensures in
    let first = sym c.in-Some-eligible.ensures in
    c.in_ok-delivery.ensures
    ∙ sym (ap (λ (o : CallOutcome). o.answer) (dequeue-granted s w clock c.in-Some.queue.now (entry_view session_owners c.in-Some-eligible.entry.now) found first))
    ∙ ap (λ (t : Space). (dequeue_step t (dequeue_asked w clock)).answer) c.self.view_is

pub returns-clause-space : goal.returns-clause-space
returns-clause-space c =
    let s = space_view c.self.inside in
    let clock = c.args.ask.now.clock in
    let id = c.in-Some-eligible.entry.now.message.id in
    let queues : (with_items c.self.inside.queues c.take_out.new.queues).items ≡ without id (map (purged_queue clock) s.queues) =
    with_items_is c.self.inside.queues c.take_out.new.queues (omega arith) ∙ c.take_out.ensures ∙ ap (λ (l : List Queue). without id (map (purged_queue clock) l)) c.deref_mut.ensures.value in
    let w = c.args.ask.now.words.now in
    let found = ap (queue_named w.queue) (sym c.deref.ensures.value) ∙ sym c.in-Some.ensures in
    let first = sym c.in-Some-eligible.ensures in
    ap (λ (l : List Queue). let after : Space = record s { queues = l } in after) queues
    ∙ sym (ap (λ (o : CallOutcome). o.space) (dequeue-granted s w clock c.in-Some.queue.now (entry_view session_owners c.in-Some-eligible.entry.now) found first))
    ∙ ap (λ (t : Space). (dequeue_step t (dequeue_asked w clock)).space) c.self.view_is
