use Rattle.std.proofs.Common.{◌∙◌, ap, sym, Option, Some, option_map}
use Rattle.std.specs.Prelude.{option_copied}
use Rattle.tq_model.specs.Space.{Space, queue_named, purged_queue}
use Rattle.tq_model.specs.Moves.{entry_view, session_owners}
use Rattle.tq_model.specs.DequeueStep.{refusal_at}
use Rattle.tq_machine.proofs.SpaceSteps.{dequeue-unnamed, dequeue-named}
use Rattle.tq_machine.proofs.space_lists.SpaceLists.dequeue_refusal.Goals as goal

pub returns-in_default : goal.returns-in_default
returns-in_default c =
    let name = c.args.ask.now.words.now.queue in
    let none = ap (λ (s : Space). queue_named name s.queues) (sym c.self.view_is) ∙ ap (queue_named name) (sym c.deref.ensures.value) ∙ sym c.queue_named.ensures ∙ ap option_copied c.in_default.is in
    sym (dequeue-unnamed c.args.self.now c.args.ask.now.words.now c.args.ask.now.clock none)

pub returns-in-Some-eligible : goal.returns-in-Some-eligible
returns-in-Some-eligible c =
    let name = c.args.ask.now.words.now.queue in
    let queue = c.in-Some.queue.now in
    let found = ap (λ (s : Space). queue_named name s.queues) (sym c.self.view_is) ∙ ap (queue_named name) (sym c.deref.ensures.value) ∙ sym c.in-Some.ensures in
    let first = sym c.eligible.ensures ∙ ap (λ (o : Option _). option_map (entry_view session_owners) (option_copied o)) c.in-Some-eligible.is in
    sym (dequeue-named c.args.self.now c.args.ask.now.words.now c.args.ask.now.clock queue found ∙ ap (refusal_at (Some (purged_queue c.args.ask.now.clock queue))) first)

pub returns-in-None : goal.returns-in-None
returns-in-None c =
    let name = c.args.ask.now.words.now.queue in
    let queue = c.in-Some.queue.now in
    let found = ap (λ (s : Space). queue_named name s.queues) (sym c.self.view_is) ∙ ap (queue_named name) (sym c.deref.ensures.value) ∙ sym c.in-Some.ensures in
    let none = sym c.eligible.ensures ∙ ap (λ (o : Option _). option_map (entry_view session_owners) (option_copied o)) c.in-None.is in
    sym (dequeue-named c.args.self.now c.args.ask.now.words.now c.args.ask.now.clock queue found ∙ ap (refusal_at (Some (purged_queue c.args.ask.now.clock queue))) none)
