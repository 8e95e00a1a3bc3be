use Rattle.std.proofs.Common.{◌≡◌, true, false, [], ◌∷◌, refl, sym, ap, ◌∙◌, Some, None, option_map}
use Rattle.std.specs.Prelude.{option_copied, option_to_list, if◌then◌else◌}
use Rattle.tq_model.specs.declared.space.SpaceMove.TheVariants.{Remove}
use Rattle.tq_model.specs.Moves.{entry_view, session_owners}
use Rattle.tq_model.specs.DequeueStep.{can_answer}
use Rattle.tq_space.specs.Planned.{IsAmong}
use Rattle.tq_space.specs.Reads.{indexed_named}
use Rattle.tq_space.specs.Reading.{named_of, answer_in}
use Rattle.tq_space.proofs.OptionLemmas.{none_of, some_of}
use Rattle.tq_space.proofs.PlanMoves.{found_contained, among_held}
use Rattle.tq_space.proofs.Steps.{not_both, nothing_named, nothing_answers, dequeue_planned}
use Rattle.tq_space.proofs.LogLemmas.{dequeue_durable}
use Rattle.tq_space.proofs.space.Space.plan_dequeue.Goals as goal

pub returns-in_default-clause-step : goal.returns-in_default-clause-step
returns-in_default-clause-step c =
    nothing_named c.args.self.now.held c.named.ensures.lasting c.args.ask.now
    (none_of named_of _ (sym c.named.ensures.named ∙ c.in_default.is)) c.new.result c.new.ensures

pub returns-in_default-clause-granted : goal.returns-in_default-clause-granted
returns-in_default-clause-granted c = λ none refused. not_both (returns-in_default-clause-step c).0 none

pub returns-in_default-answering-clause-step : goal.returns-in_default-answering-clause-step
returns-in_default-answering-clause-step c =
    let named = some_of named_of _ c.in-Some._queue (sym c.in-Some.ensures.named) in
    nothing_answers c.args.self.now.held c.named.ensures.lasting c.args.ask.now named.0 named.1
    (sym c.answering.ensures ∙ ap (λ o. option_map (entry_view session_owners) (option_copied o)) c.in_default-answering.is)
    c.new-in_default-answering.result c.new-in_default-answering.ensures

pub returns-in_default-answering-clause-granted : goal.returns-in_default-answering-clause-granted
returns-in_default-answering-clause-granted c = λ none refused. not_both (returns-in_default-answering-clause-step c).0 none

pub returns-clause-step : goal.returns-clause-step
returns-clause-step c =
    let named = some_of named_of _ c.in-Some._queue (sym c.in-Some.ensures.named) in
    dequeue_planned c.args.self.now.held c.named.ensures.lasting c.args.ask.now named.0 named.1 (entry_view session_owners c.in-Some-answering.entry.now)
    (sym c.in-Some-answering.ensures) c.in-Ok-plan_of.plan c.in-Ok-plan_of.ensures.purge
    (c.in-Ok-plan_of.ensures.moves ∙ ap option_to_list c.removal-item.ensures)
    (c.in-Ok-plan_of.ensures.answer ∙ ap Some c.in-Ok.ensures)

pub returns-clause-moves : goal.returns-clause-moves
returns-clause-moves c =
    let held = c.args.self.now.held in
    let call = c.args.ask.now.call in
    let named = some_of named_of _ c.in-Some._queue (sym c.in-Some.ensures.named) in
    let q = named.0 in
    let item = entry_view session_owners c.in-Some-answering.entry.now in
    let answers : answer_in call c.args.ask.now.clock (Some q) ≡ Some item = ap (answer_in call c.args.ask.now.clock) (sym named.1) ∙ sym c.in-Some-answering.ensures in
    let among : IsAmong item held = record {
      queue = q;
      of_space = found_contained (indexed_named call.queue) held.queues q named.1;
      of_queue = found_contained (can_answer call c.args.ask.now.clock) q.queue.items item answers;
    } in
    record {
      purge = c.in-Ok-plan_of.ensures.purge;
      item = item;
      within = among;
      holds = among_held item held among;
      moves = c.in-Ok-plan_of.ensures.moves ∙ ap option_to_list c.removal-item.ensures
          ∙ elim call.peek as (λ b. option_to_list (if b then None else Some (Remove item.message.id)) ≡ (if b then [] else Remove item.message.id ∷ [])) [ true ↦ refl | false ↦ refl ];
    }

pub returns-clause-durable : goal.returns-clause-durable
returns-clause-durable c = λ taken own next. dequeue_durable c.args.ask.now c.args.self.now.held c.in-Ok-plan_of.plan taken own (returns-clause-moves c) next
