use Rattle.std.proofs.Common.{subst, sym}
use Rattle.tq_model.specs.Space.{Space}
use Rattle.tq_model.specs.Plain.{IsOwn}
use Rattle.tq_model.specs.SpaceForm.{gone_length}
use Rattle.tq_model.specs.DequeueStep.{dequeue_step, dequeue_refusal}
use Rattle.tq_spacefile.specs.File.{held_in}
use Rattle.tq_coord.proofs.PlanLemmas.{granted_is, refused_is}
use Rattle.tq_coord.proofs.planning.plan_dequeue.Goals as goal

pub returns-in-Ok : goal.returns-in-Ok
returns-in-Ok c = λ next.
    let ask = c.args.ask.now in
    let f = c.args.file.now in
    granted_is (λ (s : Space). dequeue_step s ask) (λ (s : Space). dequeue_refusal s ask) gone_length 0 next c.space.result.now.held (held_in f) c.space.ensures
    c.in-Ok.plan c.take_answer-answer.new.plan c.in-Ok.ensures.step (c.in-Ok.ensures.durable c.requires.takes (subst IsOwn (sym c.space.ensures) f.own) next)
    c.take_answer-answer.ensures.purge c.take_answer-answer.ensures.moves c.take_answer-answer.result c.take_answer-answer.ensures.answer

pub returns-in-Err-Refused : goal.returns-in-Err-Refused
returns-in-Err-Refused c = λ next.
    let ask = c.args.ask.now in
    refused_is (λ (s : Space). dequeue_step s ask) (λ (s : Space). dequeue_refusal s ask) gone_length 0 next c.space.result.now.held (held_in c.args.file.now) c.space.ensures
    c.in-Err-Refused.answer _ (rw c.in-Err-Refused.field-0-is at c.in-Err-Refused.ensures.step)
