use Rattle.std.proofs.Common.{IfOk, refl, subst, sym}
use Rattle.tq_types.specs.declared.identifiers.Arrival.{Arrival}
use Rattle.tq_model.specs.declared.calls.EnqueueAsk.{EnqueueAsk}
use Rattle.tq_model.specs.Moves.{space_of}
use Rattle.tq_model.specs.Step.{enqueue_outcome}
use Rattle.tq_spacefile.specs.File.{held_in}
use Rattle.tq_coord.specs.Calls.{IsPlanned, outcome_in}
use Rattle.tq_coord.specs.SpaceCalls.{IsAsked, IsAskedEnqueue}
use Rattle.tq_coord.specs.declared.planning.SpaceCall.{SpaceCall}
use Rattle.tq_coord.proofs.planning.plan.Goals as goal

of_its_own : (next : Arrival) (ask : EnqueueAsk) → IsAskedEnqueue next ask → IsAskedEnqueue ask.next ask
of_its_own next ask asked = record { short = asked.short; arrival = refl; clock = asked.clock; plain = asked.plain; bare = asked.bare }

pub plan_enqueue-requires : goal.plan_enqueue-requires
plan_enqueue-requires c = of_its_own c.args.next c.in-Enqueue.ask (subst (IsAsked c.args.next) c.in-Enqueue.is c.requires)

pub returns-in-Enqueue : goal.returns-in-Enqueue
returns-in-Enqueue c =
    let s = held_in c.args.file.now in
    let asked : IsAskedEnqueue c.args.next c.in-Enqueue.ask = subst (IsAsked c.args.next) c.in-Enqueue.is c.requires in
    subst (λ (x : SpaceCall). IfOk c.plan_enqueue.result (IsPlanned s c.args.next (outcome_in c.args.file.now x))) (sym c.in-Enqueue.is)
    (subst (λ (x : Arrival). IfOk c.plan_enqueue.result (IsPlanned s x (enqueue_outcome c.in-Enqueue.ask (space_of s)))) asked.arrival c.plan_enqueue.ensures)

pub returns-in-Dequeue : goal.returns-in-Dequeue
returns-in-Dequeue c =
    subst (λ (x : SpaceCall). IfOk c.plan_dequeue.result (IsPlanned (held_in c.args.file.now) c.args.next (outcome_in c.args.file.now x)))
    (sym c.in-Dequeue.is) (c.plan_dequeue.ensures c.args.next)

pub returns-in-CreateQueue : goal.returns-in-CreateQueue
returns-in-CreateQueue c =
    subst (λ (x : SpaceCall). IfOk c.plan_queue.result (IsPlanned (held_in c.args.file.now) c.args.next (outcome_in c.args.file.now x)))
    (sym c.in-CreateQueue.is) (c.plan_queue.ensures c.args.next)
