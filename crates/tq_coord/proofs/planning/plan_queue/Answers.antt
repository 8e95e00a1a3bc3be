use Rattle.std.proofs.Common.{◌≡◌, Result, Ok, Err, refl, ◌∙◌, ap, subst}
use Rattle.tq_model.specs.Moves.{IndexedSpace}
use Rattle.tq_space.specs.declared.plans.Plan.{Plan}
use Rattle.tq_space.specs.declared.plans.QueueRefusal.{QueueRefusal}
use Rattle.tq_space.specs.declared.plans.QueueRefusal.TheVariants.{Taken, QueueFull}
use Rattle.tq_model.specs.SpaceForm.{made_length}
use Rattle.tq_space.specs.Loggable.{IsDurable}
use Rattle.tq_space.specs.Planned.{MeetsCreation}
use Rattle.tq_spacefile.specs.File.{held_in}
use Rattle.tq_coord.proofs.PlanLemmas.{queue_planned, queue_taken, queue_full, queue_free, queue_refused}
use Rattle.tq_coord.proofs.planning.plan_queue.Goals as goal
use Rattle.tq_coord.proofs.planning.plan_queue.Goals.{After-plan_queue}

-- what was planned, of the space of the file
meets : (c : After-plan_queue) (r : Result Plan QueueRefusal) → c.plan_queue.result ≡ r → MeetsCreation r c.args.name.now (held_in c.args.file.now)
meets c r is =
    subst (λ (x : Result Plan QueueRefusal). MeetsCreation x c.args.name.now (held_in c.args.file.now)) is
    (subst (λ (s : IndexedSpace). MeetsCreation c.plan_queue.result c.args.name.now s) c.space.ensures c.plan_queue.ensures.creation)

pub returns-in-Ok : goal.returns-in-Ok
returns-in-Ok c = λ next.
    let s = held_in c.args.file.now in
    let met = meets (goal.at.returns-in-Ok c).After-plan_queue (Ok c.in-Ok.plan) c.in-Ok.is in
    (queue_free c.args.name.now s met.1, refl, queue_planned c.args.name.now s c.in-Ok.plan met.0 met.1 next (subst (λ (x : IndexedSpace). IsDurable next (made_length c.args.name.now) 0 x c.in-Ok.plan) c.space.ensures (c.in-Ok.ensures.durable next)))

pub returns-in-Err-Taken : goal.returns-in-Err-Taken
returns-in-Err-Taken c = λ next.
    queue_refused c.args.name.now (held_in c.args.file.now) _ (queue_taken c.args.name.now (held_in c.args.file.now) (meets (goal.at.returns-in-Err-Taken c).After-plan_queue (Err Taken) (c.in-Err-Taken.is ∙ ap (λ (e : QueueRefusal). Err e) c.in-Err-Taken.field-0-is)))

pub returns-in-Err-QueueFull : goal.returns-in-Err-QueueFull
returns-in-Err-QueueFull c = λ next.
    let limit = c.in-Err-QueueFull.limit in
    let met = meets (goal.at.returns-in-Err-QueueFull c).After-plan_queue (Err (QueueFull limit)) (c.in-Err-QueueFull.is ∙ ap (λ (e : QueueRefusal). Err e) c.in-Err-QueueFull.field-0-is) in
    queue_refused c.args.name.now (held_in c.args.file.now) _ (queue_full c.args.name.now (held_in c.args.file.now) limit met)
