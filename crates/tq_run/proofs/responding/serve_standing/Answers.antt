use Rattle.std.proofs.Common.{◌≡◌, Result, Err, sym, subst, ap, rules}
use Rattle.std.proofs.lemmas.Result.{IfOk-at_ok}
use Rattle.tq_host.specs.View.{View}
use Rattle.tq_model.specs.declared.answer.Answer.{Answer}
use Rattle.tq_model.specs.declared.answer.Answer.TheVariants as answers
use Rattle.tq_model.specs.MachineWithFaults.{down_answer}
use Rattle.tq_run.specs.declared.state.State.{State}
use Rattle.tq_run.specs.declared.state.State.TheVariants as states
use Rattle.tq_coord.specs.declared.failure.Failure.{Failure}
use Rattle.tq_coord.specs.declared.failure.Failure.TheVariants.{Memory, Device}
use Rattle.tq_coord.specs.Counts.{CountsFailure}
use Rattle.tq_run.specs.Standing.{HasTurned, IsTurning}
use Rattle.tq_run.proofs.RespondLemmas.{served, serving, failed, refused, turning}
use Rattle.tq_run.proofs.responding.serve_standing.Goals as goal

pub returns-in-Down-clause-turned : goal.returns-in-Down-clause-turned
returns-in-Down-clause-turned g c = λ t.
    let a = g.H.Host.view c.args.host.now in
    subst (λ (x : Answer). HasTurned c.args.state.now c.args.state.now c.args.request x a a) (sym c.down_answer.ensures)
    (subst (λ (s : State). HasTurned s s c.args.request (down_answer c.args.request) a a) (sym c.in-Down.is) (refused c.args.request a c.requires.boot))

pub returns-in-Down-clause-stop : goal.returns-in-Down-clause-stop
returns-in-Down-clause-stop g c = λ t. turning (returns-in-Down-clause-turned g c t)

pub returns-in-Ok-clause-turned : goal.returns-in-Ok-clause-turned
returns-in-Ok-clause-turned g c = λ t.
    let a = g.H.Host.view c.args.host.now in
    let b = g.H.Host.view c.serve-served.new.host in
    let does = c.serve-served.ensures in
    let same : b.faults ≡ a.faults = subst (λ (r : Result Answer Failure). CountsFailure r a.faults b.faults) c.in-Ok.is does.failed in
    subst (λ (s : State). HasTurned s (states.Up c.serve-served.new.manager) c.args.request c.in-Ok.answer a b) (sym c.in-Up.is)
    (served c.in-Up.manager c.args.request a b c.requires.boot does.stop (λ e. ap (λ (v : View). v.clock) (ap g.H.Host.view (does.idle e))) c.serve-served.new.manager c.in-Ok.answer same (IfOk-at_ok _ c.in-Ok.is does.served))

pub returns-in-Ok-clause-stop : goal.returns-in-Ok-clause-stop
returns-in-Ok-clause-stop g c = λ t. turning (returns-in-Ok-clause-turned g c t)

pub returns-in-Err-Device-clause-turned : goal.returns-in-Err-Device-clause-turned
returns-in-Err-Device-clause-turned g c = λ t.
    let a = g.H.Host.view c.args.host.now in
    let b = g.H.Host.view c.serve-served.new.host in
    let does = c.serve-served.ensures in
    let is : c.serve-served.result ≡ Err Device = search rules in
    subst (λ (s : State). HasTurned s states.Down c.args.request answers.SystemError a b) (sym c.in-Up.is)
    (failed c.in-Up.manager c.args.request a b c.requires.boot does.stop (λ e. ap (λ (v : View). v.clock) (ap g.H.Host.view (does.idle e))) (subst (λ (r : Result Answer Failure). CountsFailure r a.faults b.faults) is does.failed))

pub returns-in-Err-Device-clause-stop : goal.returns-in-Err-Device-clause-stop
returns-in-Err-Device-clause-stop g c = λ t. turning (returns-in-Err-Device-clause-turned g c t)

pub returns-in-Err-Memory-clause-stop : goal.returns-in-Err-Memory-clause-stop
returns-in-Err-Memory-clause-stop g c = λ t.
    let a = g.H.Host.view c.args.host.now in
    let b = g.H.Host.view c.serve-served.new.host in
    let is : c.serve-served.result ≡ Err Memory = search rules in
    subst (λ (s : State). IsTurning s c.args.request a b) (sym c.in-Up.is)
    (serving c.in-Up.manager c.args.request a b c.requires.boot c.serve-served.ensures.stop (subst (λ (r : Result Answer Failure). CountsFailure r a.faults b.faults) is c.serve-served.ensures.failed))
