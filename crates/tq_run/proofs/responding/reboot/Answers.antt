use Rattle.std.proofs.Common.{◌≡◌, Result, Err, subst, sym, rules}
use Rattle.tq_model.specs.declared.answer.Answer.{Answer}
use Rattle.tq_model.specs.declared.request.Request.TheVariants.{Boot}
use Rattle.tq_coord.specs.declared.site.Manager.{Manager}
use Rattle.tq_run.specs.declared.state.State.TheVariants as states
use Rattle.tq_coord.specs.declared.failure.BootFailure.{BootFailure}
use Rattle.tq_coord.specs.declared.failure.BootFailure.TheVariants as boots
use Rattle.tq_coord.specs.Counts.{CountsBoot}
use Rattle.tq_run.specs.Standing.{HasTurned}
use Rattle.tq_run.proofs.BootTurnLemmas.{quiet_stop, booted_turn, damaged_turned, failed_turn}
use Rattle.tq_run.proofs.RespondLemmas.{turning}
use Rattle.tq_run.proofs.responding.reboot.Given.{Over}
use Rattle.tq_run.proofs.responding.reboot.Goals as goal
use Rattle.tq_run.proofs.responding.reboot.Goals.{After-boot}

-- the count after a boot that ended so
counted : (g : Over) (c : After-boot g) (r : Result Manager BootFailure) → c.boot.result ≡ r → CountsBoot r (g.H.Host.view c.args.host.now).faults (g.H.Host.view c.boot.new.host).faults
counted g c r is = subst (λ (x : Result Manager BootFailure). CountsBoot x (g.H.Host.view c.args.host.now).faults (g.H.Host.view c.boot.new.host).faults) is c.boot.ensures.failed

pub returns-in-Ok-clause-turned : goal.returns-in-Ok-clause-turned
returns-in-Ok-clause-turned g c = λ t.
    let old = g.H.Host.view c.args.host.now in
    let new = g.H.Host.view c.boot.new.host in
    subst (λ (a : Answer). HasTurned c.args.state.now (states.Up c.in-Ok.manager) Boot a old new) (sym c.readiness-answer.ensures)
    (booted_turn t old new (g.met.H.Host.lawful c.args.host.now) c.args.state.now (c.boot.ensures.stop t.reads) c.in-Ok.ensures.failed c.in-Ok.manager (c.in-Ok.ensures.booted t.reads) c.in-Ok.ensures.on)

pub returns-in-Ok-clause-stop : goal.returns-in-Ok-clause-stop
returns-in-Ok-clause-stop g c = λ t. turning (returns-in-Ok-clause-turned g c t)

pub returns-in-Err-Damaged-clause-turned : goal.returns-in-Err-Damaged-clause-turned
returns-in-Err-Damaged-clause-turned g c = λ t.
    let is : c.boot.result ≡ Err boots.Damaged = search rules in
    damaged_turned t _ _ (g.met.H.Host.lawful c.args.host.now) c.args.state.now (c.boot.ensures.stop t.reads) (counted g (goal.at.returns-in-Err-Damaged-clause-turned g c).After-boot _ is) (c.boot.ensures.damaged is t.reads) (c.boot.ensures.settled is t.reads)

pub returns-in-Err-Damaged-clause-stop : goal.returns-in-Err-Damaged-clause-stop
returns-in-Err-Damaged-clause-stop g c = λ t. turning (returns-in-Err-Damaged-clause-turned g c t)

pub returns-in-Err-Device-clause-turned : goal.returns-in-Err-Device-clause-turned
returns-in-Err-Device-clause-turned g c = λ t.
    let is : c.boot.result ≡ Err boots.Device = search rules in
    failed_turn t _ _ (g.met.H.Host.lawful c.args.host.now) c.args.state.now (c.boot.ensures.stop t.reads) (counted g (goal.at.returns-in-Err-Device-clause-turned g c).After-boot _ is)

pub returns-in-Err-Device-clause-stop : goal.returns-in-Err-Device-clause-stop
returns-in-Err-Device-clause-stop g c = λ t. turning (returns-in-Err-Device-clause-turned g c t)

pub returns-in-Err-Memory-clause-stop : goal.returns-in-Err-Memory-clause-stop
returns-in-Err-Memory-clause-stop g c = λ t.
    let is : c.boot.result ≡ Err boots.Memory = search rules in
    quiet_stop t _ _ (g.met.H.Host.lawful c.args.host.now) c.args.state.now (c.boot.ensures.stop t.reads) (counted g (goal.at.returns-in-Err-Memory-clause-stop g c).After-boot _ is)
