use Rattle.std.proofs.Common.{arith, ap}
use Rattle.tq_model.specs.Site.{Site}
use Rattle.tq_model.proofs.NextNumber.{step-next}
use Rattle.tq_machine.proofs.OptionLemmas.{either-way}
use Rattle.tq_tests.proofs.runs.serial.Serial.step.Goals as goal

pub invariant_of-self : goal.invariant_of-self
invariant_of-self c =
    either-way c.step.result c.step.ensures.site c.step.ensures.unchanged
    (λ done. omega (arith, c.args.self.now.taken, ap (λ (s : Site). s.next) done, step-next c.args.self.now.machine c.args.request.now))
    (λ same. omega (arith, c.args.self.now.taken, ap (λ (s : Site). s.next) same))
