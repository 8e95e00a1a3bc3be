use Rattle.std.proofs.Common.{arith, ap}
use Rattle.tq_model.specs.Site.{Site}
use Rattle.tq_model.proofs.NextNumber.{step-next}
use Rattle.tq_machine.proofs.OptionLemmas.{either-way}
use Rattle.tq_part_tests.proofs.machine.ask.Goals as goal

pub returns : goal.returns
returns c =
    either-way c.step.result c.step.ensures.site c.step.ensures.unchanged
    (λ done. omega (arith, ap (λ (s : Site). s.next) done, step-next c.args.machine.now c.args.request.now))
    (λ same. omega (arith, ap (λ (s : Site). s.next) same))
