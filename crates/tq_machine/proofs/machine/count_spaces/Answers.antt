use Rattle.std.proofs.Common.{◌∙◌, ◌+◌, sym, ap, length, arith, Option}
use Rattle.tq_model.specs.Site.{Volume}
use Rattle.tq_machine.specs.Tables.{device_spaces}
use Rattle.tq_machine.proofs.Sites.{spaces-more}
use Rattle.tq_machine.proofs.machine.count_spaces.Goals as goal

pub loop-device-preserved : goal.loop-device-preserved
loop-device-preserved c = (
  (λ i. c.loop-device.invariant.0 i + (c.count_in-count.ensures.count ∙ ap (λ (d : Option Volume). length (device_spaces d)) c.device-item.is) i)
      ∙ sym (spaces-more c.args.devices.now c.loop-device.device-index c.device-item.result c.loop-device-test.true),
  omega (arith, c.loop-device.invariant.1, c.count_in-count.ensures.most),
)
