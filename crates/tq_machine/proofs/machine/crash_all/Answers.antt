use Rattle.std.proofs.Common.{option_map}
use Rattle.tq_model.specs.Site.{durable_space, on_spaces}
use Rattle.tq_model.proofs.Maps.{mapped-more}
use Rattle.tq_machine.proofs.machine.crash_all.Goals as goal

pub loop-at-preserved : goal.loop-at-preserved
loop-at-preserved c =
    mapped-more (option_map (on_spaces durable_space)) c.args.devices.now c.loop-at.devices c.loop-at.at c.index-devices-at.result c.crash_device.new.device
    c.loop-at-test.true c.loop-at.auto.devices c.loop-at.invariant c.crash_device.ensures
