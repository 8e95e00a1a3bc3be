use Rattle.std.proofs.Common.{option_map}
use Rattle.tq_model.proofs.Maps.{mapped-more}
use Rattle.tq_machine.specs.Tables.{without_named}
use Rattle.tq_machine.proofs.machine.remove_all.Goals as goal

pub loop-at-preserved : goal.loop-at-preserved
loop-at-preserved c =
    mapped-more (option_map (without_named c.args.name.now)) c.args.devices.now c.loop-at.devices c.loop-at.at c.index-devices-at.result c.remove_in.new.device
    c.loop-at-test.true c.loop-at.auto.devices c.loop-at.invariant c.remove_in.ensures
