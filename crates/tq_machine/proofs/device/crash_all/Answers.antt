use Rattle.std.proofs.Common.{option_map}
use Rattle.tq_model.specs.Site.{durable_space}
use Rattle.tq_model.proofs.Maps.{mapped-more}
use Rattle.tq_machine.proofs.device.crash_all.Goals as goal

pub loop-at-preserved : goal.loop-at-preserved
loop-at-preserved c =
    mapped-more (option_map durable_space) c.args.entries.now c.loop-at.entries c.loop-at.at c.index-entries-at.result c.crash_entry.new.entry c.loop-at-test.true c.loop-at.auto.entries c.loop-at.invariant c.crash_entry.ensures
