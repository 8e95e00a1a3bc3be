use Rattle.tq_model.specs.Site.{entry_beside}
use Rattle.tq_model.proofs.Maps.{mapped-more}
use Rattle.tq_machine.proofs.device.remove_all.Goals as goal

pub loop-at-preserved : goal.loop-at-preserved
loop-at-preserved c =
    mapped-more (entry_beside c.args.name.now) c.args.entries.now c.loop-at.entries c.loop-at.at c.index-entries-at.result c.remove_entry.new.entry c.loop-at-test.true c.loop-at.auto.entries c.loop-at.invariant c.remove_entry.ensures
