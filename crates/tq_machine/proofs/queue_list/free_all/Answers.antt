use Rattle.std.proofs.Common.{get_or, refl}
use Rattle.tq_machine.specs.Entries.{free_entry}
use Rattle.tq_model.proofs.Maps.{mapped-more}
use Rattle.tq_machine.proofs.queue_list.free_all.Goals as goal

pub loop-at-preserved : goal.loop-at-preserved
loop-at-preserved c =
    mapped-more free_entry c.args.items.now c.loop-at.items c.loop-at.at c.index-items-at.result (free_entry (get_or c.loop-at.items c.loop-at.at c.index-items-at.result))
    c.loop-at-test.true c.loop-at.auto.items c.loop-at.invariant refl
