use Rattle.tq_model.specs.Space.{purged_queue}
use Rattle.tq_model.proofs.Maps.{mapped-more}
use Rattle.tq_machine.proofs.space_lists.purge_all.Goals as goal

pub loop-at-preserved : goal.loop-at-preserved
loop-at-preserved c =
    mapped-more (purged_queue c.args.clock) c.args.queues.now c.loop-at.queues c.loop-at.at c.index-queues-at.result c.purge.new.self c.loop-at-test.true c.loop-at.auto.queues c.loop-at.invariant c.purge.ensures
