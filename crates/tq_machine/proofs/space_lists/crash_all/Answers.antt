use Rattle.tq_model.specs.Space.{crashed_queue}
use Rattle.tq_model.proofs.Maps.{mapped-more}
use Rattle.tq_machine.proofs.space_lists.crash_all.Goals as goal

pub loop-at-preserved : goal.loop-at-preserved
loop-at-preserved c =
    mapped-more crashed_queue c.args.queues.now c.loop-at.queues c.loop-at.at c.index-queues-at.result c.crash.new.self c.loop-at-test.true c.loop-at.auto.queues c.loop-at.invariant c.crash.ensures
