use Rattle.std.proofs.Common.{◌≡◌, ◌++◌, map, take, drop}
use Rattle.tq_model.specs.Space.{purged_queue}
use Rattle.tq_machine.proofs.space_lists.purge_all.Given as goal

abbrev pub invariant-loop-at : goal.invariant-loop-at
invariant-loop-at l = l.queues ≡ map (purged_queue l.clock) (take l.at l.initial.queues) ++ drop l.at l.initial.queues
