use Rattle.std.proofs.Common.{◌≡◌, ◌++◌, map, take, drop}
use Rattle.tq_model.specs.Space.{crashed_queue}
use Rattle.tq_machine.proofs.space_lists.crash_all.Given as goal

abbrev pub invariant-loop-at : goal.invariant-loop-at
invariant-loop-at l = l.queues ≡ map crashed_queue (take l.at l.initial.queues) ++ drop l.at l.initial.queues
