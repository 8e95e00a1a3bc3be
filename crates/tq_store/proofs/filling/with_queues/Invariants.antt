use Rattle.std.proofs.Common.{take}
use Rattle.tq_store.specs.Filling.{HasQueues}
use Rattle.tq_store.proofs.filling.with_queues.Given as goal

-- the queues of the slots so far
abbrev pub invariant-loop-index : goal.invariant-loop-index
invariant-loop-index l = HasQueues l.place.site l.place.number l.shape (take l.index l.queues) l.space.held
