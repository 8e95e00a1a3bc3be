use Rattle.tq_types.specs.Order.{AreDistinctBelow}
use Rattle.tq_types.proofs.orders.Order.new.Given as goal

abbrev pub invariant-loop-at : goal.invariant-loop-at
invariant-loop-at l = AreDistinctBelow l.criteria l.at
