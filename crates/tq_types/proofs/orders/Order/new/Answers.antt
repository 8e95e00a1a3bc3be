use Rattle.std.proofs.Common.{arith}
use Rattle.tq_types.proofs.Distinct.{length-distinct}
use Rattle.tq_types.proofs.orders.Order.new.Goals as goal

pub new-requires : goal.new-requires
new-requires c = length-distinct _ (λ i j lt below. c.loop-at.invariant i j lt (omega arith))
