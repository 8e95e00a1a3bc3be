use Rattle.tq_types.proofs.Filled.{padded}
use Rattle.tq_types.proofs.xids.Part.new.Goals as goal

pub invariant_of-result : goal.invariant_of-result
invariant_of-result c = rw c.copy_from_slice.ensures.after (padded 64 0 _ c.requires)
