use Rattle.std.proofs.Common.{length, subst, sym}
use Rattle.tq_extent.proofs.BytesLemmas.{reaches_extents}
use Rattle.tq_devtab.specs.Table.{AreReached}
use Rattle.tq_devtab.specs.Volume.{most_bytes}
use Rattle.tq_devtab.proofs.reserved.Reserved.end.Goals as goal

pub returns-clause-reach : goal.returns-clause-reach
returns-clause-reach c = λ image long.
    reaches_extents c.args.self.now.entry.extents image
    (subst (AreReached (length image)) c.as_slice.ensures (c.end_of.ensures.reach (length image) long))

pub returns-clause-most : goal.returns-clause-most
returns-clause-most c = c.end_of.ensures.least most_bytes (subst (AreReached most_bytes) (sym c.as_slice.ensures) c.args.self.now.within)
