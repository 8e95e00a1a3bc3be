use Rattle.std.proofs.Common.{◌∙◌, sym}
use Rattle.tq_devtab.proofs.SpaceLemmas.{next-unused}
use Rattle.tq_devtab.proofs.spaces.has_unused.Goals as goal

pub returns-then-is_none : goal.returns-then-is_none
returns-then-is_none c =
    sym (next-unused c.args.entries.now c.loop-entry.entry-index c.entry-item.result c.loop-entry-test.true c.entry-item.is c.if-is_none.ensures)
    ∙ c.loop-entry.invariant
