use Rattle.std.proofs.Common.{arith, sym, ◌∙◌}
use Rattle.tq_types.proofs.Ends.{goes_on, ends}
use Rattle.tq_types.proofs.labels.compare_paths.Goals as goal

pub returns-then-at-b : goal.returns-then-at-b
returns-then-at-b c = sym (c.loop-at.invariant.left ∙ goes_on c.args.a.now c.args.b.now c.loop-at.at (omega arith) (omega arith))

pub returns-then-a-b : goal.returns-then-a-b
returns-then-a-b c = sym (c.loop-at.invariant.left ∙ ends c.args.a.now c.args.b.now c.loop-at.at (omega arith) (omega arith))
