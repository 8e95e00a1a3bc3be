use Rattle.std.proofs.Common.{length}
use Rattle.tq_part_tests.proofs.grammar.misfits.Given as goal

abbrev pub decreases-loop-line : goal.decreases-loop-line
decreases-loop-line g l = length l.rest
