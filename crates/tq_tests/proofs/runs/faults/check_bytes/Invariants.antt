use Rattle.std.proofs.Common.{length}
use Rattle.tq_tests.proofs.runs.faults.check_bytes.Given as goal

abbrev pub decreases-loop-row : goal.decreases-loop-row
decreases-loop-row g l = length l.rest
