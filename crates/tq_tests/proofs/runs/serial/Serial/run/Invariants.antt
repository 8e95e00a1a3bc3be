use Rattle.std.proofs.Common.{length}
use Rattle.tq_tests.proofs.runs.serial.Serial.run.Given as goal

abbrev pub decreases-loop-line : goal.decreases-loop-line
decreases-loop-line l = length l.rest
