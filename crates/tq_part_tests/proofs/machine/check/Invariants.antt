use Rattle.std.proofs.Common.{◌≤◌}
use Rattle.tq_part_tests.proofs.machine.check.Given as goal

abbrev pub invariant-loop-line : goal.invariant-loop-line
invariant-loop-line g l = l.machine.next ≤ l.line-index
