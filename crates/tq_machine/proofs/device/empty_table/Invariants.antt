use Rattle.std.proofs.Common.{◌≡◌, replicate, None}
use Rattle.tq_machine.proofs.device.empty_table.Given as goal

abbrev pub invariant-loop-at : goal.invariant-loop-at
invariant-loop-at l = l.entries.items ≡ replicate l._at None
