use Rattle.std.proofs.Common.{◌≡◌, replicate, None}
use Rattle.tq_machine.proofs.machine.blank_devices.Given as goal

abbrev pub invariant-loop-at : goal.invariant-loop-at
invariant-loop-at l = l.blank.items ≡ replicate l._at None
