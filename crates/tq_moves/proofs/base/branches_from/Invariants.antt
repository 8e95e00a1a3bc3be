use Rattle.std.proofs.Common.{◌≡◌}
use Rattle.tq_slots.specs.BaseForm.{slots_from}
use Rattle.tq_slots.specs.RecordForm.{branch_slot}
use Rattle.tq_moves.proofs.base.branches_from.Given as goal

abbrev pub invariant-loop-i : goal.invariant-loop-i
invariant-loop-i l = l.slots.items ≡ slots_from branch_slot 160 l.i l.at l.bytes
