use Rattle.std.proofs.Common.{◌≡◌, length}
use Rattle.tq_slots.specs.MessageForm.{arrivals_at}
use Rattle.tq_moves.proofs.messages.path_at.Given as goal

abbrev pub invariant-loop-i : goal.invariant-loop-i
invariant-loop-i l = record {
  read : l.path ≡ arrivals_at l.i l.at l.bytes;
  size : length l.path ≡ l.i;
}
