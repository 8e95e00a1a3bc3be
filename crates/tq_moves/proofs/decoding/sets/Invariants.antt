use Rattle.std.proofs.Common.{◌≡◌, ◌-◌, ◌+◌, ◌≤◌, length}
use Rattle.tq_slots.specs.RecordForm.{sets_in}
use Rattle.tq_moves.proofs.SetLemmas.{with_front}
use Rattle.tq_moves.proofs.decoding.sets.Given as goal

abbrev pub invariant-loop : goal.invariant-loop
invariant-loop l = record {
  read : with_front l.sets.items (sets_in (l.count - l.counter) l.least (l.at + (length l.bytes - length l.rest)) l.rest) ≡ sets_in l.count 65536 l.at l.bytes;
  left : length l.rest ≤ length l.bytes;
}
