use Rattle.std.proofs.Common.{◌≡◌, ◌+◌, ◌*◌, ◌++◌, length, take}
use Rattle.std.specs.List.{flat_map, AllByRecursion}
use Rattle.tq_slots.specs.BaseForm.{message_slot_spelt}
use Rattle.tq_slots.specs.Fields.{AreFields}
use Rattle.tq_slots.specs.RecordForm.{message_fields}
use Rattle.tq_moves.proofs.base.put_messages.Given as goal

abbrev pub invariant-loop-message : goal.invariant-loop-message
invariant-loop-message l = record {
  place : l.end ≡ l.at + 64 * l.message-index;
  front : take l.end l.into ≡ take l.at l.fn.into ++ flat_map message_slot_spelt (take l.message-index l.messages);
  ranges : AllByRecursion (λ m. AreFields (message_fields m)) (take l.message-index l.messages);
  size : length l.into ≡ length l.fn.into;
}
