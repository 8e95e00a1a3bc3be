use Rattle.std.proofs.Common.{◌≡◌, ◌+◌, ◌*◌, ◌++◌, length, take}
use Rattle.std.specs.List.{flat_map, AllByRecursion}
use Rattle.tq_slots.specs.BaseForm.{queue_slot_spelt}
use Rattle.tq_slots.specs.Fields.{AreFields}
use Rattle.tq_slots.specs.RecordForm.{queue_fields}
use Rattle.tq_moves.proofs.base.put_queues.Given as goal

abbrev pub invariant-loop-queue : goal.invariant-loop-queue
invariant-loop-queue l = record {
  place : l.end ≡ l.at + 512 * l.queue-index;
  front : take l.end l.into ≡ take l.at l.fn.into ++ flat_map queue_slot_spelt (take l.queue-index l.queues);
  ranges : AllByRecursion (λ q. AreFields (queue_fields q)) (take l.queue-index l.queues);
  size : length l.into ≡ length l.fn.into;
}
