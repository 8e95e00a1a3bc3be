use Rattle.std.proofs.Common.{◌≡◌, true, drop}
use Rattle.std.specs.List.{list_all}
use Rattle.tq_slots.specs.SlotImages.{with_record}
use Rattle.tq_slots.specs.SpaceReading.{has_place}
use Rattle.tq_store.proofs.slots.put_sets.Given as goal

-- the sets that are left have their places, and make of the slots what all make of the first ones
abbrev pub invariant-loop-set : goal.invariant-loop-set
invariant-loop-set l = record {
  places : list_all (has_place l.slots) (drop l.set-index l.sets) ≡ true;
  left : with_record (drop l.set-index l.sets) l.slots ≡ with_record l.sets l.fn.slots;
}
