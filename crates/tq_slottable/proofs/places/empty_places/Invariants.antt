use Rattle.std.proofs.Common.{◌≤◌, map, length, vec_capacity}
use Rattle.tq_slots.specs.SlotImages.{used_of}
use Rattle.tq_slottable.specs.Places.{AreEmptyPlaces}
use Rattle.tq_slottable.proofs.places.empty_places.Given as goal

abbrev pub invariant-loop-from : goal.invariant-loop-from
invariant-loop-from l = record {
  within : l.from ≤ length l.messages;
  listed : AreEmptyPlaces (map used_of l.messages) l.from l.empty.items;
  room : length l.messages ≤ vec_capacity l.empty;
}

abbrev pub decreases-loop-from : goal.decreases-loop-from
decreases-loop-from l = l.from
