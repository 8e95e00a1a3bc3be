use Rattle.std.proofs.Common.{◌≤◌, map, take, length, vec_capacity}
use Rattle.tq_slots.specs.SlotImages.{used_of}
use Rattle.tq_slottable.specs.Places.{AreListedPlaces}
use Rattle.tq_slottable.proofs.places.used_places.Given as goal

abbrev pub invariant-loop-index : goal.invariant-loop-index
invariant-loop-index l = record {
  listed : AreListedPlaces (take l.index (map used_of l.messages)) l.used.items;
  room : length l.messages ≤ vec_capacity l.used;
}
