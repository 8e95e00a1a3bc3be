-- The slots of a space in memory.
use Rattle.std.specs.Prelude.{◌≤◌, map, length, vec_capacity}
use Rattle.tq_slots.specs.SlotImages.{RawSlots, used_of}
use Rattle.tq_slottable.specs.declared.table.SlotTable.TheInside.{Inside}
use Rattle.tq_slottable.specs.Places.{AreUsedPlaces, AreEmptyPlaces}

abbrev pub table_view : Inside → RawSlots
table_view t = record { queues = t.queues.items; messages = t.messages.items; branches = t.branches.items }

-- the message slots are listed by their arrivals, or as empty, and there is room for each in either list
pub record IsTable (t : Inside) : Type 0 where
  pub few : length t.messages.items ≤ 65536
  pub used : AreUsedPlaces (map used_of t.messages.items) t.used.items
  pub empty : AreEmptyPlaces (map used_of t.messages.items) 0 t.empty.items
  pub used_room : length t.messages.items ≤ vec_capacity t.used
  pub empty_room : length t.messages.items ≤ vec_capacity t.empty
