-- What a move makes of slots and chains in memory, and what is to be written of it.
use Rattle.std.specs.Prelude.{◌≡◌, ◌<◌, ℕ, List, Option, Some}
use Rattle.std.specs.List.{position}
use Rattle.tq_types.specs.Label.{arrival_cmp}
use Rattle.tq_types.specs.declared.identifiers.MsgId.{MsgId}
use Rattle.tq_types.specs.declared.messages.Entry.{Entry as HeldEntry}
use Rattle.tq_model.specs.declared.space.QueueDef.{QueueDef}
use Rattle.tq_model.specs.Moves.{entry_view, message_view, session_owners}
use Rattle.tq_pages.specs.Store.{Store, HasAdded, size_of}
use Rattle.tq_slots.specs.declared.record.Set.TheVariants as sets
use Rattle.tq_slots.specs.MessageForm.{header_of, message_spelt}
use Rattle.tq_slots.specs.MessageSlots.{UsedSlot, arrival_of, slot_arrival, slot_of}
use Rattle.tq_slots.specs.QueueForm.{slot_of_queue}
use Rattle.tq_slots.specs.SlotImages.{RawSlots, raw_of, slots_in, with_set}
use Rattle.tq_slots.specs.SlotTable.{has_key, lowest_empty}
use Rattle.tq_store.specs.Stored.{IsUsedAt}

-- the slot of an entry whose chain begins at that page
abbrev pub entry_slot : ℕ → HeldEntry → UsedSlot
entry_slot first e = slot_of first (record { queue = e.queue; entry = entry_view session_owners e })

-- the slots with what one of a message says
abbrev pub with_message : ℕ → Option UsedSlot → RawSlots → RawSlots
with_message index u raw = with_set (sets.Message index (raw_of u)) raw

-- the slots after each kind of move
abbrev pub slots_with_entry : ℕ → HeldEntry → RawSlots → RawSlots
slots_with_entry first e raw = with_message (lowest_empty (slots_in raw)) (Some (entry_slot first e)) raw

abbrev pub slots_with_queue : ℕ → QueueDef → RawSlots → RawSlots
slots_with_queue index d raw = with_set (sets.Queue index (slot_of_queue d)) raw

-- the bytes of a message on its pages
abbrev pub message_of : HeldEntry → List ℕ
message_of e = message_spelt (header_of e.label (message_view e.message)) e.message.body

-- the arrival of an entry has the bytes for what it says
pub record HasArrival (e : HeldEntry) : Type 0 where
  pub epoch : e.message.id.epoch < 4294967296
  pub number : e.message.id.number < 4294967296

-- the slot of the entry of that identifier
pub record HasSlotAt (id : MsgId) (raw : RawSlots) (index : ℕ) (m : UsedSlot) : Type 0 where
  pub place : position (has_key arrival_cmp slot_arrival (arrival_of id)) (slots_in raw) ≡ Some index
  pub at : IsUsedAt raw index m

-- the chain of the slot's message is no more
abbrev pub HasReleased : Store → UsedSlot → Store → Type 0
HasReleased old m new = HasAdded new m.first (size_of old m.first) old
