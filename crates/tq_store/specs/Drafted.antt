-- A change that is made in memory, and what is to be written of it.
use Rattle.std.specs.Prelude.{◌≡◌, ◌+◌, ◌*◌, ◌≤◌, ℕ, true, false, [], length, Some, None}
use Rattle.tq_types.specs.declared.identifiers.MsgId.{MsgId}
use Rattle.tq_types.specs.declared.messages.Entry.{Entry as HeldEntry}
use Rattle.tq_gate.specs.declared.log.GateLog.{GateLog}
use Rattle.tq_gate.specs.Frame.{IsFrame, payload_in}
use Rattle.tq_gate.specs.Log.{FitsIn}
use Rattle.tq_model.specs.declared.space.QueueDef.{QueueDef}
use Rattle.tq_model.specs.declared.space.Shape.{Shape}
use Rattle.tq_model.specs.declared.space.SpaceMove.{SpaceMove}
use Rattle.tq_model.specs.Space.{slot_pages}
use Rattle.tq_pages.specs.Store.{Store, HasAdded, IsStore}
use Rattle.tq_slots.specs.MessageForm.{header_size}
use Rattle.tq_slots.specs.MessageSlots.{UsedSlot}
use Rattle.tq_slots.specs.SlotImages.{RawSlots}
use Rattle.tq_slots.specs.SpaceReading.{base_slots}
use Rattle.tq_store.specs.declared.changing.Change.{Change}
use Rattle.tq_space.specs.declared.plans.Plan.{Plan}
use Rattle.tq_store.specs.Change.{IsChange, IsRecordOf}
use Rattle.tq_store.specs.Commit.{CanLast, IsDone}
use Rattle.tq_store.specs.File.{FileState, IsSound}
use Rattle.tq_store.specs.Draft.{HasArrival, HasReleased, HasSlotAt, message_of, slots_with_entry, slots_with_queue, with_message}

-- Where the log has no room for a payload of so many bytes, there is a base of the slots; an empty log has room.
pub record FitsLog (shape : Shape) (log : GateLog) (raw : RawSlots) (size : ℕ) (c : Change) : Type 0 where
  pub small : size ≤ 518
  pub room : c.full ≡ false → FitsIn log size
  pub base_size : c.full ≡ true → length c.base.items ≡ 1024 * slot_pages shape
  pub base : c.full ≡ true → base_slots shape c.base.items ≡ Some raw

-- the record makes these slots of those, and there is room for it
pub record IsWritten (shape : Shape) (log : GateLog) (old new : RawSlots) (c : Change) : Type 0 where
  pub frame : IsFrame c.frame.items
  pub fits : FitsLog shape log old (length (payload_in c.frame.items)) c
  pub record_is : IsRecordOf old new (payload_in c.frame.items)

-- a message came
pub record HasCome (shape : Shape) (log : GateLog) (old new : RawSlots) (store store' : Store) (e : HeldEntry) (c : Change) : Type 0 where
  pub slots : new ≡ slots_with_entry c.first e old
  pub sound : IsStore store'
  pub added : HasAdded store c.first (header_size + length e.message.body) store'
  pub message : c.message.items ≡ message_of e
  pub arrival : HasArrival e
  pub written : IsWritten shape log old new c

-- a message went
pub record HasGone (shape : Shape) (log : GateLog) (old new : RawSlots) (store store' : Store) (id : MsgId) (c : Change) : Type 0 where
  pub index : ℕ
  pub slot : UsedSlot
  pub there : HasSlotAt id old index slot
  pub slots : new ≡ with_message index None old
  pub sound : IsStore store'
  pub released : HasReleased store slot store'
  pub message : c.message.items ≡ []
  pub written : IsWritten shape log old new c

-- a queue was made
pub record IsMade (shape : Shape) (log : GateLog) (old new : RawSlots) (index : ℕ) (queue : QueueDef) (c : Change) : Type 0 where
  pub slots : new ≡ slots_with_queue index queue old
  pub message : c.message.items ≡ []
  pub written : IsWritten shape log old new c

-- a sound space with these parts, in which the move can be made
pub record IsFileOf (f : FileState) (shape : Shape) (log : GateLog) (raw : RawSlots) (store : Store) (move : SpaceMove) : Type 0 where
  pub sound : IsSound f
  pub shape_is : f.shape ≡ shape
  pub log_is : f.log ≡ log
  pub raw_is : f.raw ≡ raw
  pub store_is : f.store ≡ store
  pub can : CanLast move f.space

-- Memory has the space after the plan; what is written then makes it so on the device.
pub record IsReady (old new : FileState) (plan : Plan) (c : Change) : Type 0 where
  pub done : IsDone plan old new
  pub log : new.log ≡ old.log
  pub change : IsChange old new.space new.raw new.store c.first c.message.items (payload_in c.frame.items)
  pub written : IsWritten old.shape old.log old.raw new.raw c
