-- The base of a space: a mark, and from byte 64 on the slots of its queues, its messages and its branches.
use Rattle.std.specs.Prelude.{ℕ, zero, suc, ◌+◌, ◌*◌, Bool, List, [], ◌∷◌, ◌++◌, length, codes}
use Rattle.std.specs.List.{flat_map, AllByRecursion}
use Rattle.std.specs.Str.{bytes_eq}
use Rattle.tq_field.specs.Places.{run_at}
use Rattle.tq_model.specs.Space.{divided_up}
use Rattle.tq_slots.specs.declared.record.MessageSlot.{MessageSlot}
use Rattle.tq_slots.specs.declared.record.QueueSlot.{QueueSlot}
use Rattle.tq_slots.specs.declared.record.BranchSlot.{BranchSlot}
use Rattle.tq_slots.specs.Fields.{fields_spelt, AreFields}
use Rattle.tq_slots.specs.RecordForm.{message_fields, queue_fields, branch_fields, message_slot, queue_slot, branch_slot}
use Rattle.tq_slots.specs.MessageForm.{filled}
use Rattle.tq_slots.specs.SlotImages.{RawSlots}

-- Places

-- the bytes of a base with so many queues, messages and branches: whole pages
abbrev pub base_length : ℕ → ℕ → ℕ → ℕ
base_length q m t = 1024 * divided_up (64 + 512 * q + 64 * m + 160 * t) 1024

-- where the messages begin behind so many queues, and the branches behind them
abbrev pub messages_start : ℕ → ℕ
messages_start q = 64 + 512 * q

abbrev pub branches_start : ℕ → ℕ → ℕ
branches_start q m = 64 + 512 * q + 64 * m

-- Reading

abbrev pub has_base_mark : List ℕ → Bool
has_base_mark bytes = bytes_eq (run_at 0 4 bytes) (codes "TQSB")

-- what so many slots of that size say, one behind another from that place on
unfoldable pub slots_from : {X : Type 0} → (List ℕ → X) → ℕ → ℕ → ℕ → List ℕ → List X
slots_from read size zero at bytes = []
slots_from read size (suc n) at bytes = read (run_at at size bytes) ∷ slots_from read size n (at + size) bytes

-- the slots of a base with so many queues, messages and branches
abbrev pub raw_slots : ℕ → ℕ → ℕ → List ℕ → RawSlots
raw_slots q m t bytes =
    record {
      queues = slots_from queue_slot 512 q 64 bytes;
      messages = slots_from message_slot 64 m (messages_start q) bytes;
      branches = slots_from branch_slot 160 t (branches_start q m) bytes;
    }

-- Spelling: each byte that says nothing is 0.

abbrev pub queue_slot_spelt : QueueSlot → List ℕ
queue_slot_spelt q = fields_spelt (queue_fields q)

abbrev pub message_slot_spelt : MessageSlot → List ℕ
message_slot_spelt m = fields_spelt (message_fields m)

abbrev pub branch_slot_spelt : BranchSlot → List ℕ
branch_slot_spelt b = fields_spelt (branch_fields b)

abbrev pub slots_spelt : RawSlots → List ℕ
slots_spelt raw =
    filled 64 (codes "TQSB") ++ flat_map queue_slot_spelt raw.queues ++ flat_map message_slot_spelt raw.messages ++ flat_map branch_slot_spelt raw.branches

abbrev pub length_for : RawSlots → ℕ
length_for raw = base_length (length raw.queues) (length raw.messages) (length raw.branches)

-- a base with these slots
abbrev pub base_spelt : RawSlots → List ℕ
base_spelt raw = filled (length_for raw) (slots_spelt raw)

-- slots whose numbers have the bytes for what they say
pub record AreRawSlots (raw : RawSlots) : Type 0 where
  pub queues : AllByRecursion (λ q. AreFields (queue_fields q)) raw.queues
  pub messages : AllByRecursion (λ m. AreFields (message_fields m)) raw.messages
  pub branches : AllByRecursion (λ b. AreFields (branch_fields b)) raw.branches
