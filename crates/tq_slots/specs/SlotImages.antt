-- The slots of a space as they stand on its device, what they say in the law of slots, and the record that makes others of them.
use Rattle.std.specs.Prelude.{◌≡◌, ◌≤◌, ◌+◌, ◌==◌, ℕ, Bool, true, if◌then◌else◌, List, [], ◌∷◌, ◌++◌, length, map, replicate, Option, Some, None, slice_set, slice_index_or}
use Rattle.tq_types.specs.declared.identifiers.Arrival.{Arrival}
use Rattle.tq_model.specs.declared.space.QueueDef.{QueueDef}
use Rattle.tq_model.specs.Moves.{IndexedSpace}
use Rattle.tq_model.specs.Space.{Entry}
use Rattle.tq_slots.specs.declared.record.MessageSlot.{MessageSlot}
use Rattle.tq_slots.specs.declared.record.QueueSlot.{QueueSlot}
use Rattle.tq_slots.specs.declared.record.BranchSlot.{BranchSlot}
use Rattle.tq_slots.specs.declared.record.Set.{Set}
use Rattle.tq_slots.specs.declared.record.Set.TheVariants as sets
use Rattle.tq_slots.specs.MessageForm.{bit_of, top_bit, has_bit, moment_or_zero, moment_where, is_free_slot, read_slot, slot_of_entry}
use Rattle.tq_slots.specs.QueueForm.{slot_of_queue, queue_of_slot, HasQueueSlot}
use Rattle.tq_slots.specs.MessageSlots.{UsedSlot, Slots, slot_of}
use Rattle.tq_slots.specs.QueueSlots.{QueueSlots, queue_slots_after}
use Rattle.tq_slots.specs.KeptEntries.{SpacePlan}
use Rattle.tq_slots.specs.SlotsAfter.{slots_after}
use Rattle.tq_slots.specs.SlotSets.{sets_between}
use Rattle.tq_slots.specs.RecordForm.{AreAscending}

pub record RawSlots : Type 0 where
  pub queues : List QueueSlot
  pub messages : List MessageSlot
  pub branches : List BranchSlot

-- Reading

abbrev pub used_in : MessageSlot → UsedSlot
used_in s =
    record {
      queue = s.queue;
      root = record {
        top = has_bit 1 s.bits;
        priority = s.root_priority;
        available = s.root_available;
        expiration = moment_where (has_bit 4 s.bits) s.root_expiration;
        arrival = record { epoch = s.root_epoch; number = s.root_number };
      };
      numbers = s.numbers;
      priority = s.priority;
      available = s.available;
      expiration = moment_where (has_bit 2 s.bits) s.expiration;
      retries = s.retries;
      arrival = record { epoch = s.epoch; number = s.number };
      first = s.first;
    }

-- what a slot says where it is not empty; its limits are judged elsewhere
abbrev pub used_of : MessageSlot → Option UsedSlot
used_of s = if s.mark == 0 then None else Some (used_in s)

abbrev pub slots_in : RawSlots → Slots
slots_in raw = map used_of raw.messages

abbrev pub queue_slots_in : RawSlots → QueueSlots
queue_slots_in raw = map queue_of_slot raw.queues

-- Writing

-- the slot that says this of a Free message, and the empty one
abbrev pub raw_of : Option UsedSlot → MessageSlot
raw_of None =
    record {
      mark = 0;
      branch = 0;
      queue = 0;
      bits = 0;
      priority = 0;
      root_priority = 0;
      numbers = 0;
      retries = 0;
      first = 0;
      epoch = 0;
      number = 0;
      available = 0;
      expiration = 0;
      root_available = 0;
      root_expiration = 0;
      root_epoch = 0;
      root_number = 0;
    }
raw_of (Some u) =
    record {
      mark = 1;
      branch = 0;
      queue = u.queue;
      bits = top_bit u.root.top + bit_of 2 u.expiration + bit_of 4 u.root.expiration;
      priority = u.priority;
      root_priority = u.root.priority;
      numbers = u.numbers;
      retries = u.retries;
      first = u.first;
      epoch = u.arrival.epoch;
      number = u.arrival.number;
      available = u.available;
      expiration = moment_or_zero u.expiration;
      root_available = u.root.available;
      root_expiration = moment_or_zero u.root.expiration;
      root_epoch = u.root.arrival.epoch;
      root_number = u.root.arrival.number;
    }

-- the slot of a queue, and the unused one
abbrev pub raw_queue : Option QueueDef → QueueSlot
raw_queue None =
    record {
      used = 0;
      name_length = 0;
      name = replicate 127 0;
      count = 0;
      criteria = replicate 3 0;
      last = 0;
      rights = 0;
      qos = 0;
      retries = 0;
      delay = 0;
    }
raw_queue (Some d) = slot_of_queue d

-- Records

abbrev pub with_set : Set → RawSlots → RawSlots
with_set (sets.Message index m) raw = record raw { messages = slice_set raw.messages index m }
with_set (sets.Queue index q) raw = record raw { queues = slice_set raw.queues index q }
with_set (sets.Branch index b) raw = record raw { branches = slice_set raw.branches index b }

-- the slots with the sets of a record applied, one after another
abbrev pub with_record : List Set → RawSlots → RawSlots
with_record [] raw = raw
with_record (s ∷ more) raw = with_record more (with_set s raw)

abbrev pub message_set : ℕ × Option UsedSlot → Set
message_set s = sets.Message s.0 (raw_of s.1)

abbrev pub queue_set : ℕ × Option QueueDef → Set
queue_set s = sets.Queue s.0 (raw_queue s.1)

-- the sets of the record that makes these slots of raw ones, by tests that tell slots apart
abbrev pub record_sets : (Option UsedSlot → Option UsedSlot → Bool) → (Option QueueDef → Option QueueDef → Bool) → RawSlots → Slots → QueueSlots → List Set
record_sets same alike raw slots queues =
    map message_set (sets_between same (slots_in raw) slots) ++ map queue_set (sets_between alike (queue_slots_in raw) queues)

-- These sets can stand in a record, and make slots that say this of the raw ones.
pub record MakeSlots (made : List Set) (raw : RawSlots) (slots : Slots) (queue_slots : QueueSlots) : Type 0 where
  pub ascending : AreAscending 65536 made
  pub few : length made ≤ length raw.messages + length raw.queues
  pub messages : slots_in (with_record made raw) ≡ slots
  pub queues : queue_slots_in (with_record made raw) ≡ queue_slots
  pub branches : (with_record made raw).branches ≡ raw.branches

-- The sets between the slots before and after a plan make those after it of those before, where each queue after it can be spelt.
abbrev pub RecordLaw : Type 0
RecordLaw =
    (same : Option UsedSlot → Option UsedSlot → Bool) (alike : Option QueueDef → Option QueueDef → Bool)
    (raw : RawSlots) (new : Arrival → ℕ) (p : SpacePlan) (s : IndexedSpace)
    → ((x y : Option UsedSlot) → same x y ≡ true → x ≡ y) → ((x y : Option QueueDef) → alike x y ≡ true → x ≡ y)
    → length raw.messages ≤ 65536
    → ((i : ℕ) (d : QueueDef) → slice_index_or (queue_slots_after p s (queue_slots_in raw)) i None ≡ Some d → HasQueueSlot d)
    → let slots = slots_after new p s (slots_in raw) in let queues = queue_slots_after p s (queue_slots_in raw) in
    MakeSlots (record_sets same alike raw slots queues) raw slots queues

-- The raw slot of an entry says what the law's slot of it does, and a slot of a Free message is the one that says what it says, in all
-- that is read of it.
abbrev pub RawLaw : Type 0
RawLaw =
    ((queue first : ℕ) (e : Entry) → slot_of_entry queue first e ≡ raw_of (Some (slot_of first (record { queue = queue; entry = e }))))
    × ((x : Option UsedSlot) → used_of (raw_of x) ≡ x)
    × ((m : MessageSlot) → is_free_slot m ≡ true → raw_of (used_of m) ≡ read_slot m)
