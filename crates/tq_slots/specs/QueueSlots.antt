-- Queue slots: the queue of each index. With the message slots and the chains they stand for the queues of a space.
use Rattle.std.specs.Prelude.{◌≡◌, ◌+◌, ◌==◌, ℕ, Bool, if◌then◌else◌, List, [], ◌∷◌, map, filter, Option, Some, None, is_some, option_map, slice_set}
use Rattle.std.specs.Prelude.{slice_index_or}
use Rattle.std.specs.List.{find, filter_map, flat_map, list_all}
use Rattle.std.specs.Str.{bytes_eq}
use Rattle.tq_model.specs.declared.space.QueueDef.{QueueDef}
use Rattle.tq_model.specs.declared.space.SpaceMove.{SpaceMove}
use Rattle.tq_model.specs.declared.space.SpaceMove.TheVariants.{Insert, Remove, Replace, PutQueue, DropQueue}
use Rattle.tq_model.specs.Space.{Entry, Queue, crashed_queue}
use Rattle.tq_model.specs.Moves.{IndexedQueue, IndexedSpace, has_index, on_queue, queue_added}
use Rattle.tq_model.specs.Reading.{hold_all, no_two}
use Rattle.tq_slots.specs.SlotTable.{each}
use Rattle.tq_slots.specs.MessageSlots.{IndexedEntry, UsedSlot, Slots, Chains, same_arrival, says}
use Rattle.tq_slots.specs.KeptEntries.{SpacePlan, space_after}
use Rattle.tq_slots.specs.SpaceOrder.{by_label, in_order}

abbrev pub QueueSlots : Type 0
QueueSlots = List (Option QueueDef)

-- a queue without its entries
abbrev pub def_of : Queue → QueueDef
def_of q = record { name = q.name; order = q.order; top = q.top; before = q.before; qos = q.qos; retries = q.retries; delay = q.delay }

abbrev pub the_def : IndexedQueue → QueueDef
the_def q = def_of q.queue

abbrev pub def_at : ℕ → List IndexedQueue → Option QueueDef
def_at index queues = option_map the_def (find (has_index index) queues)

-- the slots have the queue of each index
abbrev pub HaveQueues : QueueSlots → List IndexedQueue → Type 0
HaveQueues slots queues = (i : ℕ) → slice_index_or slots i None ≡ def_at i queues

-- After a plan

abbrev pub queues_named : SpaceMove → List ℕ
queues_named (Insert e) = []
queues_named (Remove id) = []
queues_named (Replace c) = []
queues_named (PutQueue index d) = index ∷ []
queues_named (DropQueue index) = index ∷ []

-- the slots of the queues that the plan names have those queues as they are after it
abbrev pub queue_slots_after : SpacePlan → IndexedSpace → QueueSlots → QueueSlots
queue_slots_after p s slots = each (λ i t. slice_set t i (def_at i (space_after p s).queues)) (flat_map queues_named p.moves) slots

-- What all the slots stand for

abbrev pub used_slots : {S : Type 0} → List (Option S) → List S
used_slots slots = filter_map (λ slot. slot) slots

abbrev pub have_one_name : QueueDef → QueueDef → Bool
have_one_name d e = bytes_eq d.name e.name

abbrev pub have_one_arrival : UsedSlot → UsedSlot → Bool
have_one_arrival s t = same_arrival s.arrival t.arrival

abbrev pub names_used_queue : QueueSlots → UsedSlot → Bool
names_used_queue queue_slots s = is_some (slice_index_or queue_slots s.queue None)

-- queues of different names; messages of different arrivals, in queues that are used, each with its own chain
abbrev pub slots_tests : ℕ → ℕ → QueueSlots → Slots → Chains → List Bool
slots_tests site number queue_slots slots chains =
    no_two have_one_name (used_slots queue_slots)
    ∷ no_two have_one_arrival (used_slots slots)
    ∷ list_all (names_used_queue queue_slots) (used_slots slots)
    ∷ list_all (λ s. is_some (says site number chains s)) (used_slots slots)
    ∷ []

-- the queues of the slots from that index on, without entries, ascending by name
abbrev pub queues_from : ℕ → QueueSlots → List IndexedQueue
queues_from index [] = []
queues_from index (None ∷ slots) = queues_from (index + 1) slots
queues_from index (Some d ∷ slots) = queue_added index d (queues_from (index + 1) slots)

-- what the slots and their chains say, in the order of the slots
abbrev pub entries_said : ℕ → ℕ → Chains → Slots → List IndexedEntry
entries_said site number chains slots = filter_map (says site number chains) (used_slots slots)

abbrev pub is_in_queue : ℕ → IndexedEntry → Bool
is_in_queue index e = e.queue == index

abbrev pub the_entry : IndexedEntry → Entry
the_entry e = e.entry

abbrev pub entries_of : ℕ → List IndexedEntry → List Entry
entries_of index entries = map the_entry (filter (is_in_queue index) entries)

-- a queue with its entries in the order of their labels
abbrev pub filled_queue : List IndexedEntry → IndexedQueue → IndexedQueue
filled_queue entries q = record q { queue = record q.queue { items = in_order (by_label q.queue.order) (entries_of q.index entries) } }

-- the queues that slots and chains stand for, or none where a test fails
abbrev pub queues_read : ℕ → ℕ → QueueSlots → Slots → Chains → Option (List IndexedQueue)
queues_read site number queue_slots slots chains =
    if hold_all (slots_tests site number queue_slots slots chains)
    then Some (map (filled_queue (entries_said site number chains slots)) (queues_from 0 queue_slots))
    else None

abbrev pub crashed_queues : List IndexedQueue → List IndexedQueue
crashed_queues queues = map (on_queue crashed_queue) queues
