-- The law between plans and slots.
use Rattle.std.specs.Prelude.{◌≡◌, ◌≤◌, ◌<◌, ◌+◌, ℕ, true, false, List, [], ◌∷◌, map, length, replicate, Option, Some, None, is_some, slice_index_or}
use Rattle.std.specs.List.{list_any, sum_by}
use Rattle.std.specs.FinMap.{get, len}
use Rattle.tq_types.specs.declared.identifiers.Arrival.{Arrival}
use Rattle.tq_types.specs.Placed.{own_arrival}
use Rattle.tq_types.specs.declared.identifiers.MsgId.{MsgId}
use Rattle.tq_types.specs.declared.messages.Entry.{Entry as HeldEntry}
use Rattle.tq_model.specs.declared.space.QueueDef.{QueueDef}
use Rattle.tq_model.specs.declared.space.SpaceMove.TheVariants.{Insert, Remove, PutQueue}
use Rattle.tq_model.specs.Room.{messages_held, pages_held, pages_of_entry}
use Rattle.tq_model.specs.Space.{Space, crashed, outlives, freed}
use Rattle.tq_model.specs.Moves.{IndexedQueue, IndexedSpace, has_index, the_queue, space_of, owner_in, entry_view, purged_of}
use Rattle.tq_types.specs.Label.{arrival_cmp}
use Rattle.tq_slots.specs.SlotTable.{table_of}
use Rattle.tq_slots.specs.MessageSlots.{IndexedEntry, UsedSlot, Slots, Chain, Chains, HasChain, arrival_of, slot_arrival, slot_of, says}
use Rattle.tq_slots.specs.KeptEntries.{SpacePlan, kept_in, space_after}
use Rattle.tq_slots.specs.SpaceOrder.{IsOneOf, IsInOrder, IsNew, MovesFit}
use Rattle.tq_slots.specs.SlotsAfter.{slots_after, ChainsFit}
use Rattle.tq_slots.specs.SlotSets.{AreMadeBySets, with_sets, set_read}
use Rattle.tq_slots.specs.QueueSlots.{QueueSlots, HaveQueues, def_at, the_entry, entries_said, queues_read, crashed_queues, queue_slots_after}

-- slots and chains have what is to be kept of a space in order
pub record HoldSpace (site number : ℕ) (queue_slots : QueueSlots) (slots : Slots) (chains : Chains) (s : IndexedSpace) : Type 0 where
  pub queues : HaveQueues queue_slots s.queues
  pub kept : table_of arrival_cmp slot_arrival (says site number chains) slots ≡ Some (kept_in s)
  pub order : IsInOrder s

-- a plan can be done: its moves fit, the messages that it keeps have their chains, and there are slots enough
pub record CanDo (site number : ℕ) (queue_slots : QueueSlots) (slots : Slots) (chains : Chains) (new : Arrival → ℕ) (p : SpacePlan)
    (s : IndexedSpace) : Type 0 where
  pub moves : MovesFit p.moves (purged_of p.purge s)
  pub fits : ChainsFit site number chains new slots p.moves (purged_of p.purge s)
  pub room : len (kept_in (space_after p s)) ≤ length slots
  pub queue_room : (index : ℕ) → length queue_slots ≤ index → def_at index (space_after p s).queues ≡ None

-- The slots after a plan hold the space after it, and stand for what a crash leaves of that.
abbrev pub PlanLaw : Type 0
PlanLaw =
    (site number : ℕ) (queue_slots : QueueSlots) (slots : Slots) (chains : Chains) (new : Arrival → ℕ) (p : SpacePlan) (s : IndexedSpace)
    → HoldSpace site number queue_slots slots chains s → CanDo site number queue_slots slots chains new p s
    → HoldSpace site number (queue_slots_after p s queue_slots) (slots_after new p s slots) chains (space_after p s)
    × (queues_read site number (queue_slots_after p s queue_slots) (slots_after new p s slots) chains ≡ Some (crashed_queues (space_after p s).queues))

-- A message that has a slot and is kept after the plan has that slot, and its chain.
abbrev pub PlaceLaw : Type 0
PlaceLaw =
    (site number : ℕ) (queue_slots : QueueSlots) (slots : Slots) (chains : Chains) (new : Arrival → ℕ) (p : SpacePlan) (s : IndexedSpace)
    → HoldSpace site number queue_slots slots chains s → CanDo site number queue_slots slots chains new p s
    → (i : ℕ) (m : UsedSlot) (e : IndexedEntry) → slice_index_or slots i None ≡ Some m → get (kept_in (space_after p s)) m.arrival ≡ Some e
    → slice_index_or (slots_after new p s slots) i None ≡ Some (slot_of m.first e)

-- Chains may be written and given up at pages where no used slot begins one.
abbrev pub ChainLaw : Type 0
ChainLaw =
    (site number : ℕ) (queue_slots : QueueSlots) (slots : Slots) (chains chains' : Chains) (s : IndexedSpace)
    → HoldSpace site number queue_slots slots chains s
    → ((i : ℕ) (m : UsedSlot) → slice_index_or slots i None ≡ Some m → chains' m.first ≡ chains m.first)
    → HoldSpace site number queue_slots slots chains' s

-- So may each chain but those of the messages that are kept.
abbrev pub ReleaseLaw : Type 0
ReleaseLaw =
    (site number : ℕ) (queue_slots : QueueSlots) (slots : Slots) (chains chains' : Chains) (s : IndexedSpace)
    → HoldSpace site number queue_slots slots chains s
    → ((first : ℕ) (c : Chain) → chains first ≡ Some c → is_some (get (kept_in s) c.arrival) ≡ true → chains' first ≡ chains first)
    → HoldSpace site number queue_slots slots chains' s

-- The sets of a plan make the slots after it of those before.
abbrev pub SetsLaw : Type 0
SetsLaw =
    (queue_slots : QueueSlots) (slots : Slots) (new : Arrival → ℕ) (p : SpacePlan) (s : IndexedSpace)
    → AreMadeBySets queue_slots (queue_slots_after p s queue_slots) × AreMadeBySets slots (slots_after new p s slots)

-- A record's sets of slots' bytes, applied to those bytes, are read as the sets of what the bytes say, whatever reading there is.
abbrev pub ReadsSets : Type 0 → Type 0
ReadsSets X =
    (read : List ℕ → X) (sets : List (ℕ × List ℕ)) (slots : List (List ℕ))
    → map read (with_sets sets slots) ≡ with_sets (map (set_read read) sets) (map read slots)

abbrev pub BytesLaw : Type 0
BytesLaw = ReadsSets (Option UsedSlot) × ReadsSets (Option QueueDef)

abbrev pub space_with : IndexedSpace → List IndexedQueue → Space
space_with s queues = record (space_of s) { queues = map the_queue queues }

-- What slots stand for, as the space of the machine, is what a crash leaves of it.
abbrev pub CrashLaw : Type 0
CrashLaw = (s : IndexedSpace) → space_with s (crashed_queues s.queues) ≡ crashed (space_of s)

-- Empty slots hold a space without queues.
abbrev pub StartLaw : Type 0
StartLaw =
    (site number queues messages : ℕ) (chains : Chains) (s : IndexedSpace) → s.queues ≡ []
    → HoldSpace site number (replicate queues None) (replicate messages None) chains s

-- No two used slots begin one chain.
abbrev pub FirstLaw : Type 0
FirstLaw =
    (site number : ℕ) (queue_slots : QueueSlots) (slots : Slots) (chains : Chains) (s : IndexedSpace)
    → HoldSpace site number queue_slots slots chains s
    → (i j : ℕ) (m r : UsedSlot) → slice_index_or slots i None ≡ Some m → slice_index_or slots j None ≡ Some r → m.first ≡ r.first → i ≡ j

-- The chains of the used slots have as many pages as the room of the space counts for what a crash leaves.
abbrev pub PagesLaw : Type 0
PagesLaw =
    (site number : ℕ) (queue_slots : QueueSlots) (slots : Slots) (chains : Chains) (s : IndexedSpace)
    → HoldSpace site number queue_slots slots chains s
    → sum_by (λ e. pages_of_entry (the_entry e)) (entries_said site number chains slots) ≡ pages_held (crashed (space_of s))

-- Where slots and chains stand for the queues of a space, they hold it.
abbrev pub LoadLaw : Type 0
LoadLaw =
    (site number : ℕ) (queue_slots : QueueSlots) (slots : Slots) (chains : Chains) (s : IndexedSpace)
    → queues_read site number queue_slots slots chains ≡ Some s.queues → HoldSpace site number queue_slots slots chains s

-- What a caller owes

-- No more is kept than there are messages, so the limit of messages gives the room.
abbrev pub RoomLaw : Type 0
RoomLaw = (s : IndexedSpace) → len (kept_in s) ≤ messages_held (space_of s)

-- A message may come in that is new, labelled by its own arrival, with its chain at its new page where it is kept, and with a slot to
-- spare.
abbrev pub EnqueueLaw : Type 0
EnqueueLaw =
    (site number : ℕ) (queue_slots : QueueSlots) (slots : Slots) (chains : Chains) (new : Arrival → ℕ) (ids : List MsgId) (e : HeldEntry) (s : IndexedSpace)
    → HoldSpace site number queue_slots slots chains s
    → own_arrival e.label ≡ arrival_of e.message.id → IsNew (arrival_of e.message.id) s.queues
    → (outlives (entry_view (owner_in s.owners) e) ≡ true
    → HasChain site number chains (new (arrival_of e.message.id)) (freed (entry_view (owner_in s.owners) e)))
    → messages_held (space_of s) + 1 ≤ length slots
    → CanDo site number queue_slots slots chains new (record { purge = ids; moves = Insert e ∷ [] }) s

-- Messages may always go.
abbrev pub RemoveLaw : Type 0
RemoveLaw =
    (site number : ℕ) (queue_slots : QueueSlots) (slots : Slots) (chains : Chains) (new : Arrival → ℕ) (ids removed : List MsgId) (s : IndexedSpace)
    → HoldSpace site number queue_slots slots chains s → messages_held (space_of s) ≤ length slots
    → CanDo site number queue_slots slots chains new (record { purge = ids; moves = map Remove removed }) s

-- A queue may be made under a new name, at an index that has a slot and no queue.
abbrev pub CreateLaw : Type 0
CreateLaw =
    (site number : ℕ) (queue_slots : QueueSlots) (slots : Slots) (chains : Chains) (new : Arrival → ℕ) (index : ℕ) (d : QueueDef) (s : IndexedSpace)
    → HoldSpace site number queue_slots slots chains s
    → list_any (has_index index) s.queues ≡ false → ((q : IndexedQueue) → IsOneOf s.queues q → q.queue.name ≡ d.name → ⊥)
    → index < length queue_slots → messages_held (space_of s) ≤ length slots
    → CanDo site number queue_slots slots chains new (record { purge = []; moves = PutQueue index d ∷ [] }) s
