-- The message slots after a plan, and what a plan owes to the chains of the messages that it keeps.
use Rattle.std.specs.Prelude.{◌≡◌, ◌⊎◌, ℕ, true, false, List, [], ◌∷◌, Option, Some, None, slice_index_or}
use Rattle.tq_types.specs.Label.{arrival_cmp}
use Rattle.tq_types.specs.declared.identifiers.Arrival.{Arrival}
use Rattle.tq_model.specs.declared.space.SpaceMove.{SpaceMove}
use Rattle.tq_model.specs.declared.space.SpaceMove.TheVariants.{Insert, Remove, Replace, PutQueue, DropQueue}
use Rattle.tq_model.specs.Space.{Owner, Entry, outlives, freed}
use Rattle.tq_model.specs.Moves.{IndexedQueue, IndexedSpace, owner_in, entry_view, after_change, entry_with_id, moved}
use Rattle.tq_slots.specs.SlotTable.{place_of, slots_for}
use Rattle.tq_slots.specs.MessageSlots.{UsedSlot, Slots, Chains, HasChain, arrival_of, slot_arrival, slot_of}
use Rattle.tq_slots.specs.KeptEntries.{SpacePlan, kept_in, named_in, space_after}

-- the first page of a message: that of its slot, or of its new chain where it has no slot yet
abbrev pub first_or : Option UsedSlot → ℕ → ℕ
first_or None new = new
first_or (Some s) new = s.first

abbrev pub first_of : Slots → (Arrival → ℕ) → Arrival → ℕ
first_of slots new a = first_or (slice_index_or slots (place_of arrival_cmp slot_arrival a slots) None) (new a)

-- A message that the plan names has a slot exactly where it is kept after the plan; `new` are the first pages of new chains.
abbrev pub slots_after : (Arrival → ℕ) → SpacePlan → IndexedSpace → Slots → Slots
slots_after new p s slots = slots_for slot_arrival (λ a e. slot_of (first_of slots new a) e) (kept_in (space_after p s)) (named_in p) slots

-- where an entry is kept, the chain at its first page is its own
abbrev pub KeepsChain : ℕ → ℕ → Chains → (Arrival → ℕ) → Slots → Entry → Type 0
KeepsChain site number chains new slots x = outlives x ≡ true → HasChain site number chains (first_of slots new (arrival_of x.message.id)) (freed x)

-- An entry that comes in has its chain, where it is kept. One that is replaced keeps or loses its path where it was kept; where it was
-- not kept and comes to be, it has its chain.
abbrev pub ChainFits : ℕ → ℕ → Chains → (Arrival → ℕ) → Slots → (ℕ → Owner) → SpaceMove → List IndexedQueue → Type 0
ChainFits site number chains new slots owners (Insert e) queues = KeepsChain site number chains new slots (entry_view owners e)
ChainFits site number chains new slots owners (Remove id) queues = Unit {0}
ChainFits site number chains new slots owners (Replace c) queues =
    (x : Entry) → entry_with_id c.id queues ≡ Some x
    → (outlives x ≡ true → (c.label.path ≡ []) ⊎ (c.label.path ≡ x.label.path))
    × (outlives x ≡ false → KeepsChain site number chains new slots (after_change owners c x))
ChainFits site number chains new slots owners (PutQueue index d) queues = Unit {0}
ChainFits site number chains new slots owners (DropQueue index) queues = Unit {0}

-- one move after another
abbrev pub ChainsFit : ℕ → ℕ → Chains → (Arrival → ℕ) → Slots → List SpaceMove → IndexedSpace → Type 0
ChainsFit site number chains new slots [] s = Unit {0}
ChainsFit site number chains new slots (move ∷ moves) s =
    ChainFits site number chains new slots (owner_in s.owners) move s.queues × ChainsFit site number chains new slots moves (moved move s)
