-- What is kept of a space through a crash, by the arrivals of its messages; and plans, with the arrivals that they name.
use Rattle.std.specs.Prelude.{ℕ, List, [], ◌∷◌, ◌++◌, map, filter}
use Rattle.std.specs.List.{flat_map}
use Rattle.std.specs.FinMap.{FinMap, from_entries}
use Rattle.tq_types.specs.Label.{arrival_cmp}
use Rattle.tq_types.specs.declared.identifiers.Arrival.{Arrival}
use Rattle.tq_types.specs.declared.identifiers.MsgId.{MsgId}
use Rattle.tq_model.specs.declared.space.SpaceMove.{SpaceMove}
use Rattle.tq_model.specs.declared.space.SpaceMove.TheVariants.{Insert, Remove, Replace, PutQueue, DropQueue}
use Rattle.tq_model.specs.Space.{Entry, outlives, freed}
use Rattle.tq_model.specs.Moves.{IndexedQueue, IndexedSpace, moved_by, purged_of}
use Rattle.tq_slots.specs.MessageSlots.{IndexedEntry, arrival_of}

abbrev pub KeptEntries : Type 0
KeptEntries = FinMap arrival_cmp IndexedEntry

abbrev pub kept_entry : ℕ → Entry → Arrival × IndexedEntry
kept_entry index entry = (arrival_of entry.message.id, record { queue = index; entry = freed entry })

abbrev pub kept_of : IndexedQueue → List (Arrival × IndexedEntry)
kept_of q = map (kept_entry q.index) (filter outlives q.queue.items)

abbrev pub kept_in : IndexedSpace → KeptEntries
kept_in s = from_entries (flat_map kept_of s.queues)

-- what is to be done to a space: entries are purged, and then there are moves
pub record SpacePlan : Type 0 where
  pub purge : List MsgId
  pub moves : List SpaceMove

abbrev pub space_after : SpacePlan → IndexedSpace → IndexedSpace
space_after p s = moved_by p.moves (purged_of p.purge s)

abbrev pub named_by : SpaceMove → List Arrival
named_by (Insert e) = arrival_of e.message.id ∷ []
named_by (Remove id) = arrival_of id ∷ []
named_by (Replace c) = arrival_of c.id ∷ []
named_by (PutQueue index d) = []
named_by (DropQueue index) = []

-- the arrivals that a plan names: nothing else of what is kept changes
abbrev pub named_in : SpacePlan → List Arrival
named_in p = map arrival_of p.purge ++ flat_map named_by p.moves
