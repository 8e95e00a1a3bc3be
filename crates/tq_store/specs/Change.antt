-- What is written of a change of a space, and what an image has of it.
use Rattle.std.specs.Prelude.{◌≡◌, ◌⊎◌, ℕ, Bool, true, List, [], ◌∷◌, length, Some}
use Rattle.tq_extent.specs.Bytes.{OnBytes, owned_bytes}
use Rattle.tq_gate.specs.declared.log.GateLog.{GateLog}
use Rattle.tq_gate.specs.Log.{IsSameBeside}
use Rattle.tq_model.specs.declared.space.Shape.{Shape}
use Rattle.tq_model.specs.Moves.{IndexedSpace}
use Rattle.tq_pages.specs.Store.{Store, HasAdded}
use Rattle.tq_pages.specs.Content.{HasChain, chain_bytes}
use Rattle.tq_slots.specs.MessageSlots.{UsedSlot}
use Rattle.tq_slots.specs.RecordForm.{Record, record_read}
use Rattle.tq_slots.specs.SlotImages.{RawSlots, queue_slots_in, slots_in, with_record}
use Rattle.tq_slots.specs.SlotsLaw.{HoldSpace}
use Rattle.tq_slots.specs.SpaceReading.{base_slots, have_places, message_at}
use Rattle.tq_store.specs.declared.place.SpacePlace.{SpacePlace}
use Rattle.tq_store.specs.File.{FileState, IsSound, clusters_of}
use Rattle.tq_store.specs.Place.{log_layout}
use Rattle.tq_store.specs.Stored.{HasSpace, HasStored, HoldsSpace, IsUsedAt}

-- an image is the same outside the areas of the space's log and their selector
abbrev pub IsSameButItsLog : SpacePlace → Shape → List ℕ → List ℕ → List ℕ → Type 0
IsSameButItsLog place shape clusters old new = OnBytes clusters (IsSameBeside (log_layout place shape clusters)) old new

abbrev pub with_log : FileState → GateLog → FileState
with_log f log = record f { log = log }

abbrev pub changed : FileState → IndexedSpace → RawSlots → Store → FileState
changed f s raw store = record f { space = s; raw = raw; store = store }

-- The space's log is that one; where it is full, a base says the space's slots.
pub record IsBaseOf (f : FileState) (log : GateLog) (full : Bool) (base : List ℕ) : Type 0 where
  pub sound : IsSound f
  pub log_is : f.log ≡ log
  pub slots : full ≡ true → base_slots f.shape base ≡ Some f.raw

-- A message comes on a chain of its own; where there is none, no chain comes.
abbrev pub HasNewChain : Store → ℕ → List ℕ → Store → Type 0
HasNewChain old first [] new = Unit {0}
HasNewChain old first (b ∷ message) new = HasAdded old first (length (b ∷ message)) new

abbrev pub IsPut : Store → ℕ → List ℕ → List ℕ → Type 0
IsPut store first [] bytes = Unit {0}
IsPut store first (b ∷ message) bytes = HasChain store first bytes × (chain_bytes store first bytes ≡ b ∷ message)

-- a payload spells a record that makes these slots of those
pub record IsRecordOf (old new : RawSlots) (payload : List ℕ) : Type 0 where
  pub r : Record
  pub reads : record_read payload ≡ Some r
  pub fits : have_places old r ≡ true
  pub makes : with_record r.sets old ≡ new

-- The space comes to be another one, with other slots and chains. Where an image has the old one, and the new message on its chain, it
-- has the chains of the new slots, and they hold the new space.
pub record IsChange (f : FileState) (s : IndexedSpace) (raw : RawSlots) (store : Store) (first : ℕ) (message payload : List ℕ) : Type 0 where
  pub old : IsSound f
  pub new : IsSound (changed f s raw store)
  pub clusters : store.clusters ≡ clusters_of f
  pub chain : HasNewChain f.store first message store
  pub record_is : IsRecordOf f.raw raw payload
  pub chains : (bytes : List ℕ) → ((i : ℕ) (m : UsedSlot) → IsUsedAt f.raw i m → HasChain f.store m.first bytes) → IsPut store first message bytes
      → (i : ℕ) (m : UsedSlot) → IsUsedAt raw i m → HasChain store m.first bytes
  pub holds : (image : List ℕ) → HasStored f.shape (clusters_of f) f.raw f.store image
      → HoldsSpace f.place.site f.place.number f.shape (clusters_of f) f.raw f.space image → IsPut store first message (owned_bytes (clusters_of f) image)
      → HoldSpace f.place.site f.place.number (queue_slots_in raw) (slots_in raw) (message_at f.shape (owned_bytes (clusters_of f) image)) s

-- an image has the old space, or the new one
abbrev pub IsOldOrChanged : FileState → IndexedSpace → List ℕ → Type 0
IsOldOrChanged f s image = HasSpace f.place (clusters_of f) f.space image ⊎ HasSpace f.place (clusters_of f) s image
