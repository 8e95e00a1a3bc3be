-- What an image of a device has of a space that lies there.
use Rattle.std.specs.Prelude.{◌≡◌, ◌≤◌, ◌<◌, ℕ, true, false, List, Some, None, slice_index_or, length, map}
use Rattle.tq_model.specs.declared.space.Shape.{Shape}
use Rattle.tq_model.specs.Space.{overhead_pages}
use Rattle.tq_model.specs.Site.{numbers_from}
use Rattle.tq_model.specs.Reading.{hold_all}
use Rattle.tq_model.specs.Moves.{IndexedSpace}
use Rattle.tq_extent.specs.Bytes.{owned_bytes, reaches, OnBytes}
use Rattle.tq_pages.specs.Store.{Store, IsStore, is_free, size_of, count_of, page_of}
use Rattle.tq_pages.specs.Content.{HasChain}
use Rattle.tq_slots.specs.MessageSlots.{UsedSlot}
use Rattle.tq_slots.specs.SlotImages.{RawSlots, slots_in, queue_slots_in}
use Rattle.tq_slots.specs.SlotsLaw.{HoldSpace}
use Rattle.tq_slots.specs.SpaceReading.{creation_in, slots_stored, slot_tests, message_at, space_read}
use Rattle.tq_store.specs.declared.place.SpacePlace.{SpacePlace}

-- an image has this space there, on these clusters
pub record HasSpace (place : SpacePlace) (clusters : List ℕ) (s : IndexedSpace) (image : List ℕ) : Type 0 where
  pub reach : reaches clusters image ≡ true
  pub reads : space_read place.site place.number place.pages (owned_bytes clusters image) ≡ Some s

-- no more is said of how bytes came about
abbrev pub IsAnyStep : List ℕ → List ℕ → Type 0
IsAnyStep old new = Unit {0}

-- an image is the same outside these clusters
abbrev pub IsSameButSpace : List ℕ → List ℕ → List ℕ → Type 0
IsSameButSpace clusters old new = OnBytes clusters IsAnyStep old new

-- What is kept in memory of the pages

-- the slot of that index is used, and this is what it says
abbrev pub IsUsedAt : RawSlots → ℕ → UsedSlot → Type 0
IsUsedAt raw i m = slice_index_or (slots_in raw) i None ≡ Some m

-- the pages of a chain of a store, the first one first
abbrev pub pages_in : Store → ℕ → List ℕ
pages_in store first = map (λ k. page_of store first k) (numbers_from 0 (count_of store first))

-- The store has the message pages of a space of that creation on these clusters, and a chain for each used slot and no other.
pub record HasStore (shape : Shape) (clusters : List ℕ) (raw : RawSlots) (store : Store) : Type 0 where
  pub is : IsStore store
  pub clusters_are : store.clusters ≡ clusters
  pub pages : length store.free ≡ shape.pages
  pub overhead : (page : ℕ) → page < overhead_pages shape → is_free store page ≡ false
  pub chains : (i : ℕ) (m : UsedSlot) → IsUsedAt raw i m → (overhead_pages shape ≤ m.first) × (1 ≤ size_of store m.first)
  pub within : (g k : ℕ) → k < count_of store g → overhead_pages shape ≤ page_of store g k
  pub slots : (g : ℕ) → 1 ≤ size_of store g → (i : ℕ) × (m : UsedSlot) × IsUsedAt raw i m × (m.first ≡ g)

-- An image has the creation, the slots and the chains that memory has of it.
pub record HasStored (shape : Shape) (clusters : List ℕ) (raw : RawSlots) (store : Store) (image : List ℕ) : Type 0 where
  pub reach : reaches clusters image ≡ true
  pub creation : creation_in shape.pages (owned_bytes clusters image) ≡ Some shape
  pub slots : slots_stored shape (owned_bytes clusters image) ≡ Some raw
  pub chains : (i : ℕ) (m : UsedSlot) → IsUsedAt raw i m → HasChain store m.first (owned_bytes clusters image)

-- The slots and chains of an image hold the space, and each is what it has to be.
pub record HoldsSpace (site number : ℕ) (shape : Shape) (clusters : List ℕ) (raw : RawSlots) (s : IndexedSpace) (image : List ℕ) : Type 0 where
  pub holds : HoldSpace site number (queue_slots_in raw) (slots_in raw) (message_at shape (owned_bytes clusters image)) s
  pub slots : hold_all (slot_tests raw) ≡ true
