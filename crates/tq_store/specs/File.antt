-- A space on its device and in memory.
use Rattle.std.specs.Prelude.{◌≡◌, ◌+◌, ℕ, true, [], List, length, Some}
use Rattle.tq_host.specs.View.{View}
use Rattle.tq_gate.specs.declared.log.GateLog.{GateLog}
use Rattle.tq_gate.specs.Log.{HasLog, layout_of}
use Rattle.tq_model.specs.declared.space.Shape.{Shape}
use Rattle.tq_model.specs.Moves.{IndexedSpace, space_of}
use Rattle.tq_model.specs.Reading.{hold_all}
use Rattle.tq_model.specs.Room.{pages_held}
use Rattle.tq_pages.specs.Store.{Store, free_pages, size_of}
use Rattle.tq_slots.specs.MessageForm.{header_size}
use Rattle.tq_slots.specs.MessageSlots.{Chain, Chains, UsedSlot}
use Rattle.tq_slots.specs.SlotImages.{RawSlots, queue_slots_in, slots_in}
use Rattle.tq_slots.specs.SlotsLaw.{HoldSpace}
use Rattle.tq_slots.specs.SpaceReading.{slot_tests}
use Rattle.tq_store.specs.declared.place.SpacePlace.{SpacePlace}
use Rattle.tq_store.specs.Place.{IsCreation, IsPlace, log_layout}
use Rattle.tq_store.specs.Sound.{HasSlotsOf, IsSpaceOf}
use Rattle.tq_store.specs.Stored.{HasStore, HasStored, HoldsSpace, IsUsedAt}

-- where it lies and how it was made; the space, its slots, the chains of its messages, and its log
pub record FileState : Type 0 where
  pub place : SpacePlace
  pub shape : Shape
  pub space : IndexedSpace
  pub raw : RawSlots
  pub store : Store
  pub log : GateLog

abbrev pub clusters_of : FileState → List ℕ
clusters_of f = f.store.clusters

-- In memory

-- The slots hold the space with some messages on the chains, and each chain is as long as its message.
pub record IsHeld (site number : ℕ) (raw : RawSlots) (store : Store) (s : IndexedSpace) : Type 0 where
  pub chains : Chains
  pub holds : HoldSpace site number (queue_slots_in raw) (slots_in raw) chains s
  pub sizes : (i : ℕ) (m : UsedSlot) (c : Chain) → IsUsedAt raw i m → chains m.first ≡ Some c → size_of store m.first ≡ header_size + length c.body

-- The parts are of one space, and go together. The pages that are free are those that no message takes.
pub record IsSound (f : FileState) : Type 0 where
  pub placed : IsPlace f.place (clusters_of f)
  pub creation : IsCreation f.place f.shape
  pub layout : layout_of f.log ≡ log_layout f.place f.shape (clusters_of f)
  pub space : IsSpaceOf f.place f.shape f.space
  pub owners : f.space.owners ≡ []
  pub size : HasSlotsOf f.shape f.raw
  pub tests : hold_all (slot_tests f.raw) ≡ true
  pub store : HasStore f.shape (clusters_of f) f.raw f.store
  pub dev : f.store.dev ≡ f.place.dev
  pub room : free_pages f.store + pages_held (space_of f.space) ≡ f.space.limits.pages
  pub held : IsHeld f.place.site f.place.number f.raw f.store f.space

-- On the device

-- an image has the space as memory has it
pub record IsFile (f : FileState) (image : List ℕ) : Type 0 where
  pub stored : HasStored f.shape (clusters_of f) f.raw f.store image
  pub holds : HoldsSpace f.place.site f.place.number f.shape (clusters_of f) f.raw f.space image
  pub log : HasLog f.log image

-- each image that a stop may leave has it
abbrev pub AreFile : FileState → View → Type 0
AreFile f v = (image : List ℕ) → v.may_leave f.place.dev image → IsFile f image
