-- What holds of a space in memory and of its slots, by its place and its creation.
use Rattle.std.specs.Prelude.{◌≡◌, true, length}
use Rattle.tq_model.specs.declared.space.Shape.{Shape}
use Rattle.tq_model.specs.Space.{limits_of}
use Rattle.tq_model.specs.Moves.{IndexedSpace}
use Rattle.tq_model.specs.Plain.{IsOwn, KeepsAllAtCrash}
use Rattle.tq_model.specs.Reading.{hold_all}
use Rattle.tq_slots.specs.SlotImages.{RawSlots}
use Rattle.tq_slots.specs.SpaceReading.{space_tests}
use Rattle.tq_store.specs.declared.place.SpacePlace.{SpacePlace}

-- as many slots as a creation says
pub record HasSlotsOf (shape : Shape) (raw : RawSlots) : Type 0 where
  pub queues : length raw.queues ≡ shape.queues
  pub messages : length raw.messages ≡ shape.messages
  pub branches : length raw.branches ≡ shape.transactions

-- the space is that of the place and the creation, and what an image keeps of it is all of it
pub record IsSpaceOf (place : SpacePlace) (shape : Shape) (s : IndexedSpace) : Type 0 where
  pub site : s.site ≡ place.site
  pub number : s.number ≡ place.number
  pub limits : s.limits ≡ limits_of shape
  pub error : s.error ≡ shape.error
  pub own : IsOwn s
  pub plain : KeepsAllAtCrash s
  pub tests : hold_all (space_tests s) ≡ true
