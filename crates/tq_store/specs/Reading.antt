-- What a load reads before the messages.
use Rattle.std.specs.Prelude.{◌≡◌, ℕ, if◌then◌else◌, List, Option, Some, None}
use Rattle.std.specs.Option.{option_and_then}
use Rattle.tq_extent.specs.Bytes.{owned_bytes}
use Rattle.tq_gate.specs.declared.loading.Loaded.{Loaded}
use Rattle.tq_gate.specs.Reading.{Content}
use Rattle.tq_gate.specs.Log.{IsLog}
use Rattle.tq_model.specs.declared.space.Shape.{Shape}
use Rattle.tq_model.specs.Reading.{hold_all}
use Rattle.tq_slots.specs.SlotImages.{RawSlots}
use Rattle.tq_slots.specs.SpaceReading.{creation_in, slots_by, slots_stored, slot_tests}
use Rattle.tq_store.specs.declared.place.SpacePlace.{SpacePlace}
use Rattle.tq_store.specs.declared.reading.Read.{Read}
use Rattle.tq_store.specs.Sound.{HasSlotsOf}

-- slots that are each what they have to be
abbrev pub if_sound : RawSlots → Option RawSlots
if_sound raw = if hold_all (slot_tests raw) then Some raw else None

abbrev pub sound_slots : Option RawSlots → Option RawSlots
sound_slots slots = option_and_then if_sound slots

-- the slots that the content of a log says
abbrev pub sound_slots_of : Shape → Content → Option RawSlots
sound_slots_of shape k = sound_slots (slots_by shape k.base k.payloads)

-- What is read is of that creation and that log.
pub record IsOpened (shape : Shape) (loaded : Loaded) (read : Read) : Type 0 where
  pub shape_is : read.shape ≡ shape
  pub log_is : read.log ≡ loaded.log
  pub size : HasSlotsOf shape read.slots

-- An image has this creation, and in this log these slots.
pub record HasRead (place : SpacePlace) (clusters : List ℕ) (read : Read) (image : List ℕ) : Type 0 where
  pub creation : creation_in place.pages (owned_bytes clusters image) ≡ Some read.shape
  pub content : Content
  pub is : IsLog read.log content image
  pub stored : slots_stored read.shape (owned_bytes clusters image) ≡ Some read.slots
