-- The slots of a space, read from its log.
use Rattle.std.specs.Prelude.{◌≡◌, ℕ, List, [], ◌∷◌, map, if◌then◌else◌, Option, Some, None, Vec}
use Rattle.std.specs.Option.{option_and_then}
use Rattle.std.specs.declared.alloc.Global.{Global}
use Rattle.tq_slots.specs.RecordForm.{Record, record_read}
use Rattle.tq_slots.specs.SlotImages.{RawSlots, with_record}
use Rattle.tq_slots.specs.SpaceReading.{have_places}
use Rattle.tq_store.specs.declared.fault.FileError.{FileError}
use Rattle.tq_store.specs.declared.fault.FileError.TheVariants.{Damaged, Device, NoMemory}

-- what a refusal says of what was looked for in memory
abbrev pub IsMissing : {X : Type 0} → Option X → FileError → Type 0
IsMissing found Damaged = found ≡ None
IsMissing found Device = ⊥
IsMissing found NoMemory = Unit {0}

-- the bytes of payloads
abbrev pub bytes_of : List (Vec ℕ Global) → List (List ℕ)
bytes_of payloads = map (λ payload. payload.items) payloads

-- the slots with the record of a payload; none where it spells none, or sets a slot that is not there
abbrev pub after_record : RawSlots → Record → Option RawSlots
after_record raw r = if have_places raw r then Some (with_record r.sets raw) else None

abbrev pub followed : RawSlots → List ℕ → Option RawSlots
followed raw payload = option_and_then (after_record raw) (record_read payload)

-- the slots with the records of payloads, one after another
abbrev pub slots_left : List (List ℕ) → RawSlots → Option RawSlots
slots_left [] raw = Some raw
slots_left (payload ∷ payloads) raw = option_and_then (slots_left payloads) (followed raw payload)
