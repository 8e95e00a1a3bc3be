-- A space on its device, and the space and its log in memory.
use Rattle.std.specs.Prelude.{◌≡◌, ◌⊎◌, ℕ, ◌+◌, ◌-◌, ◌&&◌, Bool, true, is_some, List, [], length, Some}
use Rattle.tq_host.specs.View.{View}
use Rattle.tq_field.specs.GatedLog.{end_of}
use Rattle.tq_extent.specs.Bytes.{owned_bytes, reaches, OnBytes}
use Rattle.tq_gate.specs.declared.log.GateLog.{GateLog}
use Rattle.tq_gate.specs.Reading.{Content}
use Rattle.tq_gate.specs.Log.{IsLog, free_in, layout_of}
use Rattle.tq_model.specs.declared.answer.LogRoom.{LogRoom}
use Rattle.tq_model.specs.declared.space.Shape.{Shape}
use Rattle.tq_model.specs.declared.record.SpaceRecord.{SpaceRecord}
use Rattle.tq_model.specs.Moves.{IndexedSpace}
use Rattle.tq_model.specs.SpaceForm.{raw_space, shape_of, log_bytes, spelt}
use Rattle.tq_model.specs.Reading.{page_tests, hold_all, payloads_in, space_in}
use Rattle.tq_spacefile.specs.declared.place.SpacePlace.{SpacePlace}
use Rattle.tq_spacefile.specs.declared.file.SpaceFile.{SpaceFile}
use Rattle.tq_spacefile.specs.Place.{page_of}
use Rattle.tq_spacefile.specs.Record.{with_record}

-- On the device

-- An image has this space there, on these clusters, with so many bytes of its log taken; its epochs are up to this one.
pub record HasSpace (place : SpacePlace) (clusters : List ℕ) (epoch : ℕ) (held : IndexedSpace) (logged : ℕ) (image : List ℕ) : Type 0 where
  pub reach : reaches clusters image ≡ true
  pub page : hold_all (page_tests place.pages (raw_space (page_of clusters image))) ≡ true
  pub payloads : List (List ℕ)
  pub reads : space_in place.site place.number epoch place.pages (owned_bytes clusters image) ≡ Some (record { payloads = payloads; space = held })
  pub ends : logged ≡ end_of payloads

-- no more is said of how bytes came about
abbrev pub IsAnyStep : List ℕ → List ℕ → Type 0
IsAnyStep old new = Unit {0}

-- an image is the same outside these clusters
abbrev pub IsSameButSpace : List ℕ → List ℕ → List ℕ → Type 0
IsSameButSpace clusters old new = OnBytes clusters IsAnyStep old new

-- the pages of a new space on these clusters: its creation, and an empty log
pub record IsFormatted (shape : Shape) (clusters image : List ℕ) : Type 0 where
  pub page : hold_all (page_tests shape.pages (raw_space (page_of clusters image))) ≡ true
  pub shape_is : shape_of shape.pages (raw_space (page_of clusters image)) ≡ shape
  pub empty : payloads_in shape.pages (owned_bytes clusters image) ≡ Some []

-- whether an image has a space there
abbrev pub has_space : SpacePlace → List ℕ → ℕ → List ℕ → Bool
has_space place clusters epoch image = hold_all (page_tests place.pages (raw_space (page_of clusters image))) && is_some (space_in place.site place.number epoch place.pages (owned_bytes clusters image))

-- In memory

abbrev pub place_in : SpaceFile → SpacePlace
place_in f = f.place

abbrev pub clusters_in : SpaceFile → List ℕ
clusters_in f = (layout_of f.log).map

abbrev pub held_in : SpaceFile → IndexedSpace
held_in f = f.space.held

abbrev pub log_of : SpaceFile → GateLog
log_of f = f.log

-- the bytes of the log that are taken
abbrev pub logged_in : SpaceFile → ℕ
logged_in f = log_bytes f.place.pages - free_in f.log

-- the log in memory is that of the image
pub record IsLogOf (f : SpaceFile) (image : List ℕ) : Type 0 where
  pub content : Content
  pub log : IsLog f.log content image

pub record IsFile (f : SpaceFile) (epoch : ℕ) (image : List ℕ) : Type 0 where
  pub has : HasSpace (place_in f) (clusters_in f) epoch (held_in f) (logged_in f) image
  pub log : IsLogOf f image

-- each image that a stop may leave of the space's device has it
abbrev pub AreFile : SpaceFile → ℕ → View → Type 0
AreFile f epoch v = (image : List ℕ) → v.may_leave f.place.dev image → IsFile f epoch image

-- the room that a record of so many bytes lacks in a log
abbrev pub room_for : ℕ → ℕ → ℕ → LogRoom
room_for pages logged size = record { need = size + 6; free = log_bytes pages - logged }

-- The image has the space before a record, or with it.
abbrev pub IsOldOrLogged : SpacePlace → List ℕ → ℕ → IndexedSpace → ℕ → SpaceRecord → List ℕ → Type 0
IsOldOrLogged place clusters epoch s logged r image = HasSpace place clusters epoch s logged image ⊎ HasSpace place clusters epoch (with_record r s) (logged + (5 + length (spelt r))) image
