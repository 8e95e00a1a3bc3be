-- A device that is made, and one that is made blank again.
use Rattle.std.specs.Prelude.{max, ◌≡◌, ◌⊎◌, ℕ, ◌+◌, ◌-◌, ◌==◌, ◌<◌, ◌≤◌, true, if◌then◌else◌, List, [], length, get_or, replicate, Some, None}
use Rattle.tq_model.specs.Site.{table_entries, present}
use Rattle.tq_model.specs.DeviceForm.{Journal, header_bytes, page_bytes, journal_a, journal_b, journal_log_bytes}
use Rattle.tq_model.specs.Reading.{DevicePart, device_part, device_tests, hold_all}

abbrev pub IsBlank : List ℕ → Type 0
IsBlank image = length image < header_bytes

-- an image of the device with this number, not blank, that says this outside the pages of its spaces
pub record HasPart (place : ℕ) (d : DevicePart) (image : List ℕ) : Type 0 where
  pub size : header_bytes ≤ length image
  pub tests : hold_all (device_tests place image) ≡ true
  pub part : device_part place image ≡ d

-- the journal of a site that was just made
abbrev pub first_journal : Journal
first_journal = record { epoch = 1; decision = None }

-- what a device says that was just made; device 0 has the site journal
abbrev pub new_part : ℕ → ℕ → ℕ → DevicePart
new_part place site clusters = record {
  site = site;
  clusters = clusters;
  next_space = 1;
  journal = if place == 0 then Some first_journal else None;
  entries = replicate table_entries None;
}

abbrev pub IsBlankOr : ℕ → DevicePart → List ℕ → Type 0
IsBlankOr place d image = IsBlank image ⊎ HasPart place d image

-- a device that has no space
abbrev pub HasNoSpace : DevicePart → Type 0
HasNoSpace d = present d.entries ≡ []

-- the two areas of a site journal are zero
abbrev pub HasNoJournal : List ℕ → Type 0
HasNoJournal image = (i : ℕ) → journal_a ≤ i → i < journal_b + (page_bytes + journal_log_bytes) → get_or image i 0 ≡ 0

-- both selectors of the header choose area A, by a zero, and the log of the journal there is shut
pub record HasFirstAreas (image : List ℕ) : Type 0 where
  pub table : get_or image 512 0 ≡ 0
  pub journal : get_or image 513 0 ≡ 0
  pub shut : get_or image (journal_a + page_bytes) 0 ≡ 0

-- the same bytes before this address
abbrev pub IsSameBelow : ℕ → List ℕ → List ℕ → Type 0
IsSameBelow end old new = (i : ℕ) → i < end → get_or new i 0 ≡ get_or old i 0

-- the same, with more bytes behind it, up to this size, or none
pub record IsLonger (size : ℕ) (old new : List ℕ) : Type 0 where
  pub longer : length old ≤ length new
  pub most : length new ≤ max (length old) size
  pub bytes : IsSameBelow (length old) old new

-- no more is said of an image
abbrev pub IsAny : List ℕ → Type 0
IsAny image = Unit {0}

-- no more is said of how an image came about
abbrev pub IsAnyStep : List ℕ → List ℕ → Type 0
IsAnyStep old new = Unit {0}

-- neither is blank, and both have the same bytes before the last one of the header
pub record IsStillHeaded (old new : List ℕ) : Type 0 where
  pub was : header_bytes ≤ length old
  pub size : header_bytes ≤ length new
  pub bytes : IsSameBelow (header_bytes - 1) old new

-- an erasing that a stop may cut short
abbrev pub IsErasing : List ℕ → List ℕ → Type 0
IsErasing old new = IsBlank new ⊎ IsStillHeaded old new
