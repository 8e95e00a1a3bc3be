-- How a space is made and removed.
use Rattle.std.specs.Prelude.{◌≡◌, ◌<◌, ◌≤◌, ◌⊎◌, ℕ, List, Some, None, true, false, length, get_or, set}
use Rattle.std.specs.List.{find}
use Rattle.tq_extent.specs.Bytes.{reaches, is_owned}
use Rattle.tq_extent.specs.Clusters.{clusters_of}
use Rattle.tq_model.specs.declared.space.Shape.{Shape}
use Rattle.tq_model.specs.Space.{overhead_pages}
use Rattle.tq_model.specs.declared.answer.Answer.TheVariants as answers
use Rattle.tq_model.specs.declared.request.SpaceCreation.{SpaceCreation}
use Rattle.tq_model.specs.Step.{Outcome, field_refused, shape_asked}
use Rattle.tq_model.specs.Site.{Site, on_devices, most_pages, most_queues, most_transactions, most_messages, most_memory, has_name, spaces_on}
use Rattle.tq_model.specs.DeviceForm.{table_a, journal_a}
use Rattle.tq_model.specs.Reading.{NamedSpace}
use Rattle.tq_devtab.specs.InMemory.{part_of}
use Rattle.tq_devtab.specs.Volume.{TablePart, HasTable, IsReserved, with_new}
use Rattle.tq_spacefile.specs.File.{IsFormatted}
use Rattle.tq_coord.specs.declared.site.Disk.{Disk}
use Rattle.tq_coord.specs.declared.site.Manager.{Manager}
use Rattle.tq_coord.specs.Manager.{volume_in}

-- a shape within the limits of spaces
pub record IsShape (s : Shape) : Type 0 where
  pub queues : (1 ≤ s.queues) × (s.queues ≤ most_queues)
  pub messages : (1 ≤ s.messages) × (s.messages ≤ most_messages)
  pub transactions : (1 ≤ s.transactions) × (s.transactions ≤ most_transactions)
  pub memory : s.memory ≤ most_memory
  pub pages : (overhead_pages s < s.pages) × (s.pages ≤ most_pages)

-- an image has the pages of a new space, which lie on the clusters of its entry
pub record HasNewPages (n : NamedSpace) (shape : Shape) (image : List ℕ) : Type 0 where
  pub formatted : IsFormatted shape (clusters_of n.extents) image
  pub reach : reaches (clusters_of n.extents) image ≡ true

-- a byte of the table's areas, or its selector
abbrev pub IsOfTable : ℕ → Type 0
IsOfTable i = (i ≡ 512) ⊎ ((table_a ≤ i) × (i < journal_a))

-- The device is no shorter, and outside the table and the clusters of the new space it has the bytes that it had.
pub record IsLaidOut (n : NamedSpace) (old new : List ℕ) : Type 0 where
  pub longer : length old ≤ length new
  pub bytes : (i : ℕ) → i < length old → is_owned (clusters_of n.extents) i ≡ false → (IsOfTable i → ⊥) → get_or new i 0 ≡ get_or old i 0

-- The table as it was, or with the new space, whose pages are there then.
abbrev pub IsWithoutOrWith : TablePart → NamedSpace → Shape → List ℕ → Type 0
IsWithoutOrWith t n shape image = HasTable 0 t image ⊎ (HasTable 0 (with_new n t) image × HasNewPages n shape image)

-- Neither the words nor the names of the site refuse the space, and its device is created.
pub record IsAllowed (c : SpaceCreation) (m : Manager) : Type 0 where
  pub dev : c.dev ≡ 0
  pub disk : Disk
  pub there : m.disk ≡ Some disk
  pub new : find (has_name c.name) (spaces_on (volume_in disk)) ≡ None
  pub fields : field_refused c ≡ None
  pub large : overhead_pages (shape_asked c) < c.pages

-- the table of its device has a place for it, in which it is this one
pub record HasPlace (c : SpaceCreation) (m : Manager) (n : NamedSpace) : Type 0 where
  pub allowed : IsAllowed c m
  pub reserved : IsReserved (part_of allowed.disk.table) n
  pub name : n.name ≡ c.name
  pub pages : n.pages ≡ c.pages

-- Removal

-- the manager's device has a space at this entry, with this ordinal
pub record HasEntryAt (m : Manager) (index ordinal : ℕ) : Type 0 where
  pub disk : Disk
  pub there : m.disk ≡ Some disk
  pub space : NamedSpace
  pub named : get_or (part_of disk.table).entries index None ≡ Some space
  pub ordinal_is : space.ordinal ≡ ordinal

-- the site in which that entry is not used
abbrev pub without_entry_at : ℕ → Site → Site
without_entry_at index s = on_devices (λ v. record v { entries = set v.entries index None }) s

abbrev pub entry_dropped : ℕ → Site → Outcome
entry_dropped index s = record { site = without_entry_at index s; answer = answers.Done }
