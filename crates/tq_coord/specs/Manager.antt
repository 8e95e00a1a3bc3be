-- What the manager holds in memory, as the machine's site.
use Rattle.std.specs.Prelude.{◌≡◌, ◌<◌, ℕ, Bool, true, false, List, [], ◌∷◌, length, get_or, Option, Some, None, option_map}
use Rattle.tq_host.specs.View.{View}
use Rattle.tq_model.specs.declared.answer.Identity.{Identity}
use Rattle.tq_model.specs.Moves.{space_of}
use Rattle.tq_model.specs.Plain.{IsNewer}
use Rattle.tq_model.specs.Site.{Site, Volume, SpaceOnDevice, last_epoch}
use Rattle.tq_model.specs.DeviceForm.{header_bytes}
use Rattle.tq_model.specs.Reading.{NamedSpace, site_found}
use Rattle.tq_model.specs.Step.{can_boot, booted}
use Rattle.tq_devtab.specs.Volume.{TablePart}
use Rattle.tq_devtab.specs.InMemory.{part_of, IsTableOf}
use Rattle.tq_site.specs.InMemory.{IsJournalOf}
use Rattle.tq_spacefile.specs.declared.file.SpaceFile.{SpaceFile}
use Rattle.tq_spacefile.specs.File.{IsFile, held_in, logged_in}
use Rattle.tq_coord.specs.declared.site.Disk.{Disk}
use Rattle.tq_coord.specs.declared.site.Manager.{Manager}
use Rattle.tq_coord.specs.Together.{IsInPlace}
use Rattle.tq_coord.specs.Frame.{device_count}

-- The site

abbrev pub epoch_of : Disk → ℕ
epoch_of d = d.journal.epoch

abbrev pub files_of : Disk → List (Option SpaceFile)
files_of d = d.files.items

abbrev pub identity_in : Disk → Identity
identity_in d = record { site = (part_of d.table).site; epoch = epoch_of d }

-- a space in its place
abbrev pub placed_of : NamedSpace → SpaceFile → SpaceOnDevice
placed_of n f = record { name = n.name; pages = n.pages; extents = n.extents; logged = logged_in f; space = space_of (held_in f) }

abbrev pub placed_in : Option NamedSpace → Option SpaceFile → Option SpaceOnDevice
placed_in None file = None
placed_in (Some n) None = None
placed_in (Some n) (Some f) = Some (placed_of n f)

-- entry by entry
abbrev pub all_placed : List (Option NamedSpace) → List (Option SpaceFile) → List (Option SpaceOnDevice)
all_placed [] files = []
all_placed (n ∷ named) [] = []
all_placed (n ∷ named) (f ∷ files) = placed_in n f ∷ all_placed named files

abbrev pub volume_with : TablePart → List (Option SpaceFile) → Volume
volume_with t files = record { clusters = t.clusters; next_space = t.next_space; entries = all_placed t.entries files }

abbrev pub volume_in : Disk → Volume
volume_in d = volume_with (part_of d.table) (files_of d)

abbrev pub site_with : Option Disk → ℕ → Site
site_with disk next = record { identity = option_map identity_in disk; next = next; clock = 0; devices = option_map volume_in disk ∷ [] }

abbrev pub site_of : Manager → Site
site_of m = site_with m.disk m.next

-- On the device

-- An image has the space of a file; the next message is newer than all of its.
pub record HasFile (t : TablePart) (epoch next : ℕ) (n : NamedSpace) (f : SpaceFile) (image : List ℕ) : Type 0 where
  pub place : IsInPlace 0 t n f
  pub file : IsFile f epoch image
  pub newer : IsNewer epoch next (held_in f)

abbrev pub HasFileOf : TablePart → ℕ → ℕ → Option NamedSpace → Option SpaceFile → List ℕ → Type 0
HasFileOf t epoch next None None image = Unit {0}
HasFileOf t epoch next None (Some f) image = ⊥
HasFileOf t epoch next (Some n) None image = ⊥
HasFileOf t epoch next (Some n) (Some f) image = HasFile t epoch next n f image

-- the spaces of all entries
abbrev pub HasFiles : TablePart → ℕ → ℕ → List (Option SpaceFile) → List ℕ → Type 0
HasFiles t epoch next files image = (i : ℕ) → HasFileOf t epoch next (get_or t.entries i None) (get_or files i None) image

-- an image has the table, the journal and the spaces
pub record HasDisk (d : Disk) (next : ℕ) (image : List ℕ) : Type 0 where
  pub table : IsTableOf d.table image
  pub journal : IsJournalOf d.journal image
  pub files : HasFiles (part_of d.table) (epoch_of d) next (files_of d) image

abbrev pub HasDiskOrIsBlank : Option Disk → ℕ → List ℕ → Type 0
HasDiskOrIsBlank None next image = length image < header_bytes
HasDiskOrIsBlank (Some d) next image = HasDisk d next image

-- the device has what the manager holds
abbrev pub ImageMatches : Manager → List ℕ → Type 0
ImageMatches m image = HasDiskOrIsBlank m.disk m.next image

-- an epoch can be raised, of a site that is found
abbrev pub is_bootable : Option Site → Bool
is_bootable None = false
is_bootable (Some s) = can_boot s

-- Before the epoch is raised nothing is said of the next message.
abbrev pub IsFileAt : TablePart → ℕ → Option NamedSpace → Option SpaceFile → List ℕ → Type 0
IsFileAt t epoch None None image = Unit {0}
IsFileAt t epoch None (Some f) image = ⊥
IsFileAt t epoch (Some n) None image = ⊥
IsFileAt t epoch (Some n) (Some f) image = IsInPlace 0 t n f × IsFile f epoch image

-- those of all entries
abbrev pub AreFilesAt : TablePart → ℕ → List (Option SpaceFile) → List ℕ → Type 0
AreFilesAt t epoch files image = (i : ℕ) → IsFileAt t epoch (get_or t.entries i None) (get_or files i None) image

pub record IsLoaded (d : Disk) (image : List ℕ) : Type 0 where
  pub table : IsTableOf d.table image
  pub journal : IsJournalOf d.journal image
  pub files : AreFilesAt (part_of d.table) (epoch_of d) (files_of d) image

-- the manager has the next epoch of what was loaded, and so has the image
pub record IsRaised (d : Disk) (m : Manager) (image : List ℕ) : Type 0 where
  pub below : epoch_of d < last_epoch
  pub site : site_of m ≡ booted (site_with (Some d) 0)
  pub stands : ImageMatches m image

-- after a boot of what the devices stood for
pub record IsBooted (m : Manager) (old new : View) : Type 0 where
  pub found : Site
  pub stood : site_found device_count old.reads ≡ Some found
  pub raisable : can_boot found ≡ true
  pub site : site_of m ≡ booted found
  pub stands : ImageMatches m (new.reads 0)

-- the number of the next message
abbrev pub next_of : Manager → ℕ
next_of m = m.next
