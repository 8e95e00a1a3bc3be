-- A device in memory has a space for each entry of its table that is used, at the entry's place and on its clusters.
use Rattle.std.specs.Prelude.{◌≡◌, ℕ, List, length, get_or, Option, Some, None}
use Rattle.std.proofs.Props.{props}
use Rattle.tq_extent.specs.Clusters.{clusters_of}
use Rattle.tq_model.specs.Site.{table_entries}
use Rattle.tq_model.specs.Step.{number_of}
use Rattle.tq_model.specs.Reading.{NamedSpace}
use Rattle.tq_devtab.specs.Volume.{TablePart}
use Rattle.tq_spacefile.specs.declared.place.SpacePlace.{SpacePlace}
use Rattle.tq_spacefile.specs.declared.file.SpaceFile.{SpaceFile}
use Rattle.tq_spacefile.specs.File.{place_in, clusters_in}

-- where the space that is named so lies, on the device with this number
abbrev pub place_of : ℕ → TablePart → NamedSpace → SpacePlace
place_of dev t n = record { dev = dev; pages = n.pages; site = t.site; number = number_of dev n.ordinal }

-- the space in memory lies at that place, on the clusters of its entry
pub record IsInPlace (dev : ℕ) (t : TablePart) (n : NamedSpace) (f : SpaceFile) : Type 0 where
  pub is : place_in f ≡ place_of dev t n
  pub clusters : clusters_in f ≡ clusters_of n.extents

-- an entry and what is in memory for it
abbrev pub IsFileOf : ℕ → TablePart → Option NamedSpace → Option SpaceFile → Type 0
IsFileOf dev t None None = Unit {0}
IsFileOf dev t None (Some f) = ⊥
IsFileOf dev t (Some n) None = ⊥
IsFileOf dev t (Some n) (Some f) = IsInPlace dev t n f

pub record IsTogether (dev : ℕ) (t : TablePart) (files : List (Option SpaceFile)) : Type 0 where
  pub count : length files ≡ table_entries
  pub each : (i : ℕ) → IsFileOf dev t (get_or t.entries i None) (get_or files i None)

-- at most one proof
file_prop : (dev : ℕ) (t : TablePart) (named : Option NamedSpace) (file : Option SpaceFile) → IsProp (IsFileOf dev t named file)
file_prop dev t None None = Prim.hlevel props
file_prop dev t None (Some f) = Prim.hlevel props
file_prop dev t (Some n) None = Prim.hlevel props
file_prop dev t (Some n) (Some f) = Prim.hlevel props

pub together_prop : (dev : ℕ) (t : TablePart) (files : List (Option SpaceFile)) → IsProp (IsTogether dev t files)
together_prop dev t files = Prim.hlevel (props, file_prop)
