-- What the header and the table of a device say, in an image of it.
use Rattle.std.specs.Prelude.{◌≡◌, ◌⊎◌, ℕ, ◌+◌, ◌*◌, ◌-◌, ◌<◌, ◌≤◌, ◌&&◌, nat_lt, not, Bool, true, List, ◌++◌, length, map, replicate, take, Option, Some, None}
use Rattle.std.specs.List.{list_all, sum_by}
use Rattle.std.specs.Str.{bytes_eq}
use Rattle.tq_extent.specs.Bytes.{OnBytes}
use Rattle.tq_extent.specs.Clusters.{free_in}
use Rattle.tq_gate.specs.declared.layout.Layout.{Layout}
use Rattle.tq_gate.specs.declared.layout.Areas.TheVariants.{Two}
use Rattle.tq_gate.specs.Log.{IsSameBeside}
use Rattle.tq_model.specs.declared.answer.Extent.{Extent}
use Rattle.tq_model.specs.Names.{is_name}
use Rattle.tq_model.specs.Site.{header_clusters, numbers_from, present, table_entries, last_space, most_pages, clusters_for, as_extents}
use Rattle.tq_model.specs.DeviceForm.{raw_header, raw_table, cluster_bytes, header_bytes}
use Rattle.tq_model.specs.Reading.{NamedSpace, named_in, header_tests, table_tests, entries_tests, used_entries, hold_all}
use Rattle.tq_devtab.specs.Device.{IsLonger}
use Rattle.tq_devtab.specs.Table.{changed_entry, longer_space, owned_by, with_entry, without_entry}

-- the bytes of a device with the most clusters
abbrev pub most_bytes : ℕ
most_bytes = 268435456

-- what a header and a table say
pub record TablePart : Type 0 where
  pub site : ℕ
  pub clusters : ℕ
  pub next_space : ℕ
  pub entries : List (Option NamedSpace)

-- what a header and a table say of a new device
abbrev pub new_table : ℕ → ℕ → TablePart
new_table site clusters = record { site = site; clusters = clusters; next_space = 1; entries = replicate table_entries None }

-- all tests of the header and the table of the device with this number
abbrev pub volume_tests : ℕ → List ℕ → List Bool
volume_tests place image =
    let h = raw_header image in
    let t = raw_table h.table image in
    header_tests place h ++ table_tests t ++ entries_tests t.next h.clusters (length image) (used_entries t)

abbrev pub table_part : List ℕ → TablePart
table_part image =
    let h = raw_header image in
    let t = raw_table h.table image in
    record { site = h.site; clusters = h.clusters; next_space = t.next; entries = map named_in t.entries }

-- the number that a header is to have: the given one, or else its own
abbrev pub place_asked : Option ℕ → List ℕ → ℕ
place_asked None image = (raw_header image).device
place_asked (Some place) image = place

-- the header and the table of an image that is not blank have a reading
abbrev pub is_volume : Option ℕ → List ℕ → Bool
is_volume place image = nat_lt (place_asked place image) 8 && hold_all (volume_tests (place_asked place image) image)

-- an image of the device with this number, not blank, whose header and table say this
pub record HasTable (place : ℕ) (d : TablePart) (image : List ℕ) : Type 0 where
  pub size : header_bytes ≤ length image
  pub tests : hold_all (volume_tests place image) ≡ true
  pub part : table_part image ≡ d

-- the two areas of the table on the pages of the header, chosen by one of its bytes
abbrev pub table_layout : ℕ → Layout
table_layout dev = record { dev = dev; map = numbers_from 0 header_clusters; areas = Two 512; first = 1; base_pages = 40; log_pages = 0 }

-- an image is the same outside the table: its two areas and its selector
abbrev pub IsSameButTable : ℕ → List ℕ → List ℕ → Type 0
IsSameButTable dev old new = OnBytes (numbers_from 0 header_clusters) (IsSameBeside (table_layout dev)) old new

-- Changes

-- the clusters that neither the header nor a space has
abbrev pub free_of : TablePart → ℕ
free_of d = d.clusters - (header_clusters + sum_by (λ (n : NamedSpace). sum_by (λ (e : Extent). e.count) n.extents) (present d.entries))

-- the lowest so many of them, in their order
abbrev pub lowest_of : ℕ → TablePart → List ℕ
lowest_of n d = take n (free_in (owned_by d.clusters d.entries))

-- a space of the table has this name
abbrev pub has_named : List ℕ → TablePart → Bool
has_named name d = not (list_all (λ (m : NamedSpace). not (bytes_eq name m.name)) (present d.entries))

-- A space that may be entered as it is: its clusters are the lowest free ones.
pub record IsReserved (d : TablePart) (n : NamedSpace) : Type 0 where
  pub name : is_name n.name ≡ true
  pub alone : list_all (λ (m : NamedSpace). not (bytes_eq n.name m.name)) (present d.entries) ≡ true
  pub room : length (present d.entries) < table_entries
  pub ordinal : n.ordinal ≡ d.next_space
  pub last : d.next_space < last_space
  pub least : 1 ≤ n.pages
  pub most : n.pages ≤ most_pages
  pub enough : clusters_for n.pages ≤ free_of d
  pub extents : n.extents ≡ as_extents (lowest_of (clusters_for n.pages) d)

-- the table with that space in the lowest entry that is not used
abbrev pub with_new : NamedSpace → TablePart → TablePart
with_new n d = record d { next_space = d.next_space + 1; entries = with_entry n d.entries }

-- the table without the space of that ordinal
abbrev pub without : ℕ → TablePart → TablePart
without ordinal d = record d { entries = without_entry ordinal d.entries }

-- how many clusters a space needs for so many pages more, beyond those that it has
abbrev pub further_for : ℕ → NamedSpace → ℕ
further_for pages n = clusters_for (n.pages + pages) - clusters_for n.pages

-- the lowest so many free clusters
abbrev pub further_extents : ℕ → NamedSpace → TablePart → List Extent
further_extents pages n d = as_extents (lowest_of (further_for pages n) d)

-- the table where the space of that ordinal has so many pages more, and its further clusters behind the others
abbrev pub with_longer : ℕ → ℕ → TablePart → TablePart
with_longer ordinal pages d =
    record d { entries = changed_entry ordinal (λ n. Some (longer_space (n.pages + pages) (further_extents pages n d) n)) d.entries }

-- The old table, or the new one and outside the table all that was read.
abbrev pub IsTableOrNext : ℕ → ℕ → TablePart → TablePart → List ℕ → List ℕ → Type 0
IsTableOrNext dev place d next read image = HasTable place d image ⊎ (HasTable place next image × IsSameButTable dev read image)

-- More bytes behind the others, up to this size, or none; and then the same outside the table.
pub record IsLongerButTable (dev size : ℕ) (old new : List ℕ) : Type 0 where
  pub between : List ℕ
  pub longer : IsLonger size old between
  pub outside : IsSameButTable dev between new

-- The old table, or the new one and outside the table all that was read, with more bytes behind it or none.
abbrev pub IsTableOrLonger : ℕ → ℕ → TablePart → TablePart → List ℕ → List ℕ → Type 0
IsTableOrLonger dev place d next read image = HasTable place d image ⊎ (HasTable place next image × IsLongerButTable dev (cluster_bytes * d.clusters) read image)
