-- The state of the serial queue machine.
use Rattle.std.specs.Prelude.{ℕ, zero, suc, ◌+◌, ◌-◌, ◌==◌, ◌&&◌, not, nat_le, nat_lt, Bool, is_some, if◌then◌else◌, List, [], ◌∷◌, length, map, filter, take, get_or, replicate, Option, Some, None, option_map}
use Rattle.std.specs.List.{find, filter_map, flat_map, list_any, sum_by}
use Rattle.std.specs.Str.{bytes_eq}
use Rattle.tq_model.specs.declared.answer.Identity.{Identity}
use Rattle.tq_model.specs.declared.answer.Capacity.{Capacity}
use Rattle.tq_model.specs.declared.answer.Extent.{Extent}
use Rattle.tq_model.specs.Space.{Space, divided_up, crashed}

-- Limits
abbrev pub last_epoch : ℕ
last_epoch = 4294967295

abbrev pub least_clusters : ℕ
least_clusters = 5

abbrev pub most_clusters : ℕ
most_clusters = 8192

-- clusters 0 to 3 hold the device's header
abbrev pub header_clusters : ℕ
header_clusters = 4

-- the last ordinal of a space, which gives none
abbrev pub last_space : ℕ
last_space = 268435455

-- the entries of a device's table, and so the most spaces of a device
abbrev pub table_entries : ℕ
table_entries = 16

-- the most pages of a space
abbrev pub most_pages : ℕ
most_pages = 262016

abbrev pub most_queues : ℕ
most_queues = 256

abbrev pub most_transactions : ℕ
most_transactions = 64

abbrev pub most_messages : ℕ
most_messages = 8192

-- the most bytes of memory that a space may have for the bodies of messages that are not persistent
abbrev pub most_memory : ℕ
most_memory = 16777216

-- a space in its place on a device
pub record SpaceOnDevice : Type 0 where
  pub name : List ℕ
  pub pages : ℕ  -- all of them, those of the overhead included
  pub extents : List Extent  -- its clusters
  pub logged : ℕ  -- the bytes of its log that are taken
  pub space : Space

-- a device that is created
pub record Volume : Type 0 where
  pub clusters : ℕ
  pub next_space : ℕ  -- the ordinal of the next space to be made on it, from 1
  pub entries : List (Option SpaceOnDevice)  -- the 16 entries of its table; None is an unused one

pub record Site : Type 0 where
  pub identity : Option Identity  -- where device 0 is created
  pub next : ℕ  -- the number of the next message
  pub clock : ℕ
  pub devices : List (Option Volume)  -- one for each device word; None is a blank device

abbrev pub volume_of : Site → ℕ → Option Volume
volume_of s dev = get_or s.devices dev None

abbrev pub is_created : Site → ℕ → Bool
is_created s dev = is_some (volume_of s dev)

-- the entries of a device that has no space
abbrev pub no_entries : List (Option SpaceOnDevice)
no_entries = replicate table_entries None

-- devices that are all blank
abbrev pub blank_site : ℕ → Site
blank_site devices = record { identity = None; next = 0; clock = 0; devices = replicate devices None }

-- Spaces

-- what stands in a list of options
abbrev pub present : {X : Type 0} → List (Option X) → List X
present options = filter_map (λ o. o) options

-- the spaces of a device, by its table
abbrev pub spaces_on : Volume → List SpaceOnDevice
spaces_on v = present v.entries

abbrev pub site_spaces : Site → List SpaceOnDevice
site_spaces s = flat_map spaces_on (present s.devices)

abbrev pub space_count : Site → ℕ
space_count s = length (site_spaces s)

abbrev pub has_name : List ℕ → SpaceOnDevice → Bool
has_name name placed = bytes_eq placed.name name

abbrev pub space_named : List ℕ → Site → Option SpaceOnDevice
space_named name s = find (has_name name) (site_spaces s)

-- the site in which each space of that name is changed
abbrev pub changed_if : List ℕ → (SpaceOnDevice → SpaceOnDevice) → SpaceOnDevice → SpaceOnDevice
changed_if name change placed = if has_name name placed then change placed else placed

abbrev pub on_spaces : (SpaceOnDevice → SpaceOnDevice) → Volume → Volume
on_spaces change v = record v { entries = map (option_map change) v.entries }

abbrev pub on_devices : (Volume → Volume) → Site → Site
on_devices change s = record s { devices = map (option_map change) s.devices }

abbrev pub with_space : List ℕ → (SpaceOnDevice → SpaceOnDevice) → Site → Site
with_space name change s = on_devices (on_spaces (changed_if name change)) s

-- the site without the space of that name
abbrev pub entry_beside : List ℕ → Option SpaceOnDevice → Option SpaceOnDevice
entry_beside name None = None
entry_beside name (Some placed) = if has_name name placed then None else Some placed

abbrev pub without_space : List ℕ → Site → Site
without_space name s = on_devices (λ v. record v { entries = map (entry_beside name) v.entries }) s

-- how many branches are in doubt; no line prepares one yet
abbrev pub in_doubt_count : Site → ℕ
in_doubt_count s = 0

-- Clusters

-- the clusters for so many pages
abbrev pub clusters_for : ℕ → ℕ
clusters_for pages = divided_up pages 32

abbrev pub taken_clusters : Volume → ℕ
taken_clusters v = sum_by (λ (p : SpaceOnDevice). sum_by (λ (e : Extent). e.count) p.extents) (spaces_on v)

abbrev pub free_clusters : Volume → ℕ
free_clusters v = v.clusters - (header_clusters + taken_clusters v)

abbrev pub capacity_of : Volume → Capacity
capacity_of v = record { clusters = v.clusters; free = free_clusters v }

-- so many numbers, from this one on
abbrev pub numbers_from : ℕ → ℕ → List ℕ
numbers_from first zero = []
numbers_from first (suc n) = first ∷ numbers_from (first + 1) n

abbrev pub covers : ℕ → Extent → Bool
covers cluster e = nat_le e.first cluster && nat_lt cluster (e.first + e.count)

abbrev pub is_taken : Volume → ℕ → Bool
is_taken v cluster = list_any (λ (p : SpaceOnDevice). list_any (covers cluster) p.extents) (spaces_on v)

-- the lowest so many clusters that neither the header nor a space has
abbrev pub lowest_free : ℕ → Volume → List ℕ
lowest_free n v = take n (filter (λ cluster. not (is_taken v cluster)) (numbers_from header_clusters (v.clusters - header_clusters)))

-- clusters in their order as extents; those that follow each other are one
abbrev pub with_cluster : ℕ → List Extent → List Extent
with_cluster cluster [] = record { first = cluster; count = 1 } ∷ []
with_cluster cluster (e ∷ extents) = if cluster + 1 == e.first then record { first = cluster; count = e.count + 1 } ∷ extents else record { first = cluster; count = 1 } ∷ e ∷ extents

abbrev pub as_extents : List ℕ → List Extent
as_extents [] = []
as_extents (cluster ∷ clusters) = with_cluster cluster (as_extents clusters)

-- the entries with one space more, in the lowest that is not used
abbrev pub entries_with : SpaceOnDevice → List (Option SpaceOnDevice) → List (Option SpaceOnDevice)
entries_with p [] = []
entries_with p (None ∷ entries) = Some p ∷ entries
entries_with p (Some q ∷ entries) = Some q ∷ entries_with p entries

-- What is left after a crash.
abbrev pub durable_space : SpaceOnDevice → SpaceOnDevice
durable_space p = record p { space = crashed p.space }

abbrev pub durable : Site → Site
durable s = on_devices (on_spaces durable_space) (record s { next = 0; clock = 0 })
