-- The spaces in the tables of devices.
use Rattle.std.specs.Prelude.{◌≤◌, ◌-◌, ℕ, Bool, false, not, List, [], length, map, filter, get_or, set, Option, Some, None, option_map, is_some}
use Rattle.std.specs.List.{list_any, sum_by, count_by, flat_map}
use Rattle.tq_model.specs.declared.answer.Extent.{Extent}
use Rattle.tq_model.specs.Site.{SpaceOnDevice, Volume, present, has_name, spaces_on, numbers_from, covers, is_taken, entry_beside}

-- the clusters of a space
abbrev pub space_clusters : SpaceOnDevice → ℕ
space_clusters p = sum_by (λ (e : Extent). e.count) p.extents

-- whether an entry has a space of that name
abbrev pub is_placed : List ℕ → Option SpaceOnDevice → Bool
is_placed name None = false
is_placed name (Some p) = has_name name p

-- whether an entry has no space
abbrev pub is_unused : Option SpaceOnDevice → Bool
is_unused o = not (is_some o)

-- whether the space of an entry has that cluster
abbrev pub entry_covers : ℕ → Option SpaceOnDevice → Bool
entry_covers cluster None = false
entry_covers cluster (Some p) = list_any (covers cluster) p.extents

-- the clusters from this one on that no space has, in their order
abbrev pub free_from : ℕ → Volume → List ℕ
free_from first v = filter (λ cluster. not (is_taken v cluster)) (numbers_from first (v.clusters - first))

-- the device without the spaces of that name
abbrev pub without_named : List ℕ → Volume → Volume
without_named name v = record v { entries = map (entry_beside name) v.entries }

-- the device with the space of an entry changed
abbrev pub entry_changed : ℕ → (SpaceOnDevice → SpaceOnDevice) → Volume → Volume
entry_changed entry change v = record v { entries = set v.entries entry (option_map change (get_or v.entries entry None)) }

-- the spaces of a device that may be blank
abbrev pub device_spaces : Option Volume → List SpaceOnDevice
device_spaces None = []
device_spaces (Some v) = spaces_on v

-- the space of an entry of a device
abbrev pub entry_of : Option Volume → ℕ → Option SpaceOnDevice
entry_of None entry = None
entry_of (Some v) entry = get_or v.entries entry None

-- no more devices than there are words for, and no two spaces of one name
pub record AreSound (devices : List (Option Volume)) : Type 0 where
  pub few : length devices ≤ 8
  pub names : (name : List ℕ) → count_by (has_name name) (flat_map spaces_on (present devices)) ≤ 1
