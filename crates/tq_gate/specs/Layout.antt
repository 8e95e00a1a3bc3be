-- Where a gated log lies among the bytes of its owner.
use Rattle.std.specs.Prelude.{◌≡◌, ◌<◌, ◌≤◌, ℕ, ◌+◌, ◌*◌, ◌%◌, ◌==◌, Bool, true, false, if◌then◌else◌, max, List}
use Rattle.tq_extent.specs.Bytes.{byte_count, owned_bytes}
use Rattle.tq_gate.specs.declared.layout.Layout.{Layout}
use Rattle.tq_gate.specs.declared.layout.Areas.{Areas}
use Rattle.tq_gate.specs.declared.layout.Areas.TheVariants.{One, Two}

-- the owner's clusters
abbrev pub clusters_of : Layout → List ℕ
clusters_of layout = layout.map

-- the owner's bytes in an image of the device
abbrev pub bytes_in : Layout → List ℕ → List ℕ
bytes_in layout image = owned_bytes (clusters_of layout) image

-- the byte at which area A begins
abbrev pub first_area : Layout → ℕ
first_area layout = 1024 * layout.first

abbrev pub base_length : Layout → ℕ
base_length layout = 1024 * layout.base_pages

abbrev pub log_length : Layout → ℕ
log_length layout = 1024 * layout.log_pages

abbrev pub area_length : Layout → ℕ
area_length layout = base_length layout + log_length layout

-- the byte at which the area begins that a selector chooses: area A by an even one, area B by an odd one
abbrev pub area_by : Layout → ℕ → ℕ
area_by layout selector = if selector % 2 == 0 then first_area layout else first_area layout + area_length layout

-- of two areas, the one that does not begin at this byte
abbrev pub other_area : Layout → ℕ → ℕ
other_area layout area = if area == first_area layout then first_area layout + area_length layout else first_area layout

abbrev pub has_two_areas : Areas → Bool
has_two_areas One = false
has_two_areas (Two selector) = true

-- how long the areas are together
abbrev pub total_length : Areas → ℕ → ℕ
total_length One n = n
total_length (Two selector) n = n + n

-- the byte behind the last area
abbrev pub areas_end : Layout → ℕ
areas_end layout = first_area layout + total_length layout.areas (area_length layout)

-- whether this byte is the selector
abbrev pub IsSelector : Areas → ℕ → Type 0
IsSelector One i = ⊥
IsSelector (Two selector) i = selector ≡ i

-- the byte behind the selector
abbrev pub selector_end : Areas → ℕ
selector_end One = 0
selector_end (Two selector) = selector + 1

-- the byte behind the last byte of the log
abbrev pub layout_end : Layout → ℕ
layout_end layout = max (areas_end layout) (selector_end layout.areas)

-- The device is one of the eight, the owner has no more bytes than it can have, all bytes of the log are the owner's, and the
-- selector lies in no area.
pub record IsLaidOut (layout : Layout) : Type 0 where
  pub dev : layout.dev < 8
  pub size : byte_count (clusters_of layout) ≤ 268435456
  pub end : layout_end layout ≤ byte_count (clusters_of layout)
  pub apart : (i : ℕ) → first_area layout ≤ i → i < areas_end layout → IsSelector layout.areas i → ⊥

-- an area of the layout begins at this byte
pub record IsPlaced (layout : Layout) (area : ℕ) : Type 0 where
  pub laid_out : IsLaidOut layout
  pub not_before : first_area layout ≤ area
  pub not_past : area + area_length layout ≤ areas_end layout

-- the byte at which a byte of the log of that area lies
abbrev pub log_place : Layout → ℕ → ℕ → ℕ
log_place layout area p = area + base_length layout + p
