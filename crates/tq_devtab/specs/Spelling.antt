-- How the entries of a table are spelt.
use Rattle.std.specs.Prelude.{◌≡◌, ℕ, ◌+◌, ◌*◌, ◌<◌, ◌≤◌, ◌⊎◌, ◌&&◌, ◌||◌, nat_le, nat_lt, Bool, true, false, List, length, get_or, map, Option, Some, None}
use Rattle.std.specs.List.{list_all, sum_by}
use Rattle.tq_field.specs.Places.{number_at}
use Rattle.tq_host.specs.Calls.{HasBytesAt}
use Rattle.tq_model.specs.declared.answer.Extent.{Extent}
use Rattle.tq_model.specs.DeviceForm.{RawEntry, extents_start, table_bytes}
use Rattle.tq_model.specs.Reading.{NamedSpace}
use Rattle.tq_devtab.specs.Table.{extents_of, raw_of}

-- how many extents these entries have
abbrev pub extent_total : List RawEntry → ℕ
extent_total entries = sum_by (λ (e : RawEntry). length e.extents) entries

-- an extent whose numbers have 2 bytes
abbrev pub is_short : Extent → Bool
is_short e = nat_lt e.first 65536 && nat_lt e.count 65536

abbrev pub are_short : List Extent → Bool
are_short extents = list_all is_short extents

-- entries for which a base has the bytes
pub record IsSpellable (entries : List (Option NamedSpace)) : Type 0 where
  pub count : length entries ≤ 16
  pub ends : extents_start + 4 * extent_total (map raw_of entries) ≤ table_bytes
  pub short : list_all (λ (o : Option NamedSpace). are_short (raw_of o).extents) entries ≡ true
  pub names : list_all (λ (o : Option NamedSpace). nat_le (length (raw_of o).name) 15) entries ≡ true

-- these bytes are zero
abbrev pub IsZero : ℕ → ℕ → List ℕ → Type 0
IsZero at n bytes = (i : ℕ) → at ≤ i → i < at + n → get_or bytes i 0 ≡ 0

-- the 160 bytes of a used entry
pub record IsEntryAt (at : ℕ) (n : NamedSpace) (bytes : List ℕ) : Type 0 where
  pub used : get_or bytes at 0 ≡ 1
  pub size : get_or bytes (at + 1) 0 ≡ length n.name
  pub name : HasBytesAt (at + 2) n.name bytes
  pub ordinal : number_at (at + 132) 4 bytes ≡ n.ordinal
  pub pages : number_at (at + 136) 4 bytes ≡ n.pages
  pub extents : number_at (at + 140) 4 bytes ≡ length n.extents

-- outside n bytes from one place on and m from another, both have the same bytes
abbrev pub IsSameOutsideBoth : ℕ → ℕ → ℕ → ℕ → List ℕ → List ℕ → Type 0
IsSameOutsideBoth at n start m old new = (i : ℕ) → (i < at) ⊎ (at + n ≤ i) → (i < start) ⊎ (start + m ≤ i) → get_or new i 0 ≡ get_or old i 0

-- whether an entry says something in this byte of its 160
abbrev pub names_byte : Option NamedSpace → ℕ → Bool
names_byte None at = false
names_byte (Some n) at = nat_lt at (2 + length n.name) || (nat_le 132 at && nat_lt at 144)

-- the bytes of these entries in which they say nothing are zero
abbrev pub IsZeroBetween : List (Option NamedSpace) → List ℕ → Type 0
IsZeroBetween entries bytes = (i at : ℕ) → i < length entries → at < 160 → names_byte (get_or entries i None) at ≡ false
    → get_or bytes (32 + 160 * i + at) 0 ≡ 0

-- so are those behind their extents
abbrev pub IsZeroBehind : List (Option NamedSpace) → List ℕ → Type 0
IsZeroBehind entries bytes = (i : ℕ) → extents_start + 4 * length (extents_of entries) ≤ i → i < table_bytes → get_or bytes i 0 ≡ 0

-- all bytes of a base in which its head and these entries say nothing are zero
pub record IsZeroBeside (entries : List (Option NamedSpace)) (bytes : List ℕ) : Type 0 where
  pub head : IsZero 8 24 bytes
  pub between : IsZeroBetween entries bytes
  pub behind : IsZeroBehind entries bytes
