-- What a device holds while it is made.
use Rattle.std.specs.Prelude.{◌≡◌, ◌<◌, ◌≤◌, ◌-◌, ◌*◌, ◌+◌, ℕ, List, length, get_or, codes, nat_lt, if◌then◌else◌}
use Rattle.tq_field.specs.Places.{run_at, number_at}
use Rattle.tq_model.specs.DeviceForm.{header_bytes, page_bytes, table_a, journal_a}
use Rattle.tq_devtab.specs.Device.{HasPart, HasNoJournal, HasFirstAreas, IsSameBelow, new_part}

-- The bytes with which pages begin

-- the first bytes of a device
pub record IsHeaderStart (place site clusters : ℕ) (start : List ℕ) : Type 0 where
  pub size : length start ≡ 20
  pub mark : run_at 0 8 start ≡ codes "TQDEV001"
  pub device : get_or start 8 0 ≡ place
  pub site_is : number_at 12 4 start ≡ site
  pub clusters_are : number_at 16 4 start ≡ clusters

-- the first bytes of a base: its mark and its first number
pub record IsBaseStart (mark : List ℕ) (n : ℕ) (start : List ℕ) : Type 0 where
  pub size : length start ≡ 8
  pub mark_is : run_at 0 4 start ≡ mark
  pub number_is : number_at 4 4 start ≡ n

-- those of the site journal of epoch 1 on device 0, and zeros on the others, which have none
pub record IsJournalStart (place : ℕ) (start : List ℕ) : Type 0 where
  pub size : length start ≡ 8
  pub first : place ≡ 0 → IsBaseStart (codes "TQSJ") 1 start
  pub later : 1 ≤ place → (i : ℕ) → get_or start i 0 ≡ 0

-- The bytes of a new device

-- its first page, its table's first one and its journal's begin with these, and all else is zero
abbrev pub made_byte : List ℕ → List ℕ → List ℕ → ℕ → ℕ
made_byte header table journal i =
    if nat_lt i table_a then get_or header i 0 else (if nat_lt i journal_a then get_or table (i - table_a) 0 else get_or journal (i - journal_a) 0)

-- the bytes before this address are those
abbrev pub IsMadeTo : List ℕ → List ℕ → List ℕ → ℕ → List ℕ → Type 0
IsMadeTo header table journal end image = (i : ℕ) → i < end → get_or image i 0 ≡ made_byte header table journal i

-- one page has the bytes of this start and zeros behind them, as far as a blank device goes
pub record IsPaged (number : ℕ) (start old new : List ℕ) : Type 0 where
  pub page : (i : ℕ) → i < page_bytes → page_bytes * number + i < header_bytes - 1 → get_or new (page_bytes * number + i) 0 ≡ get_or start i 0
  pub before : IsSameBelow (page_bytes * number) old new
  pub size : length new ≡ length old

-- all of a new device but its last byte: with it the image is one
pub record IsLaidOut (place site clusters : ℕ) (image : List ℕ) : Type 0 where
  pub size : length image ≡ header_bytes - 1
  pub part : (c : List ℕ) → header_bytes ≤ length c → IsSameBelow (header_bytes - 1) image c → HasPart place (new_part place site clusters) c
  pub bare : 1 ≤ place → HasNoJournal image
  pub first : HasFirstAreas image
