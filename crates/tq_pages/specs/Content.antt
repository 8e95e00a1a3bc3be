-- The bytes of chains among those of their owner.
use Rattle.std.specs.Prelude.{◌≡◌, ◌⊎◌, ◌<◌, ◌≤◌, ◌+◌, ◌-◌, ◌*◌, ◌/◌, ◌%◌, ℕ, false, true, if◌then◌else◌, min, nat_lt, List, [], ◌∷◌, ◌++◌, length, get_or, map, replicate}
use Rattle.tq_field.specs.Digits.{digits}
use Rattle.tq_field.specs.Places.{run_at, number_at}
use Rattle.tq_host.specs.Calls.{HasBytesAt}
use Rattle.tq_model.specs.DeviceForm.{page_bytes}
use Rattle.tq_model.specs.Site.{numbers_from}
use Rattle.tq_extent.specs.Pages.{page_count}
use Rattle.tq_extent.specs.Bytes.{owned_bytes, OnBytes}
use Rattle.tq_pages.specs.Store.{Store, is_free, size_of, count_of, page_of, page_behind, IsAmong}

-- the bytes of a page that are for its chain
abbrev pub payload_bytes : ℕ
payload_bytes = 1016

-- the bytes used in a page that has so many bytes of its chain before it
abbrev pub used_after : ℕ → ℕ → ℕ
used_after size before = min payload_bytes (size - before)

-- the number of the page behind the k-th one of so many, 0 behind the last one
abbrev pub number_behind : List ℕ → ℕ → ℕ → ℕ → ℕ
number_behind next first count k = if nat_lt (k + 1) count then page_behind next first (k + 1) else 0

-- a whole page: the number of the next one, the number of bytes, the bytes, and 0 behind them
abbrev pub page_form : ℕ → List ℕ → List ℕ
page_form next bytes = digits 4 next ++ (digits 2 (length bytes) ++ (0 ∷ 0 ∷ [] ++ (bytes ++ replicate (payload_bytes - length bytes) 0)))

-- Each page of the chain says which one is behind it, and how many bytes it has.
pub record HasChain (s : Store) (first : ℕ) (bytes : List ℕ) : Type 0 where
  pub next : (k : ℕ) → k < count_of s first → number_at (page_bytes * page_of s first k) 4 bytes ≡ number_behind s.next first (count_of s first) k
  pub used : (k : ℕ) → k < count_of s first → number_at (page_bytes * page_of s first k + 4) 2 bytes ≡ used_after (size_of s first) (payload_bytes * k)

-- the owner's byte at this place of the chain that begins at a page
abbrev pub payload_place : List ℕ → ℕ → ℕ → ℕ
payload_place next first i = page_bytes * page_behind next first (i / payload_bytes) + 8 + i % payload_bytes

-- the bytes of a chain
abbrev pub chain_bytes : Store → ℕ → List ℕ → List ℕ
chain_bytes s first bytes = map (λ i. get_or bytes (payload_place s.next first i) 0) (numbers_from 0 (size_of s first))

-- an image has the chains of the store
abbrev pub HoldsChains : Store → List ℕ → Type 0
HoldsChains s image = (first : ℕ) → HasChain s first (owned_bytes s.clusters image)

-- so many pages from this one on are whole ones with these bytes
abbrev pub AreWritten : List ℕ → ℕ → ℕ → List ℕ → List ℕ → Type 0
AreWritten next first count written bytes =
    (k : ℕ) → k < count
    → HasBytesAt (page_bytes * page_behind next first k) (page_form (number_behind next first count k) (run_at (payload_bytes * k) payload_bytes written)) bytes

-- the pages of a chain are whole ones with these bytes
abbrev pub IsWritten : Store → ℕ → List ℕ → List ℕ → Type 0
IsWritten s first written bytes = AreWritten s.next first (count_of s first) written bytes

-- an owner's bytes are the same outside pages that are free
pub record IsSameInUse (s : Store) (old new : List ℕ) : Type 0 where
  pub size : length new ≡ length old
  pub outside : (i : ℕ) → is_free s (i / page_bytes) ≡ false → get_or new i 0 ≡ get_or old i 0

-- an image is the same outside pages that are free
abbrev pub IsSameButFree : Store → List ℕ → List ℕ → Type 0
IsSameButFree s old new = OnBytes s.clusters (IsSameInUse s) old new

-- a page's numbers are those of one that has a next page, or of a last one
abbrev pub IsFit : ℕ → ℕ → Type 0
IsFit next used = (1 ≤ used) × (used ≤ payload_bytes) × ((next ≡ 0) ⊎ (used ≡ payload_bytes))

-- So many pages of a stored chain, from its first one on, are free, differ, and are full ones with that page behind them.
pub record IsPath (s : Store) (bytes next : List ℕ) (first n page : ℕ) : Type 0 where
  pub behind : page_behind next first n ≡ page
  pub free : (k : ℕ) → k < n → is_free s (page_behind next first k) ≡ true
  pub distinct : (j k : ℕ) → j < n → k < n → page_behind next first j ≡ page_behind next first k → j ≡ k
  pub goes_on : (k : ℕ) → k < n → 1 ≤ page_behind next first (k + 1)
  pub numbers : (k : ℕ) → k < n → number_at (page_bytes * page_behind next first k) 4 bytes ≡ page_behind next first (k + 1)
  pub full : (k : ℕ) → k < n → number_at (page_bytes * page_behind next first k + 4) 2 bytes ≡ payload_bytes

-- Behind pages that fit this one is the first that does not: it is not free, or the chain has it already, or its numbers do not fit.
pub record IsBad (s : Store) (bytes : List ℕ) (first page : ℕ) : Type 0 where
  pub next : List ℕ
  pub n : ℕ
  pub path : IsPath s bytes next first n page
  pub bad : (is_free s page ≡ false) ⊎ (IsAmong next first n page ⊎ (IsFit (number_at (page_bytes * page) 4 bytes) (number_at (page_bytes * page + 4) 2 bytes) → ⊥))

-- the number behind the k-th of so many pages whose numbers follow one another
abbrev pub run_number : ℕ → ℕ → ℕ → ℕ → ℕ
run_number first behind count k = if nat_lt (k + 1) count then first + (k + 1) else behind

-- an owner's bytes are the same outside so many pages from this one on
pub record IsSameButPages (next : List ℕ) (first count : ℕ) (old new : List ℕ) : Type 0 where
  pub size : length new ≡ length old
  pub outside : (i : ℕ) → ((k : ℕ) → k < count → page_behind next first k ≡ i / page_bytes → ⊥) → get_or new i 0 ≡ get_or old i 0

-- an image is the same outside the pages of that chain
abbrev pub IsSameButChain : Store → ℕ → List ℕ → List ℕ → Type 0
IsSameButChain s first old new = OnBytes s.clusters (IsSameButPages s.next first (count_of s first)) old new

-- so many pages from this one on lie on these clusters, and differ
pub record ArePages (clusters next : List ℕ) (first count : ℕ) : Type 0 where
  pub few : length next < 4294967296
  pub mapped : length next ≤ page_count clusters
  pub within : (k : ℕ) → k < count → page_behind next first k < length next
  pub distinct : (j k : ℕ) → j < count → k < count → page_behind next first j ≡ page_behind next first k → j ≡ k
