-- A device between two syncs, and the images that a stop may leave of it.
use Rattle.std.specs.Prelude.{◌≡◌, ◌⊎◌, ◌<◌, ◌≤◌, ℕ, ◌+◌, ◌-◌, min, max, List, [], ◌∷◌, ◌++◌, length, get_or, take, drop, replicate}

-- What was tried since the last sync that succeeded, by calls that failed too.
pub record Pending : Type 0 where
  pub synced : List ℕ  -- the bytes that the sync left
  pub low : ℕ  -- the smallest length since
  pub high : ℕ  -- the greatest length since
  pub ranges : List (ℕ × ℕ)  -- the address and the length of each write

pub record Disk : Type 0 where
  pub seen : List ℕ  -- what is read
  pub pending : Pending

-- the byte lies in one of the ranges
abbrev pub IsTried : List (ℕ × ℕ) → ℕ → Type 0
IsTried [] i = ⊥
IsTried (range ∷ ranges) i = ((range.0 ≤ i) × (i < range.0 + range.1)) ⊎ IsTried ranges i

-- An image that a stop may leave: any length between the smallest and the greatest, any bytes in the ranges and past
-- the smallest length, the synced bytes elsewhere.
pub record IsImage (pending : Pending) (image : List ℕ) : Type 0 where
  pub no_shorter : pending.low ≤ length image
  pub no_longer : length image ≤ pending.high
  pub bytes : (i : ℕ) → i < pending.low → (IsTried pending.ranges i → ⊥) → get_or image i 0 ≡ get_or pending.synced i 0

-- nothing was tried since these bytes were synced
abbrev pub settled : List ℕ → Disk
settled bytes = record { seen = bytes; pending = record { synced = bytes; low = length bytes; high = length bytes; ranges = [] } }

-- the bytes after a write
abbrev pub overwrite : ℕ → List ℕ → List ℕ → List ℕ
overwrite at bytes old = take at old ++ bytes ++ drop (at + length bytes) old

-- the bytes after a change of the length
abbrev pub resize : ℕ → List ℕ → List ℕ
resize n old = take n old ++ replicate (n - length old) 0

-- a write of n bytes is tried
abbrev pub try_write : ℕ → ℕ → Pending → Pending
try_write at n pending = record pending { high = max pending.high (at + n); ranges = (at, n) ∷ pending.ranges }

-- a change of the length is tried
abbrev pub try_resize : ℕ → Pending → Pending
try_resize n pending = record pending { low = min pending.low n; high = max pending.high n }

-- after a write that failed what is read stays
abbrev pub tried_write : ℕ → ℕ → Disk → Disk
tried_write at n disk = record disk { pending = try_write at n disk.pending }

abbrev pub written : ℕ → List ℕ → Disk → Disk
written at bytes disk = record { seen = overwrite at bytes disk.seen; pending = try_write at (length bytes) disk.pending }

abbrev pub tried_resize : ℕ → Disk → Disk
tried_resize n disk = record disk { pending = try_resize n disk.pending }

abbrev pub resized : ℕ → Disk → Disk
resized n disk = record { seen = resize n disk.seen; pending = try_resize n disk.pending }
