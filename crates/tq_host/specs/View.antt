-- What a host tells at a moment.
use Rattle.std.specs.Prelude.{◌≡◌, ◌≤◌, ◌<◌, ℕ, List, Option}

-- The meanings that a host may tell, each by itself.
pub record Told : Type 1 where
  pub reads : Type 0  -- what each device reads
  pub script : Type 0  -- the script left
  pub output : Type 0  -- the output so far, with a stamp per byte, and the takes
  pub stops : Type 0  -- what a stop may leave

pub record TellsAll (tells : Told) : Type 0 where
  pub reads : tells.reads
  pub script : tells.script
  pub output : tells.output
  pub stops : tells.stops

-- The moment at which a byte of the output was given: the clock before that call, the device count so far, what each
-- device read then, and the path that it was attached by.
pub record Stamp : Type 0 where
  pub clock : ℕ
  pub faults : ℕ
  pub reads : ℕ → List ℕ
  pub attached : ℕ → Option (List ℕ)

-- A take that answered Ok: the script bytes taken and the output bytes given before it.
pub record TakeStamp : Type 0 where
  pub taken : ℕ
  pub given : ℕ

-- The input and the output.
pub record Streams : Type 0 where
  pub script : List ℕ  -- what is left
  pub taken : ℕ  -- the number of script bytes taken so far
  pub takes : List TakeStamp
  pub output : List ℕ
  pub stamps : List Stamp
  pub input_faults : ℕ
  pub output_faults : ℕ

-- one image per device
abbrev pub Images : Type 0
Images = ℕ → List ℕ

-- What a stop leaves: one image per device, each chosen by itself, and the output of that moment.
pub record Picture : Type 0 where
  pub images : Images
  pub output : List ℕ

pub record View : Type 1 where
  pub clock : ℕ
  pub faults : ℕ  -- the device count
  pub streams : Streams
  pub reads : ℕ → List ℕ
  pub attached : ℕ → Option (List ℕ)  -- the path that each device was attached by
  pub may_leave : ℕ → List ℕ → Type 0  -- the images that a stop now may leave of a device
  pub left_since : ℕ → Picture → Type 0  -- the pictures of a moment from this clock on

-- the last value of a clock or a count
abbrev pub last_count : ℕ
last_count = 18446744073709551615

-- the stamp of a byte that is given now
abbrev pub stamp_now : View → Stamp
stamp_now v = record { clock = v.clock; faults = v.faults; reads = v.reads; attached = v.attached }

-- the images of a picture are of this moment
abbrev pub AreNow : View → Images → Type 0
AreNow v images = (d : ℕ) → v.may_leave d (images d)

-- a picture of this moment
pub record IsNow (v : View) (p : Picture) : Type 0 where
  pub images : AreNow v p.images
  pub output : p.output ≡ v.streams.output

-- nothing is pending on a device: its one image is what it reads
abbrev pub IsSettled : ℕ → View → Type 0
IsSettled dev v = (c : List ℕ) → v.may_leave dev c → c ≡ v.reads dev

-- nothing is pending on the first so many devices
abbrev pub AreSettled : ℕ → View → Type 0
AreSettled devices v = (d : ℕ) → d < devices → IsSettled d v

-- What holds of a host at each moment.
pub record IsLawful (tells : Told) (v : View) : Type 0 where
  -- what a device reads is one of the images that a stop may leave
  pub reads_an_image : tells.stops → (d : ℕ) → v.may_leave d (v.reads d)
  -- only a host that tells what a stop may leave has images or pictures
  pub stops_told : (d : ℕ) (c : List ℕ) → v.may_leave d c → tells.stops
  pub left_told : (t : ℕ) (p : Picture) → v.left_since t p → tells.stops
  -- one that tells what a stop may leave tells what is read, and the other way round
  pub reads_told : tells.stops → tells.reads
  pub stops_too : tells.reads → tells.stops
  -- since this moment there is no other
  pub only_now : (p : Picture) → v.left_since v.clock p → IsNow v p
  -- a picture of this moment is one since each earlier moment
  pub counts_now : (t : ℕ) (p : Picture) → t ≤ v.clock → IsNow v p → v.left_since t p
  -- where a moment can be told from the next one, the clock has not come to its end
  pub goes_on : tells.stops → v.clock < last_count
