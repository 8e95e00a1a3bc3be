-- What a record of calls leads to.
use Rattle.std.specs.Prelude.{◌≡◌, ◌≢◌, ◌⊎◌, ◌<◌, ℕ, ◌+◌, zero, suc, List, [], ◌∷◌, ◌++◌, length, get_or, take, replicate, map, if◌then◌else◌, ◌==◌, Vec, Option, Some, None}
use Rattle.std.specs.declared.alloc.Global.{Global}
use Rattle.tq_host.specs.declared.kind.CallKind.{CallKind}
use Rattle.tq_host.specs.declared.call.Call.{Call}
use Rattle.tq_host.specs.declared.call.Call.TheVariants as call
use Rattle.tq_host.specs.View.{Picture, Stamp, TakeStamp}
use Rattle.tq_host.specs.Disk.{Disk, IsImage, settled, written, tried_write, resized, tried_resize}

-- A call as it is recorded.
pub data Event : Type 0 where
  load : ℕ → List ℕ → Event  -- these bytes become a device's content
  write : ℕ → ℕ → List ℕ → Event  -- a device, an address, the bytes
  lost_write : ℕ → ℕ → List ℕ → Event  -- a write that failed
  resize : ℕ → ℕ → Event  -- a device, its length
  lost_resize : ℕ → ℕ → Event  -- a change of the length that failed
  sync : ℕ → Event
  attach : ℕ → List ℕ → Event  -- a device, the path
  take_some : ℕ → Event  -- the number of bytes
  give_all : List ℕ → ℕ → ℕ → Event  -- the bytes, the clock, the device count
  pass : CallKind → Event  -- a call that changes nothing: it only reads, or it failed

abbrev pub event_of : Call → Event
event_of (call.Load dev image) = load dev image.items
event_of (call.Write dev at bytes) = write dev at bytes.items
event_of (call.LostWrite dev at bytes) = lost_write dev at bytes.items
event_of (call.Resize dev size) = resize dev size
event_of (call.LostResize dev size) = lost_resize dev size
event_of (call.Sync dev) = sync dev
event_of (call.Take count) = take_some count
event_of (call.Attach dev path) = attach dev path.items
event_of (call.Give bytes clock faults) = give_all bytes.items clock faults
event_of (call.Pass kind) = pass kind

abbrev pub events_of : List Call → List Event
events_of calls = map event_of calls

pub record State : Type 0 where
  pub disks : ℕ → Disk
  pub attached : ℕ → Option (List ℕ)
  pub output : List ℕ
  pub stamps : List Stamp
  pub taken : ℕ
  pub takes : List TakeStamp

-- eight empty devices, none attached, nothing taken and nothing given
abbrev pub blank : State
blank = record { disks = λ d. settled []; attached = λ d. None; output = []; stamps = []; taken = 0; takes = [] }

-- this in the place of what that device has
abbrev pub put : {A : Type 0} → ℕ → A → (ℕ → A) → ℕ → A
put dev one all d = if d == dev then one else all d

abbrev pub step : Event → State → State
step (load dev image) s = record s { disks = put dev (settled image) s.disks }
step (write dev at bytes) s = record s { disks = put dev (written at bytes (s.disks dev)) s.disks }
step (lost_write dev at bytes) s = record s { disks = put dev (tried_write at (length bytes) (s.disks dev)) s.disks }
step (resize dev n) s = record s { disks = put dev (resized n (s.disks dev)) s.disks }
step (lost_resize dev n) s = record s { disks = put dev (tried_resize n (s.disks dev)) s.disks }
step (sync dev) s = record s { disks = put dev (settled (s.disks dev).seen) s.disks }
step (take_some n) s = record s { taken = s.taken + n; takes = s.takes ++ (record { taken = s.taken; given = length s.output }) ∷ [] }
step (attach dev path) s = record s { attached = put dev (Some path) s.attached }
step (give_all bytes clock faults) s = record s {
  output = s.output ++ bytes;
  stamps = s.stamps ++ replicate (length bytes) (record { clock = clock; faults = faults; reads = λ d. (s.disks d).seen; attached = s.attached });
}
step (pass kind) s = s

abbrev pub replay : State → List Event → State
replay s [] = s
replay s (event ∷ events) = replay (step event s) events

-- a picture of the state
pub record IsShot (s : State) (p : Picture) : Type 0 where
  pub images : (d : ℕ) → IsImage (s.disks d).pending (p.images d)
  pub output : p.output ≡ s.output

-- a picture within a give
pub record IsGivingShot (s : State) (bytes : List ℕ) (p : Picture) : Type 0 where
  pub images : (d : ℕ) → IsImage (s.disks d).pending (p.images d)
  pub count : ℕ
  pub output : p.output ≡ s.output ++ take count bytes

-- a picture within a call
abbrev pub IsDuring : Event → State → Picture → Type 0
IsDuring (give_all bytes clock faults) s p = IsGivingShot s bytes p
IsDuring event s p = IsShot s p

-- a picture since the moment before the t-th of these calls
abbrev pub LeftSince : State → ℕ → List Event → Picture → Type 0
LeftSince s zero [] p = IsShot s p
LeftSince s (suc t) [] p = ⊥
LeftSince s zero (event ∷ events) p = IsDuring event s p ⊎ LeftSince (step event s) zero events p
LeftSince s (suc t) (event ∷ events) p = LeftSince (step event s) t events p

-- what each device reads is one of its images
abbrev pub IsFine : State → Type 0
IsFine s = (d : ℕ) → IsImage (s.disks d).pending (s.disks d).seen

-- these vectors hold what the devices read
abbrev pub Shows : List (Vec ℕ Global) → State → Type 0
Shows devices s = (d : ℕ) (other : Vec ℕ Global) → d < 8 → (get_or devices d other).items ≡ (s.disks d).seen

-- after this call device dev reads these bytes, and the rest is as before
pub record LeadsTo (dev : ℕ) (bytes : List ℕ) (s next : State) : Type 0 where
  pub own : (next.disks dev).seen ≡ bytes
  pub others : (d : ℕ) → d ≢ dev → (next.disks d).seen ≡ (s.disks d).seen
  pub output : next.output ≡ s.output
  pub taken : next.taken ≡ s.taken
  pub fine : IsFine next

-- after this call all that is read, taken and given is as before
pub record LeavesAll (s next : State) : Type 0 where
  pub seen : (d : ℕ) → (next.disks d).seen ≡ (s.disks d).seen
  pub output : next.output ≡ s.output
  pub taken : next.taken ≡ s.taken
  pub fine : IsFine next
