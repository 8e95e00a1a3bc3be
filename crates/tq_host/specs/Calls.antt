-- What the calls of a host do to what it tells.
use Rattle.std.specs.Prelude.{◌≡◌, ◌≢◌, ◌⊎◌, ◌<◌, ◌≤◌, ℕ, ◌+◌, min, max, List, [], ◌∷◌, ◌++◌, length, get_or, take, drop, replicate, Result, IfOk, OnOk, OnErr, Some}
use Rattle.tq_host.specs.declared.host.Failed.{Failed}
use Rattle.tq_host.specs.View.{Told, View, Streams, Picture, AreNow, IsNow, last_count, stamp_now}

abbrev pub next_count : ℕ → ℕ
next_count n = min (n + 1) last_count

-- a count rose, or stood at its last value where a call failed
abbrev pub Rose : ℕ → ℕ → Type 0
Rose before now = next_count before ≤ now

-- Bytes on a device

-- these bytes stand at this address
abbrev pub HasBytesAt : ℕ → List ℕ → List ℕ → Type 0
HasBytesAt at bytes image = (i : ℕ) → i < length bytes → get_or image (at + i) 0 ≡ get_or bytes i 0

-- outside n bytes from that address on, both have the same bytes
abbrev pub IsSameOutside : ℕ → ℕ → List ℕ → List ℕ → Type 0
IsSameOutside at n old new = (i : ℕ) → (i < at) ⊎ (at + n ≤ i) → get_or new i 0 ≡ get_or old i 0

-- the same length, and the same bytes outside n bytes from that address on
pub record IsSameBut (at n : ℕ) (old new : List ℕ) : Type 0 where
  pub outside : IsSameOutside at n old new
  pub size : length new ≡ length old

-- after a write
pub record IsWritten (at : ℕ) (bytes old new : List ℕ) : Type 0 where
  pub stands : HasBytesAt at bytes new
  pub outside : IsSameOutside at (length bytes) old new
  pub size : length new ≡ max (length old) (at + length bytes)

-- after a write that a stop may cut short: any bytes in the range, the same elsewhere
pub record IsTorn (at n : ℕ) (old new : List ℕ) : Type 0 where
  pub outside : IsSameOutside at n old new
  pub no_shorter : length old ≤ length new
  pub no_longer : length new ≤ max (length old) (at + n)

-- after a change of the length
pub record IsResized (n : ℕ) (old new : List ℕ) : Type 0 where
  pub front : (i : ℕ) → i < min (length old) n → get_or new i 0 ≡ get_or old i 0
  pub size : length new ≡ n

-- after a change of the length that a stop may cut short: a length between, any bytes past the smaller one
pub record IsPulled (n : ℕ) (old new : List ℕ) : Type 0 where
  pub front : (i : ℕ) → i < min (length old) n → get_or new i 0 ≡ get_or old i 0
  pub no_shorter : min (length old) n ≤ length new
  pub no_longer : length new ≤ max (length old) n

-- Calls

-- the count of a call's own faults: the same at Ok, risen at an error
pub record HasCause {T E : Type 0} (before now : ℕ) (result : Result T E) : Type 0 where
  pub later : before ≤ now
  pub ok : OnOk result (now ≡ before)
  pub failed : OnErr result (Rose before now)

-- The same of a call with several answers, one of which is that the outside failed.
pub record HasCauseOf (failed : Type 0) (before now : ℕ) : Type 0 where
  pub later : before ≤ now
  pub rose : failed → Rose before now
  pub only : before < now → failed

-- the clock goes on by one, or a call that failed left it
pub record Ticks {T E : Type 0} (before now : ℕ) (result : Result T E) : Type 0 where
  pub later : before ≤ now
  pub ok : OnOk result (now ≡ next_count before)
  pub failed : OnErr result ((now ≡ before) ⊎ (now ≡ next_count before))

-- each picture since a moment before the call is one that was known then, or one of this moment
abbrev pub Elapses : View → View → Type 0
Elapses old new = (t : ℕ) (p : Picture) → t ≤ old.clock → new.left_since t p → old.left_since t p ⊎ IsNow new p

-- no picture is forgotten
abbrev pub Keeps : View → View → Type 0
Keeps old new = (t : ℕ) (p : Picture) → t ≤ old.clock → old.left_since t p → new.left_since t p

-- a call on a device
pub record IsDeviceCall {T : Type 0} (result : Result T Failed) (old new : View) : Type 0 where
  pub clock : Ticks old.clock new.clock result
  pub cause : HasCause old.faults new.faults result
  pub streams : new.streams ≡ old.streams
  pub time : Elapses old new
  pub keeps : Keeps old new

-- what the devices read, what a stop may leave and what is attached is not changed
pub record IsStill (old new : View) : Type 0 where
  pub reads : (d : ℕ) → new.reads d ≡ old.reads d
  pub attached : new.attached ≡ old.attached
  pub may_leave : (d : ℕ) (c : List ℕ) → new.may_leave d c → old.may_leave d c

-- One device is attached by this path. That is told by the stamps of the output, so where the output is told. One that
-- failed may have changed what this device is attached by.
pub record Attaches (tells : Told) (dev : ℕ) (path : List ℕ) {T : Type 0} (result : Result T Failed) (old new : View) : Type 0 where
  pub own : OnOk result (tells.output → new.attached dev ≡ Some path)
  pub others : (d : ℕ) → d ≢ dev → new.attached d ≡ old.attached d
  pub reads : (d : ℕ) → new.reads d ≡ old.reads d
  pub may_leave : (d : ℕ) (c : List ℕ) → new.may_leave d c → old.may_leave d c

-- One device is changed; each image that a stop may leave of it is an earlier one after this step. What is read is what was read
-- before, after this step, whether the call failed or not.
pub record Changes (dev : ℕ) (step : List ℕ → List ℕ → Type 0) (old new : View) : Type 0 where
  pub others_read : (d : ℕ) → d ≢ dev → new.reads d ≡ old.reads d
  pub others : (d : ℕ) (c : List ℕ) → d ≢ dev → new.may_leave d c → old.may_leave d c
  pub attached : new.attached ≡ old.attached
  pub own : (c : List ℕ) → new.may_leave dev c → (b : List ℕ) × old.may_leave dev b × step b c
  pub own_read : step (old.reads dev) (new.reads dev)

-- a sync that succeeds: a stop leaves what is read
pub record Syncs (dev : ℕ) (old new : View) : Type 0 where
  pub durable : (c : List ℕ) → new.may_leave dev c → c ≡ old.reads dev

-- a call on a stream changes no device
pub record IsStreamCall {T : Type 0} (result : Result T Failed) (old new : View) : Type 0 where
  pub clock : Ticks old.clock new.clock result
  pub faults : new.faults ≡ old.faults
  pub still : IsStill old new
  pub keeps : Keeps old new

-- n bytes of the script are taken into a buffer
pub record IsTaken (n : ℕ) (into before after : List ℕ) : Type 0 where
  pub bytes : take n into ≡ take n before
  pub left : after ≡ drop n before
  pub enough : n ≤ length before
  pub end : n ≡ 0 → before ≡ []

-- a take of n bytes is counted
pub record IsCounted (n : ℕ) (old new : Streams) : Type 0 where
  pub taken : new.taken ≡ old.taken + n
  pub takes : new.takes ≡ old.takes ++ (record { taken = old.taken; given = length old.output }) ∷ []

pub record Takes (tells : Told) (result : Result ℕ Failed) (into : List ℕ) (old new : Streams) : Type 0 where
  pub cause : HasCause old.input_faults new.input_faults result
  pub bound : IfOk result (λ n. n ≤ length into)
  pub bytes : IfOk result (λ n. tells.script → IsTaken n into old.script new.script)
  pub counted : IfOk result (λ n. tells.output → IsCounted n old new)
  pub script : OnErr result (new.script ≡ old.script)
  pub taken : OnErr result (new.taken ≡ old.taken)
  pub takes : OnErr result (new.takes ≡ old.takes)
  pub output : new.output ≡ old.output
  pub stamps : new.stamps ≡ old.stamps
  pub output_faults : new.output_faults ≡ old.output_faults

-- the first k of these bytes are given
pub record IsGiven (k : ℕ) (bytes : List ℕ) (old new : View) : Type 0 where
  pub within : k ≤ length bytes
  pub output : new.streams.output ≡ old.streams.output ++ take k bytes
  pub stamps : new.streams.stamps ≡ old.streams.stamps ++ replicate k (stamp_now old)

pub record Gives (tells : Told) (result : Result (Unit {0}) Failed) (bytes : List ℕ) (old new : View) : Type 0 where
  pub cause : HasCause old.streams.output_faults new.streams.output_faults result
  pub ok : OnOk result (tells.output → IsGiven (length bytes) bytes old new)
  pub failed : OnErr result (tells.output → (k : ℕ) × IsGiven k bytes old new)
  pub script : new.streams.script ≡ old.streams.script
  pub taken : new.streams.taken ≡ old.streams.taken
  pub takes : new.streams.takes ≡ old.streams.takes
  pub input_faults : new.streams.input_faults ≡ old.streams.input_faults

-- a picture within a give: some first part of the bytes is given
pub record IsGiving (bytes : List ℕ) (old new : View) (p : Picture) : Type 0 where
  pub images : AreNow new p.images
  pub count : ℕ
  pub output : p.output ≡ old.streams.output ++ take count bytes
  pub within : length p.output ≤ length new.streams.output

abbrev pub ElapsesGiving : List ℕ → View → View → Type 0
ElapsesGiving bytes old new = (t : ℕ) (p : Picture) → t ≤ old.clock → new.left_since t p → old.left_since t p ⊎ IsGiving bytes old new p
