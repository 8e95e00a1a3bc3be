-- What a call on a host in memory does to what it tells.
use Rattle.std.proofs.Common.{◌≡◌, ◌≢◌, ◌⊎◌, inl, inr, ⊎_elim, ◌<◌, ◌≤◌, ℕ, ◌+◌, ◌-◌, min, List, [], ◌∷◌, ◌++◌, length, take, drop, Result, Ok, Err, OnOk, IfOk, Option, Some, refl, sym, ◌∙◌, ap, subst, arith, length-append, length-drop}
use Rattle.std.proofs.lemmas.List.{append-nil, take_all, take_at, drop_all, drop-drop, length-take}
use Rattle.std.proofs.lemmas.Bool.{cases_eq}
use Rattle.tq_host.specs.declared.host.Failed.{Failed}
use Rattle.tq_host.specs.declared.counts.Counts.{Counts}
use Rattle.tq_host.specs.declared.counts.Part.{Part}
use Rattle.tq_host.specs.declared.counts.Part.TheVariants.{Devices, Input, Output}
use Rattle.tq_host.specs.declared.kind.CallKind.{CallKind}
use Rattle.tq_host.specs.declared.outside.Outside.{Outside}
use Rattle.tq_host.specs.View.{Picture, last_count}
use Rattle.tq_host.specs.Calls.{Changes, IsStill, Attaches, Syncs, Elapses, Keeps, Ticks, IsDeviceCall, IsStreamCall, Gives, IsGiving, ElapsesGiving, Takes, IsWritten, IsTorn, IsResized, IsPulled}
use Rattle.tq_host.specs.Counts.{raised}
use Rattle.tq_host.specs.Disk.{Disk, IsImage, settled, written, tried_write, resized, tried_resize}
use Rattle.tq_host.specs.Events.{Event, load, write, lost_write, resize, lost_resize, sync, attach, take_some, give_all, pass, State, blank, put, step, replay, IsShot, IsDuring, LeftSince, IsFine}
use Rattle.tq_host.specs.Account.{Account, everything, view_of, IsRecorded}
use Rattle.tq_host.specs.Outside.{account_of}
use Rattle.tq_host.specs.Memory.{IsLoaded}
use Rattle.tq_host.specs.Lawful.{counts_now, events_long}
use Rattle.tq_host.proofs.Bytes.{torn_none, pulled_none, torn_written, pulled_resized}
use Rattle.tq_host.proofs.Images.{is_overwritten, is_resized, write_image, resize_image, settled_image}
use Rattle.tq_host.proofs.ReplayLemmas.{after, since, keeps_later, put_own, put_other}

-- the state of an account
abbrev now : Account → State
now a = replay blank a.events

pub small_of : (o : Outside) → length (account_of o).events < last_count
small_of o = omega (arith, events_long o.calls.items, o.small)

-- an event that gives and takes nothing
pub record IsQuiet (event : Event) : Type 0 where
  pub output : (s : State) → (step event s).output ≡ s.output
  pub stamps : (s : State) → (step event s).stamps ≡ s.stamps
  pub taken : (s : State) → (step event s).taken ≡ s.taken
  pub takes : (s : State) → (step event s).takes ≡ s.takes
  pub during : (s : State) (p : Picture) → IsDuring event s p → IsShot s p

-- an event that leaves the devices and the paths that they are attached by
pub record LeavesDevices (event : Event) : Type 0 where
  pub disks : (s : State) → (step event s).disks ≡ s.disks
  pub attached : (s : State) → (step event s).attached ≡ s.attached

abbrev Grew : Event → Account → Account → Type 0
Grew event a b = (b.events ≡ a.events ++ event ∷ []) ⊎ (b.events ≡ a.events)

-- Time

keeps : (event : Event) (a b : Account) → Grew event a b → Keeps (view_of a) (view_of b)
keeps event a b (inl is) t p le left = keeps_later a.events b.events event is t p left
keeps event a b (inr is) t p le left = subst (λ (l : List Event). LeftSince blank t l p) (sym is) left

elapses : (event : Event) (a b : Account) → ((s : State) (p : Picture) → IsDuring event s p → IsShot s p) → Grew event a b → Elapses (view_of a) (view_of b)
elapses event a b during (inl is) t p le left = elim (since a.events b.events event is t p le left) [
  | inl old ↦ inl old
  | inr new ↦ ⊎_elim (λ within. inl (counts_now a.events blank t p le (during (now a) p within))) (λ shot. inr (record { images = shot.images; output = shot.output })) new
]
elapses event a b during (inr is) t p le left = inl (subst (λ (l : List Event). LeftSince blank t l p) is left)

long : (event : Event) (a b : Account) → b.events ≡ a.events ++ event ∷ [] → length b.events ≡ length a.events + 1
long event a b is = ap length is ∙ length-append a.events (event ∷ [])

ticks_ok : {T : Type 0} (x : T) (event : Event) (a b : Account) → length b.events < last_count → b.events ≡ a.events ++ event ∷ [] → Ticks {T = T} {E = Failed} (length a.events) (length b.events) (Ok x)
ticks_ok x event a b small is = record { later = omega (arith, long event a b is); ok = omega (arith, long event a b is, small); failed = tt }

ticks_err : {T : Type 0} (e : Failed) (event : Event) (a b : Account) → length b.events < last_count → Grew event a b → Ticks {T = T} {E = Failed} (length a.events) (length b.events) (Err e)
ticks_err e event a b small (inl is) = record { later = omega (arith, long event a b is); ok = tt; failed = inr (omega (arith, long event a b is, small)) }
ticks_err e event a b small (inr is) = record { later = omega (arith, ap length is); ok = tt; failed = inl (ap length is) }

-- A call on a device

streams_same : (a b : Account) → b.script ≡ a.script → (now b).output ≡ (now a).output → (now b).stamps ≡ (now a).stamps → (now b).taken ≡ (now a).taken → (now b).takes ≡ (now a).takes
    → b.counts.input ≡ a.counts.input → b.counts.output ≡ a.counts.output → (view_of b).streams ≡ (view_of a).streams
streams_same a b script output stamps taken takes input faults = cc

quiet_streams : (event : Event) (a b : Account) → IsQuiet event → b.script ≡ a.script → Grew event a b → b.counts.input ≡ a.counts.input → b.counts.output ≡ a.counts.output → (view_of b).streams ≡ (view_of a).streams
quiet_streams event a b quiet script (inl is) input output =
    let e = after a.events b.events event is in
    streams_same a b script (ap (λ (s : State). s.output) e ∙ quiet.output (now a)) (ap (λ (s : State). s.stamps) e ∙ quiet.stamps (now a)) (ap (λ (s : State). s.taken) e ∙ quiet.taken (now a)) (ap (λ (s : State). s.takes) e ∙ quiet.takes (now a)) input output
quiet_streams event a b quiet script (inr is) input output =
    let e : now b ≡ now a = ap (replay blank) is in
    streams_same a b script (ap (λ (s : State). s.output) e) (ap (λ (s : State). s.stamps) e) (ap (λ (s : State). s.taken) e) (ap (λ (s : State). s.takes) e) input output

pub device_call : {T : Type 0} (r : Result T Failed) (success : T → Event) (failure : Event) (a b : Account) → ((x : T) → IsQuiet (success x)) → IsQuiet failure → length b.events < last_count
    → IsRecorded Devices r success failure a b → IsDeviceCall r (view_of a) (view_of b)
device_call (Ok x) success failure a b quiet quiet' small recorded =
    let is = recorded.done.0 in
    let counts = recorded.done.1 in
    record {
      clock = ticks_ok x (success x) a b small is;
      cause = record { later = recorded.later.device; ok = ap (λ (c : Counts). c.device) counts; failed = tt };
      streams = quiet_streams (success x) a b (quiet x) recorded.script (inl is) (ap (λ (c : Counts). c.input) counts) (ap (λ (c : Counts). c.output) counts);
      time = elapses (success x) a b (quiet x).during (inl is);
      keeps = keeps (success x) a b (inl is);
    }
device_call (Err e) success failure a b quiet quiet' small recorded =
    let grew = recorded.failed.0 in
    let counts = recorded.failed.1 in
    let count = ap (λ (c : Counts). c.device) counts in
    record {
      clock = ticks_err e failure a b small grew;
      cause = record { later = recorded.later.device; ok = tt; failed = omega (arith, count) };
      streams = quiet_streams failure a b quiet' recorded.script grew (ap (λ (c : Counts). c.input) counts) (ap (λ (c : Counts). c.output) counts);
      time = elapses failure a b quiet'.during grew;
      keeps = keeps failure a b grew;
    }

-- A call that changes no device

still_once : (event : Event) (a b : Account) → LeavesDevices event → Grew event a b → IsStill (view_of a) (view_of b)
still_once event a b same (inl is) =
    let step_is = after a.events b.events event is in
    let e : (now b).disks ≡ (now a).disks = ap (λ (s : State). s.disks) step_is ∙ same.disks (now a) in
    let attached = ap (λ (s : State). s.attached) step_is ∙ same.attached (now a) in
    record { reads = λ d. ap (λ (f : ℕ → Disk). (f d).seen) e; attached = attached; may_leave = λ d c may. subst (λ (f : ℕ → Disk). IsImage (f d).pending c) e may }
still_once event a b same (inr is) =
    let e : now b ≡ now a = ap (replay blank) is in
    record { reads = λ d. ap (λ (s : State). (s.disks d).seen) e; attached = ap (λ (s : State). s.attached) e; may_leave = λ d c may. subst (λ (s : State). IsImage (s.disks d).pending c) e may }

pub leaves_still : {T : Type 0} (part : Part) (r : Result T Failed) (success : T → Event) (failure : Event) (a b : Account) → ((x : T) → LeavesDevices (success x)) → LeavesDevices failure
    → IsRecorded part r success failure a b → IsStill (view_of a) (view_of b)
leaves_still part (Ok x) success failure a b same same' recorded = still_once (success x) a b (same x) (inl recorded.done.0)
leaves_still part (Err e) success failure a b same same' recorded = still_once failure a b same' recorded.failed.0

pub quiet_pass : (kind : CallKind) → IsQuiet (pass kind)
quiet_pass kind = record { output = λ s. refl; stamps = λ s. refl; taken = λ s. refl; takes = λ s. refl; during = λ s p shot. shot }

pass_leaves : (kind : CallKind) → LeavesDevices (pass kind)
pass_leaves kind = record { disks = λ s. refl; attached = λ s. refl }

-- a call that only reads
pub look_call : {T : Type 0} (r : Result T Failed) (kind : CallKind) (a b : Account) → length b.events < last_count → IsRecorded Devices r (λ _. pass kind) (pass kind) a b → IsDeviceCall r (view_of a) (view_of b)
look_call r kind a b small recorded = device_call r (λ _. pass kind) (pass kind) a b (λ x. quiet_pass kind) (quiet_pass kind) small recorded

pub look_still : {T : Type 0} (r : Result T Failed) (kind : CallKind) (a b : Account) → IsRecorded Devices r (λ _. pass kind) (pass kind) a b → IsStill (view_of a) (view_of b)
look_still r kind a b recorded = leaves_still Devices r (λ _. pass kind) (pass kind) a b (λ x. pass_leaves kind) (pass_leaves kind) recorded

-- A call that changes one device

module _ (event : Event) (a b : Account) (is : b.events ≡ a.events ++ event ∷ []) (dev : ℕ) (disk : Disk) (puts : (step event (now a)).disks ≡ put dev disk (now a).disks) where
  own_disk : (now b).disks dev ≡ disk
  own_disk = ap (λ (s : State). s.disks dev) (after a.events b.events event is) ∙ ap (λ (f : ℕ → Disk). f dev) puts ∙ put_own dev disk (now a).disks

  other_disk : (d : ℕ) → d ≢ dev → (now b).disks d ≡ (now a).disks d
  other_disk d ne = ap (λ (s : State). s.disks d) (after a.events b.events event is) ∙ ap (λ (f : ℕ → Disk). f d) puts ∙ put_other dev disk (now a).disks d ne

  change_once : (R : List ℕ → List ℕ → Type 0) → (step event (now a)).attached ≡ (now a).attached
      → ((c : List ℕ) → IsImage disk.pending c → (i : List ℕ) × IsImage ((now a).disks dev).pending i × R i c) → R ((now a).disks dev).seen disk.seen
      → Changes dev R (view_of a) (view_of b)
  change_once R attached image read = record {
    attached = ap (λ (s : State). s.attached) (after a.events b.events event is) ∙ attached;
    others_read = λ d ne. ap (λ (k : Disk). k.seen) (other_disk d ne);
    others = λ d c ne may. subst (λ (k : Disk). IsImage k.pending c) (other_disk d ne) may;
    own = λ c may. image c (subst (λ (k : Disk). IsImage k.pending c) own_disk may);
    own_read = subst (λ (k : Disk). R ((now a).disks dev).seen k.seen) (sym own_disk) read;
  }

change_none : (a b : Account) (dev : ℕ) (R : List ℕ → List ℕ → Type 0) → ((c : List ℕ) → R c c) → b.events ≡ a.events → Changes dev R (view_of a) (view_of b)
change_none a b dev R none is =
    let e : now b ≡ now a = ap (replay blank) is in
    record {
      others_read = λ d ne. ap (λ (s : State). (s.disks d).seen) e;
      attached = ap (λ (s : State). s.attached) e;
      others = λ d c ne may. subst (λ (s : State). IsImage (s.disks d).pending c) e may;
      own = λ c may. (c, subst (λ (s : State). IsImage (s.disks dev).pending c) e may, none c);
      own_read = subst (λ (s : State). R ((now a).disks dev).seen (s.disks dev).seen) (sym e) (none ((now a).disks dev).seen);
    }

-- a write
module _ (r : Result (Unit {0}) Failed) (dev at : ℕ) (bytes : List ℕ) (a b : Account) (recorded : IsRecorded Devices r (λ _. write dev at bytes) (lost_write dev at bytes) a b) where
  pub write_call : length b.events < last_count → IsDeviceCall r (view_of a) (view_of b)
  write_call small = device_call r (λ _. write dev at bytes) (lost_write dev at bytes) a b
      (λ x. record { output = λ s. refl; stamps = λ s. refl; taken = λ s. refl; takes = λ s. refl; during = λ s p shot. shot })
      (record { output = λ s. refl; stamps = λ s. refl; taken = λ s. refl; takes = λ s. refl; during = λ s p shot. shot }) small recorded

pub write_changes : (r : Result (Unit {0}) Failed) (dev at : ℕ) (bytes : List ℕ) (a b : Account) → IsRecorded Devices r (λ _. write dev at bytes) (lost_write dev at bytes) a b
    → IsFine (now a) → at ≤ length ((now a).disks dev).seen → Changes dev (IsTorn at (length bytes)) (view_of a) (view_of b)
write_changes (Ok x) dev at bytes a b recorded fine begin =
    let disk = (now a).disks dev in
    change_once (write dev at bytes) a b recorded.done.0 dev (written at bytes disk) refl (IsTorn at (length bytes)) refl (write_image at (length bytes) disk.pending disk.seen (fine dev) begin)
    (torn_written at bytes disk.seen _ (is_overwritten at bytes disk.seen begin))
write_changes (Err e) dev at bytes a b recorded fine begin =
    let disk = (now a).disks dev in
    ⊎_elim (λ is. change_once (lost_write dev at bytes) a b is dev (tried_write at (length bytes) disk) refl (IsTorn at (length bytes)) refl
    (write_image at (length bytes) disk.pending disk.seen (fine dev) begin) (torn_none at (length bytes) disk.seen))
    (λ is. change_none a b dev (IsTorn at (length bytes)) (torn_none at (length bytes)) is) recorded.failed.0

pub write_done : (r : Result (Unit {0}) Failed) (dev at : ℕ) (bytes : List ℕ) (a b : Account) → IsRecorded Devices r (λ _. write dev at bytes) (lost_write dev at bytes) a b
    → at ≤ length ((now a).disks dev).seen → OnOk r (everything.reads → IsWritten at bytes ((view_of a).reads dev) ((view_of b).reads dev))
write_done (Ok x) dev at bytes a b recorded begin = λ told.
    let disk = (now a).disks dev in
    subst (λ (l : List ℕ). IsWritten at bytes disk.seen l) (sym (ap (λ (k : Disk). k.seen) (own_disk (write dev at bytes) a b recorded.done.0 dev (written at bytes disk) refl))) (is_overwritten at bytes disk.seen begin)
write_done (Err e) dev at bytes a b recorded begin = tt

-- a change of the length
pub resize_call : (r : Result (Unit {0}) Failed) (dev n : ℕ) (a b : Account) → length b.events < last_count → IsRecorded Devices r (λ _. resize dev n) (lost_resize dev n) a b → IsDeviceCall r (view_of a) (view_of b)
resize_call r dev n a b small recorded = device_call r (λ _. resize dev n) (lost_resize dev n) a b
    (λ x. record { output = λ s. refl; stamps = λ s. refl; taken = λ s. refl; takes = λ s. refl; during = λ s p shot. shot })
    (record { output = λ s. refl; stamps = λ s. refl; taken = λ s. refl; takes = λ s. refl; during = λ s p shot. shot }) small recorded

pub resize_changes : (r : Result (Unit {0}) Failed) (dev n : ℕ) (a b : Account) → IsRecorded Devices r (λ _. resize dev n) (lost_resize dev n) a b
    → IsFine (now a) → Changes dev (IsPulled n) (view_of a) (view_of b)
resize_changes (Ok x) dev n a b recorded fine =
    let disk = (now a).disks dev in
    change_once (resize dev n) a b recorded.done.0 dev (resized n disk) refl (IsPulled n) refl (resize_image n disk.pending disk.seen (fine dev))
    (pulled_resized n disk.seen _ (is_resized n disk.seen))
resize_changes (Err e) dev n a b recorded fine =
    let disk = (now a).disks dev in
    ⊎_elim (λ is. change_once (lost_resize dev n) a b is dev (tried_resize n disk) refl (IsPulled n) refl
    (resize_image n disk.pending disk.seen (fine dev)) (pulled_none n disk.seen))
    (λ is. change_none a b dev (IsPulled n) (pulled_none n) is) recorded.failed.0

pub resize_done : (r : Result (Unit {0}) Failed) (dev n : ℕ) (a b : Account) → IsRecorded Devices r (λ _. resize dev n) (lost_resize dev n) a b
    → OnOk r (everything.reads → IsResized n ((view_of a).reads dev) ((view_of b).reads dev))
resize_done (Ok x) dev n a b recorded = λ told.
    let disk = (now a).disks dev in
    subst (λ (l : List ℕ). IsResized n disk.seen l) (sym (ap (λ (k : Disk). k.seen) (own_disk (resize dev n) a b recorded.done.0 dev (resized n disk) refl))) (is_resized n disk.seen)
resize_done (Err e) dev n a b recorded = tt

-- a sync
pub sync_call : (r : Result (Unit {0}) Failed) (dev : ℕ) (kind : CallKind) (a b : Account) → length b.events < last_count → IsRecorded Devices r (λ _. sync dev) (pass kind) a b → IsDeviceCall r (view_of a) (view_of b)
sync_call r dev kind a b small recorded = device_call r (λ _. sync dev) (pass kind) a b
    (λ x. record { output = λ s. refl; stamps = λ s. refl; taken = λ s. refl; takes = λ s. refl; during = λ s p shot. shot }) (quiet_pass kind) small recorded

module _ (dev : ℕ) (a b : Account) (is : b.events ≡ a.events ++ sync dev ∷ []) where
  own_synced : (now b).disks dev ≡ settled ((now a).disks dev).seen
  own_synced = own_disk (sync dev) a b is dev (settled ((now a).disks dev).seen) refl

  other_synced : (d : ℕ) → d ≢ dev → (now b).disks d ≡ (now a).disks d
  other_synced d ne = other_disk (sync dev) a b is dev (settled ((now a).disks dev).seen) refl d ne

  durable : (c : List ℕ) → IsImage ((now b).disks dev).pending c → c ≡ ((now a).disks dev).seen
  durable c may = settled_image ((now a).disks dev).seen c (subst (λ (k : Disk). IsImage k.pending c) own_synced may)

  synced_still : IsFine (now a) → IsStill (view_of a) (view_of b)
  synced_still fine = record {
    attached = ap (λ (s : State). s.attached) (after a.events b.events (sync dev) is);
    reads = λ d. elim (cases_eq d dev) [
      | inl same ↦
          let Same : ℕ → Type 0 = λ k. ((now b).disks k).seen ≡ ((now a).disks k).seen in
          subst Same (sym same) (ap (λ (k : Disk). k.seen) own_synced)
      | inr ne ↦ ap (λ (k : Disk). k.seen) (other_synced d ne)
    ];
    may_leave = λ d c may. elim (cases_eq d dev) [
      | inl same ↦
          let Here : ℕ → Type 0 = λ k. IsImage ((now b).disks k).pending c in
          let There : ℕ → Type 0 = λ k. IsImage ((now a).disks k).pending c in
          let e = durable c (subst Here same may) in
          subst There (sym same) (subst (λ (l : List ℕ). IsImage ((now a).disks dev).pending l) (sym e) (fine dev))
      | inr ne ↦ subst (λ (k : Disk). IsImage k.pending c) (other_synced d ne) may
    ];
  }

pub sync_still : (r : Result (Unit {0}) Failed) (dev : ℕ) (kind : CallKind) (a b : Account) → IsFine (now a) → IsRecorded Devices r (λ _. sync dev) (pass kind) a b → IsStill (view_of a) (view_of b)
sync_still (Ok x) dev kind a b fine recorded = synced_still dev a b recorded.done.0 fine
sync_still (Err e) dev kind a b fine recorded = still_once (pass kind) a b (pass_leaves kind) recorded.failed.0

pub sync_done : (r : Result (Unit {0}) Failed) (dev : ℕ) (kind : CallKind) (a b : Account) → IsRecorded Devices r (λ _. sync dev) (pass kind) a b → OnOk r (Syncs dev (view_of a) (view_of b))
sync_done (Ok x) dev kind a b recorded = record { durable = durable dev a b recorded.done.0 }
sync_done (Err e) dev kind a b recorded = tt

-- An attach
module _ {T : Type 0} (dev : ℕ) (path : List ℕ) (kind : CallKind) (a b : Account) where
  pub attach_call : (r : Result T Failed) → length b.events < last_count → IsRecorded Devices r (λ _. attach dev path) (pass kind) a b → IsDeviceCall r (view_of a) (view_of b)
  attach_call r small recorded = device_call r (λ _. attach dev path) (pass kind) a b
      (λ x. record { output = λ s. refl; stamps = λ s. refl; taken = λ s. refl; takes = λ s. refl; during = λ s p shot. shot }) (quiet_pass kind) small recorded

  pub attached : (r : Result T Failed) → IsRecorded Devices r (λ _. attach dev path) (pass kind) a b → Attaches everything dev path r (view_of a) (view_of b)
  attached (Ok x) recorded =
      let e = after a.events b.events (attach dev path) recorded.done.0 in
      record {
        own = λ told. ap (λ (s : State). s.attached dev) e ∙ put_own dev (Some path) (now a).attached;
        others = λ d ne. ap (λ (s : State). s.attached d) e ∙ put_other dev (Some path) (now a).attached d ne;
        reads = λ d. ap (λ (s : State). (s.disks d).seen) e;
        may_leave = λ d c may. subst (λ (s : State). IsImage (s.disks d).pending c) e may;
      }
  attached (Err x) recorded =
      let same = still_once (pass kind) a b (pass_leaves kind) recorded.failed.0 in
      record { own = tt; others = λ d ne. ap (λ (f : ℕ → Option (List ℕ)). f d) same.attached; reads = same.reads; may_leave = same.may_leave }

-- A call on a stream

pub stream_call : {T : Type 0} (part : Part) (r : Result T Failed) (success : T → Event) (failure : Event) (a b : Account) → ((x : T) → LeavesDevices (success x)) → LeavesDevices failure
    → ((c : Counts) → (raised part c).device ≡ c.device) → length b.events < last_count → IsRecorded part r success failure a b → IsStreamCall r (view_of a) (view_of b)
stream_call part (Ok x) success failure a b same same' apart small recorded = record {
  clock = ticks_ok x (success x) a b small recorded.done.0;
  faults = ap (λ (c : Counts). c.device) recorded.done.1;
  still = still_once (success x) a b (same x) (inl recorded.done.0);
  keeps = keeps (success x) a b (inl recorded.done.0);
}
stream_call part (Err e) success failure a b same same' apart small recorded = record {
  clock = ticks_err e failure a b small recorded.failed.0;
  faults = ap (λ (c : Counts). c.device) recorded.failed.1 ∙ apart a.counts;
  still = still_once failure a b same' recorded.failed.0;
  keeps = keeps failure a b recorded.failed.0;
}

quiet_state : (kind : CallKind) (a b : Account) → Grew (pass kind) a b → now b ≡ now a
quiet_state kind a b (inl is) = after a.events b.events (pass kind) is
quiet_state kind a b (inr is) = ap (replay blank) is

script_same : (a b : Account) → b.script ≡ a.script → (now b).taken ≡ (now a).taken → (view_of b).streams.script ≡ (view_of a).streams.script
script_same a b script taken = cc

-- a give
module _ (bytes : List ℕ) (clock faults : ℕ) (a b : Account) (is : b.events ≡ a.events ++ give_all bytes clock faults ∷ []) where
  given_state : now b ≡ step (give_all bytes clock faults) (now a)
  given_state = after a.events b.events (give_all bytes clock faults) is

  given_output : (now b).output ≡ (now a).output ++ bytes
  given_output = ap (λ (s : State). s.output) given_state

  giving : (p : Picture) → ((d : ℕ) → IsImage ((now a).disks d).pending (p.images d)) → (count : ℕ) → p.output ≡ (now a).output ++ take count bytes → IsGiving bytes (view_of a) (view_of b) p
  giving p images count output = record {
    images = λ d. subst (λ (s : State). IsImage (s.disks d).pending (p.images d)) (sym given_state) (images d);
    count = count;
    output = output;
    within = omega (arith, ap length output, length-append (now a).output (take count bytes), length-take count bytes, ap length given_output, length-append (now a).output bytes);
  }

  gives_time_ok : ElapsesGiving bytes (view_of a) (view_of b)
  gives_time_ok t p le left = elim (since a.events b.events (give_all bytes clock faults) is t p le left) [
    | inl old ↦ inl old
    | inr new ↦ inr (⊎_elim (λ within. giving p within.images within.count within.output)
        (λ shot. giving p (λ d. subst (λ (s : State). IsImage (s.disks d).pending (p.images d)) given_state (shot.images d)) (length bytes)
        (shot.output ∙ given_output ∙ ap (λ (l : List ℕ). (now a).output ++ l) (sym (take_all (length bytes) bytes (omega arith))))) new)
  ]

pub give_time : (r : Result (Unit {0}) Failed) (bytes : List ℕ) (clock faults : ℕ) (kind : CallKind) (a b : Account) → IsRecorded Output r (λ _. give_all bytes clock faults) (pass kind) a b → ElapsesGiving bytes (view_of a) (view_of b)
give_time (Ok x) bytes clock faults kind a b recorded = gives_time_ok bytes clock faults a b recorded.done.0
give_time (Err e) bytes clock faults kind a b recorded = λ t p le left. ⊎_elim (λ old. inl old) (λ here. inr (record {
  images = here.images;
  count = 0;
  output = here.output ∙ ap (λ (s : State). s.output) (quiet_state kind a b recorded.failed.0) ∙ sym (append-nil (now a).output);
  within = omega (arith, ap length here.output);
})) (elapses (pass kind) a b (λ s q shot. shot) recorded.failed.0 t p le left)

pub give_done : (r : Result (Unit {0}) Failed) (bytes : List ℕ) (kind : CallKind) (a b : Account) → IsRecorded Output r (λ _. give_all bytes (length a.events) a.counts.device) (pass kind) a b
    → Gives everything r bytes (view_of a) (view_of b)
give_done (Ok x) bytes kind a b recorded =
    let e = after a.events b.events (give_all bytes (length a.events) a.counts.device) recorded.done.0 in
    let counts = recorded.done.1 in
    record {
      cause = record { later = recorded.later.output; ok = ap (λ (c : Counts). c.output) counts; failed = tt };
      ok = λ told. record {
        within = omega arith;
        output = ap (λ (s : State). s.output) e ∙ ap (λ (l : List ℕ). (now a).output ++ l) (sym (take_all (length bytes) bytes (omega arith)));
        stamps = ap (λ (s : State). s.stamps) e;
      };
      failed = tt;
      script = script_same a b recorded.script (ap (λ (s : State). s.taken) e);
      taken = ap (λ (s : State). s.taken) e;
      takes = ap (λ (s : State). s.takes) e;
      input_faults = ap (λ (c : Counts). c.input) counts;
    }
give_done (Err e) bytes kind a b recorded =
    let counts = recorded.failed.1 in
    let same = quiet_state kind a b recorded.failed.0 in
    record {
      cause = record { later = recorded.later.output; ok = tt; failed = omega (arith, ap (λ (c : Counts). c.output) counts) };
      ok = tt;
      failed = λ told. (
        0,
        record {
          within = omega arith;
          output = ap (λ (s : State). s.output) same ∙ sym (append-nil (now a).output);
          stamps = ap (λ (s : State). s.stamps) same ∙ sym (append-nil (now a).stamps);
        },
      );
      script = script_same a b recorded.script (ap (λ (s : State). s.taken) same);
      taken = ap (λ (s : State). s.taken) same;
      takes = ap (λ (s : State). s.takes) same;
      input_faults = ap (λ (c : Counts). c.input) counts;
    }

-- a take
pub take_time : (r : Result ℕ Failed) (kind : CallKind) (a b : Account) → IsRecorded Input r take_some (pass kind) a b → Elapses (view_of a) (view_of b)
take_time (Ok n) kind a b recorded = elapses (take_some n) a b (λ s p shot. shot) (inl recorded.done.0)
take_time (Err e) kind a b recorded = elapses (pass kind) a b (λ s p shot. shot) recorded.failed.0

pub take_done : (r : Result ℕ Failed) (kind : CallKind) (a b : Account) (most : ℕ) (before into : List ℕ) → IsRecorded Input r take_some (pass kind) a b → 0 < most → 0 < length before
    → (now a).taken ≤ length a.script
    → IfOk r (λ n. n ≡ min (min (length before) most) (length a.script - (now a).taken))
    → IfOk r (λ n. into ≡ take n (drop (now a).taken a.script) ++ drop n before)
    → Takes everything r into (view_of a).streams (view_of b).streams
take_done (Ok n) kind a b most before into recorded some room within count bytes =
    let e = after a.events b.events (take_some n) recorded.done.0 in
    let counts = recorded.done.1 in
    let rest = drop (now a).taken a.script in
    let rest_long : length rest ≡ length a.script - (now a).taken = length-drop (now a).taken a.script in
    let taken_long : length (take n rest) ≡ n = omega (arith, length-take n rest) in
    let into_long : length into ≡ length before = omega (arith, ap length bytes, length-append (take n rest) (drop n before), length-drop n before) in
    let taken : (now b).taken ≡ (now a).taken + n = ap (λ (s : State). s.taken) e in
    record {
      cause = record { later = recorded.later.input; ok = ap (λ (c : Counts). c.input) counts; failed = tt };
      bound = omega arith;
      bytes = λ told. record {
        bytes = ap (take n) bytes ∙ take_at (take n rest) (drop n before) n taken_long;
        left = ap (λ k. drop k b.script) taken ∙ ap (λ (l : List ℕ). drop ((now a).taken + n) l) recorded.script ∙ sym (drop-drop n (now a).taken a.script);
        enough = omega arith;
        end = λ none. drop_all (now a).taken a.script (omega (arith, none));
      };
      counted = λ told. record { taken = taken; takes = ap (λ (s : State). s.takes) e };
      script = tt;
      taken = tt;
      takes = tt;
      output = ap (λ (s : State). s.output) e;
      stamps = ap (λ (s : State). s.stamps) e;
      output_faults = ap (λ (c : Counts). c.output) counts;
    }
take_done (Err x) kind a b most before into recorded some room within count bytes =
    let counts = recorded.failed.1 in
    let same = quiet_state kind a b recorded.failed.0 in
    record {
      cause = record { later = recorded.later.input; ok = tt; failed = omega (arith, ap (λ (c : Counts). c.input) counts) };
      bound = tt;
      bytes = tt;
      counted = tt;
      script = script_same a b recorded.script (ap (λ (s : State). s.taken) same);
      taken = ap (λ (s : State). s.taken) same;
      takes = ap (λ (s : State). s.takes) same;
      output = ap (λ (s : State). s.output) same;
      stamps = ap (λ (s : State). s.stamps) same;
      output_faults = ap (λ (c : Counts). c.output) counts;
    }

-- A device that is loaded
pub loaded : (dev : ℕ) (image : List ℕ) (a b : Account) → b.script ≡ a.script → b.counts ≡ a.counts → b.events ≡ a.events ++ load dev image ∷ [] → IsLoaded dev image (view_of a) (view_of b)
loaded dev image a b script counts is =
    let e = after a.events b.events (load dev image) is in
    let own = own_disk (load dev image) a b is dev (settled image) refl in
    let other = other_disk (load dev image) a b is dev (settled image) refl in
    let read : ((now b).disks dev).seen ≡ image = ap (λ (k : Disk). k.seen) own in
    record {
      reads = read;
      settled = λ c may. settled_image image c (subst (λ (k : Disk). IsImage k.pending c) own may) ∙ sym read;
      attached = ap (λ (s : State). s.attached) e;
      others_read = λ d ne. ap (λ (k : Disk). k.seen) (other d ne);
      others = λ d c ne. (λ may. subst (λ (k : Disk). IsImage k.pending c) (other d ne) may, λ may. subst (λ (k : Disk). IsImage k.pending c) (sym (other d ne)) may);
      streams = streams_same a b script (ap (λ (s : State). s.output) e) (ap (λ (s : State). s.stamps) e) (ap (λ (s : State). s.taken) e) (ap (λ (s : State). s.takes) e)
          (ap (λ (c : Counts). c.input) counts) (ap (λ (c : Counts). c.output) counts);
      faults = ap (λ (c : Counts). c.device) counts;
    }
