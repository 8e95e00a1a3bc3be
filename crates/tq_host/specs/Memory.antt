-- What a host in memory tells, and what a call does to it.
use Rattle.std.specs.Prelude.{◌≡◌, ◌≢◌, ◌↔◌, ℕ, List, [], Result, IsErr, None}
use Rattle.tq_host.specs.declared.host.Failed.{Failed}
use Rattle.tq_host.specs.declared.counts.Part.{Part}
use Rattle.tq_host.specs.declared.kind.CallKind.{CallKind}
use Rattle.tq_host.specs.declared.memory.MemHost.{MemHost}
use Rattle.tq_host.specs.View.{View, IsSettled}
use Rattle.tq_host.specs.Plan.{IsToFail, made}
use Rattle.tq_host.specs.Outside.{account_of}
use Rattle.tq_host.specs.Events.{Event}
use Rattle.tq_host.specs.Account.{Account, IsRecorded, view_of}

-- the script, the record of all calls and the counts
abbrev pub mem_account_of : MemHost → Account
mem_account_of m = account_of m.outside

abbrev pub mem_view_of : MemHost → View
mem_view_of m = view_of (account_of m.outside)

-- A call of the trait: it is recorded by what it did, one that is planned to fail fails, and it counts.
pub record IsMade {T : Type 0} (part : Part) (kind : CallKind) (result : Result T Failed) (success : T → Event) (failure : Event) (old new : MemHost) : Type 0 where
  pub recorded : IsRecorded part result success failure (mem_account_of old) (mem_account_of new)
  pub planned : IsToFail old.plan kind → IsErr result
  pub counted : new.plan ≡ made kind old.plan
  pub piece : new.piece ≡ old.piece

-- The first moment: nothing taken and nothing given, every device empty, settled and not attached.
pub record IsFirst (script : List ℕ) (v : View) : Type 0 where
  pub clock : v.clock ≡ 0
  pub faults : v.faults ≡ 0
  pub streams : v.streams ≡ record { script = script; taken = 0; takes = []; output = []; stamps = []; input_faults = 0; output_faults = 0 }
  pub reads : (d : ℕ) → v.reads d ≡ []
  pub settled : (d : ℕ) → IsSettled d v
  pub attached : (d : ℕ) → v.attached d ≡ None

-- These bytes are a device's content, with nothing pending; the rest is as before.
pub record IsLoaded (dev : ℕ) (image : List ℕ) (old new : View) : Type 0 where
  pub reads : new.reads dev ≡ image
  pub settled : IsSettled dev new
  pub others_read : (d : ℕ) → d ≢ dev → new.reads d ≡ old.reads d
  pub others : (d : ℕ) (c : List ℕ) → d ≢ dev → new.may_leave d c ↔ old.may_leave d c
  pub attached : new.attached ≡ old.attached
  pub streams : new.streams ≡ old.streams
  pub faults : new.faults ≡ old.faults
