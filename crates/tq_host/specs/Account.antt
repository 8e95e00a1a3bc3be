-- What a host in memory keeps, and the view that follows from it.
use Rattle.std.specs.Prelude.{◌≡◌, ◌⊎◌, ℕ, List, [], ◌∷◌, ◌++◌, length, drop, Result, OnOk, OnErr, IfOk}
use Rattle.tq_host.specs.declared.counts.Counts.{Counts}
use Rattle.tq_host.specs.declared.counts.Part.{Part}
use Rattle.tq_host.specs.declared.host.Failed.{Failed}
use Rattle.tq_host.specs.Counts.{raised, NoneFalls}
use Rattle.tq_host.specs.View.{Told, View}
use Rattle.tq_host.specs.Disk.{IsImage}
use Rattle.tq_host.specs.Events.{Event, blank, replay, LeftSince}

-- The whole script, the record of all calls, and the three counts.
pub record Account : Type 0 where
  pub script : List ℕ
  pub events : List Event
  pub counts : Counts

abbrev pub everything : Told
everything = record { reads = Unit {0}; script = Unit {0}; output = Unit {0}; stops = Unit {0} }

-- Everything that is told is what the recorded calls lead to by the disk model.
abbrev pub view_of : Account → View
view_of account = record {
  clock = length account.events;
  faults = account.counts.device;
  streams = record {
    script = drop (replay blank account.events).taken account.script;
    taken = (replay blank account.events).taken;
    takes = (replay blank account.events).takes;
    output = (replay blank account.events).output;
    stamps = (replay blank account.events).stamps;
    input_faults = account.counts.input;
    output_faults = account.counts.output;
  };
  reads = λ d. ((replay blank account.events).disks d).seen;
  attached = (replay blank account.events).attached;
  may_leave = λ d c. IsImage ((replay blank account.events).disks d).pending c;
  left_since = λ t p. LeftSince blank t account.events p;
}

-- one more event is recorded, or nothing changes where it finds no memory
pub record IsKept {T E : Type 0} (event : Event) (result : Result T E) (old new : Account) : Type 0 where
  pub script : new.script ≡ old.script
  pub counts : new.counts ≡ old.counts
  pub ok : OnOk result (new.events ≡ old.events ++ event ∷ [])
  pub err : OnErr result (new.events ≡ old.events)

-- A call is recorded by what it did. One that failed raises its count; it is recorded as a failed one, or not at all
-- where its record found no memory.
pub record IsRecorded {T : Type 0} (part : Part) (result : Result T Failed) (success : T → Event) (failure : Event) (old new : Account) : Type 0 where
  pub script : new.script ≡ old.script
  pub later : NoneFalls old.counts new.counts
  pub done : IfOk result (λ x. (new.events ≡ old.events ++ success x ∷ []) × (new.counts ≡ old.counts))
  pub failed : OnErr result (((new.events ≡ old.events ++ failure ∷ []) ⊎ (new.events ≡ old.events)) × (new.counts ≡ raised part old.counts))
