-- What a run comes to.
use Rattle.std.specs.Prelude.{◌≡◌, ◌≤◌, ℕ, ◌-◌, true, false, Result, Ok, Err, List, [], ◌∷◌, ◌++◌, length, map}
use Rattle.tq_host.specs.View.{View, Stamp, Told, Images}
use Rattle.tq_host.specs.Calls.{next_count}
use Rattle.tq_model.specs.declared.request.Request.TheVariants.{Boot}
use Rattle.tq_model.specs.Site.{Site}
use Rattle.tq_model.specs.Grammar.{script_requests}
use Rattle.tq_model.specs.MachineWithFaults.{Trace, Failures, Progress, beginning, after, rose_at, HaveCondition}
use Rattle.tq_model.specs.Reading.{Combined, Stands, FirstDamaged, below, reading, combined, site_found}
use Rattle.tq_run.specs.declared.status.Status.{Status}
use Rattle.tq_run.specs.declared.status.Status.TheVariants as status
use Rattle.tq_run.specs.declared.status.RunEnd.{RunEnd}
use Rattle.tq_run.specs.declared.status.RunEnd.TheVariants.{Damaged, Memory, Input, Output, Device, TooMuchInput}
use Rattle.tq_run.specs.Failures.{AreFailures}
use Rattle.tq_coord.specs.Manager.{is_bootable}
use Rattle.tq_coord.specs.Frame.{device_count}
use Rattle.tq_run.specs.Turns.{origin_of}
use Rattle.tq_run.specs.Idle.{AreIdleLines, AreWhole, clock_at}

-- what the host tells of a run in which these stamps came
abbrev pub trace_of : View → View → List Stamp → Trace
trace_of start now added = record { devices = device_count; before = start.faults; counts = map (λ (s : Stamp). s.faults) added; reads = map (λ (s : Stamp). s.reads) added; after = now.faults }

-- the machine at the end of a run over a script, line 0 being a boot of the site that was found
abbrev pub machine_at_end : Trace → Failures → Site → List ℕ → Progress
machine_at_end trace failed found script = after trace failed (beginning found) (Boot ∷ script_requests script)

-- A run that is done: the script is read to its end, the output is the machine's text, the devices stand for its state, idle
-- lines made no call, each answer was given in one call, and where there is a line 1 nothing was called behind the last answer.
pub record IsDone (start now : View) (found : Site) : Type 0 where
  pub added : List Stamp
  pub stamps : now.streams.stamps ≡ start.streams.stamps ++ added
  pub failed : Failures
  pub failures : AreFailures (trace_of start now added) failed
  pub script : now.streams.script ≡ []
  pub output : now.streams.output ≡ start.streams.output ++ (machine_at_end (trace_of start now added) failed found start.streams.script).text
  pub devices : HaveCondition device_count now.reads (machine_at_end (trace_of start now added) failed found start.streams.script).condition
  pub idle : AreIdleLines (origin_of start) now.faults added failed found (Boot ∷ script_requests start.streams.script)
  pub whole : AreWhole (origin_of start) now.faults added failed found (Boot ∷ script_requests start.streams.script)
  pub clock : 2 ≤ length (Boot ∷ script_requests start.streams.script) → now.clock ≡ next_count (clock_at added (length added - 1))

-- nothing was written and nothing given
pub record IsUntouched (start now : View) : Type 0 where
  pub reads : (d : ℕ) → now.reads d ≡ start.reads d
  pub streams : now.streams ≡ start.streams

-- the device that is to blame: the first that is damaged, or device 0, whose epoch cannot be raised
abbrev pub blamed : Combined → ℕ
blamed (FirstDamaged d) = d
blamed (Stands s) = 0

abbrev pub blamed_in : ℕ → Images → ℕ
blamed_in devices images = blamed (combined (map (λ d. reading d (images d)) (below devices)))

pub record IsDamaged (tells : Told) (d : ℕ) (start now : View) : Type 0 where
  pub first : d ≡ blamed_in device_count start.reads
  pub cause : tells.reads → is_bootable (site_found device_count start.reads) ≡ false
  pub untouched : IsUntouched start now

-- Where a device failed in line 0, by what is told of the output, the run ended so and nothing was given.
abbrev pub FailsInLine0 : Type 0 → View → View → Type 0
FailsInLine0 ended start now = (added : List Stamp) → now.streams.stamps ≡ start.streams.stamps ++ added → rose_at (trace_of start now added) 0 ≡ true → ended × (now.streams.output ≡ start.streams.output)

-- the run was done, or wanted memory or a shorter script
abbrev pub IsComplete : Status → Type 0
IsComplete status.Done = Unit {0}
IsComplete status.NoMemory = Unit {0}
IsComplete status.TooMuchInput = Unit {0}
IsComplete status.Usage = ⊥
IsComplete (status.Damaged d) = ⊥
IsComplete status.ReadFault = ⊥
IsComplete status.WriteFault = ⊥
IsComplete status.DeviceFault = ⊥

-- the status of an ending
abbrev pub status_for : Result (Unit {0}) RunEnd → Status
status_for (Ok x) = status.Done
status_for (Err Damaged) = status.Damaged 0
status_for (Err Memory) = status.NoMemory
status_for (Err Input) = status.ReadFault
status_for (Err Output) = status.WriteFault
status_for (Err Device) = status.DeviceFault
status_for (Err TooMuchInput) = status.TooMuchInput

-- the number with which the program ends
abbrev pub status_number : Status → ℕ
status_number status.Done = 0
status_number status.Usage = 2
status_number (status.Damaged d) = 3
status_number status.NoMemory = 4
status_number status.ReadFault = 5
status_number status.WriteFault = 6
status_number status.DeviceFault = 7
status_number status.TooMuchInput = 8
