-- Lines of a run, by what the host tells: the machine with faults after those that are answered, and the pictures of a part of the run.
use Rattle.std.specs.Prelude.{◌≡◌, ◌⊎◌, ◌<◌, ◌≤◌, ℕ, ◌+◌, ◌-◌, Bool, false, List, ◌++◌, length, map, take}
use Rattle.tq_host.specs.View.{View, Stamp, Picture, Images}
use Rattle.tq_host.specs.Within.{Ran}
use Rattle.tq_model.specs.declared.request.Request.{Request}
use Rattle.tq_model.specs.Site.{Site}
use Rattle.tq_model.specs.Reading.{site_found}
use Rattle.tq_model.specs.MachineWithFaults.{Condition, Trace, Failures, Turn, Progress, count_before, found_at, turn_at, beginning, after, HaveCondition}
use Rattle.tq_run.specs.Failures.{AreFailures}
use Rattle.tq_coord.specs.Frame.{device_count}

-- One line

-- the images of all devices stand for a condition
abbrev pub AreInCondition : Condition → Images → Type 0
AreInCondition c images = HaveCondition device_count images c

-- the turn of a request: whether a device failed in it, and what the devices read before it
abbrev pub turn_between : Bool → Images → Condition → Request → Turn
turn_between failed reads c request = turn_at failed (site_found device_count reads) c request

-- the images stand for the condition before a turn, or after it
abbrev pub AreBeforeOrAfter : Condition → Turn → Images → Type 0
AreBeforeOrAfter c t images = AreInCondition c images ⊎ AreInCondition t.condition images

-- Lines

-- what a run had when it began
pub record Origin : Type 0 where
  pub faults : ℕ
  pub output : List ℕ
  pub stamps : List Stamp

abbrev pub origin_of : View → Origin
origin_of v = record { faults = v.faults; output = v.streams.output; stamps = v.streams.stamps }

-- what the host has told, when the device count is this one and these stamps came
abbrev pub trace_from : Origin → ℕ → List Stamp → Trace
trace_from o now added = record { devices = device_count; before = o.faults; counts = map (λ (s : Stamp). s.faults) added; reads = map (λ (s : Stamp). s.reads) added; after = now }

-- the machine after these requests, by what was told and the steps that failed
abbrev pub told_after : Origin → ℕ → List Stamp → Failures → Site → List Request → Progress
told_after o now added failed found done = after (trace_from o now added) failed (beginning found) done

-- All of these requests are answered, and nothing was done since: the machine has this condition, and the output is its text.
pub record IsAnswered (o : Origin) (now : View) (found : Site) (failed : Failures) (done : List Request) (c : Condition) : Type 0 where
  pub added : List Stamp
  pub stamps : now.streams.stamps ≡ o.stamps ++ added
  pub failures : AreFailures (trace_from o now.faults added) failed
  pub condition : (told_after o now.faults added failed found done).condition ≡ c
  pub output : now.streams.output ≡ o.output ++ (told_after o now.faults added failed found done).text
  pub long : length added ≡ length (told_after o now.faults added failed found done).text
  pub count : count_before (trace_from o now.faults added) (length added) ≡ now.faults
  pub stood : 1 ≤ length added → found_at (trace_from o now.faults added) (length added) ≡ site_found device_count now.reads

-- A picture of a run: after some number of these requests the devices stand for the machine's condition, and the output is a
-- first part of the text of these that has all but an end of the last one.
pub record IsOfLines (o : Origin) (now : View) (found : Site) (failed : Failures) (requests : List Request) (p : Picture) : Type 0 where
  pub added : List Stamp
  pub stamps : now.streams.stamps ≡ o.stamps ++ added
  pub lines : ℕ
  pub within : lines ≤ length requests
  pub stand : HaveCondition device_count p.images (told_after o now.faults added failed found (take lines requests)).condition
  pub given : ℕ
  pub gave : p.output ≡ o.output ++ take given (told_after o now.faults added failed found (take lines requests)).text
  pub answered : length (told_after o now.faults added failed found (take (lines - 1) requests)).text ≤ given

-- where nothing is done yet
abbrev pub none_failed : Failures
none_failed at = false

-- of the steps whose text had begun at this moment, both say the same
abbrev pub GoesOn : Origin → View → Failures → Failures → Type 0
GoesOn o v failed since = (at : ℕ) → length o.stamps + at < length v.streams.stamps → since at ≡ failed at

-- A part of a run, with these requests at its end: the steps in which a device failed since, and the pictures by that.
pub record RunsOver (o : Origin) (found : Site) (failed : Failures) (requests : List Request) (old new : View) : Type 0 where
  pub since : Failures
  pub on : GoesOn o old failed since
  pub added : List Stamp
  pub stamps : new.streams.stamps ≡ o.stamps ++ added
  pub failures : AreFailures (trace_from o new.faults added) since
  pub ran : Ran (IsOfLines o new found since requests) old new
