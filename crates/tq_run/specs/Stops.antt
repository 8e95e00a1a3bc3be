-- What a stop leaves within the parts of a run.
use Rattle.std.specs.Prelude.{◌≡◌, ◌≤◌, ℕ, ◌+◌, ◌-◌, List, ◌++◌, length, take}
use Rattle.tq_host.specs.View.{View, Picture, Stamp, AreNow}
use Rattle.tq_model.specs.Site.{Site}
use Rattle.tq_model.specs.Grammar.{script_requests}
use Rattle.tq_model.specs.MachineWithFaults.{Trace, Failures, HaveCondition, machine_after}
use Rattle.tq_run.specs.Ending.{trace_of}
use Rattle.tq_run.specs.Failures.{AreFailures}
use Rattle.tq_coord.specs.Frame.{device_count}

-- a picture of a part that changes nothing
pub record IsWaiting (start : View) (p : Picture) : Type 0 where
  pub images : AreNow start p.images
  pub output : p.output ≡ start.streams.output

-- Nothing was written and nothing given, at any moment: each picture has images of the start, and its output.
pub record IsLeftAlone (start now : View) : Type 0 where
  pub output : now.streams.output ≡ start.streams.output
  pub pictures : (p : Picture) → now.left_since start.clock p → IsWaiting start p

-- A picture of a run: after some number of whole lines, line 0 being the first, the device stands for the machine's state, and
-- the output is a first part of the text of these lines that has all but an end of the last one.
pub record IsOfRun (start : View) (trace : Trace) (failed : Failures) (found : Site) (p : Picture) : Type 0 where
  pub lines : ℕ
  pub within : lines ≤ 1 + length (script_requests start.streams.script)
  pub stand : HaveCondition device_count p.images (machine_after trace failed found (script_requests start.streams.script) lines).condition
  pub given : ℕ
  pub gave : p.output ≡ start.streams.output ++ take given (machine_after trace failed found (script_requests start.streams.script) lines).text
  pub answered : length (machine_after trace failed found (script_requests start.streams.script) (lines - 1)).text ≤ given

-- What stops leave of a run: by what the host tells there are the steps in which a device failed, and each picture is one of
-- the machine in which these fail.
pub record IsCrashSafe (start now : View) (found : Site) : Type 0 where
  pub added : List Stamp
  pub stamps : now.streams.stamps ≡ start.streams.stamps ++ added
  pub failed : Failures
  pub failures : AreFailures (trace_of start now added) failed
  pub pictures : (p : Picture) → now.left_since start.clock p → IsOfRun start (trace_of start now added) failed found p
