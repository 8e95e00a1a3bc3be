-- Which of the host's three counts rose, by the way in which a part of a run ended.
use Rattle.std.specs.Prelude.{◌≡◌, ◌≤◌, Result, Ok, Err}
use Rattle.tq_host.specs.View.{View}
use Rattle.tq_host.specs.Calls.{Rose}
use Rattle.tq_coord.specs.declared.failure.BootFailure.{BootFailure}
use Rattle.tq_coord.specs.declared.failure.BootFailure.TheVariants as boots
use Rattle.tq_coord.specs.Counts.{Rises}
use Rattle.tq_run.specs.declared.status.StartEnd.{StartEnd}
use Rattle.tq_run.specs.declared.status.StartEnd.TheVariants as starts
use Rattle.tq_run.specs.declared.status.ScriptEnd.{ScriptEnd}
use Rattle.tq_run.specs.declared.status.ScriptEnd.TheVariants as scripts
use Rattle.tq_run.specs.declared.status.ReadEnd.{ReadEnd}
use Rattle.tq_run.specs.declared.status.ReadEnd.TheVariants as reads
use Rattle.tq_run.specs.declared.status.TakeEnd.{TakeEnd}
use Rattle.tq_run.specs.declared.status.TakeEnd.TheVariants as takes
use Rattle.tq_run.specs.declared.status.LineEnd.{LineEnd}
use Rattle.tq_run.specs.declared.status.LineEnd.TheVariants as lines
use Rattle.tq_run.specs.declared.status.RunEnd.{RunEnd}
use Rattle.tq_run.specs.declared.status.RunEnd.TheVariants.{Damaged, Memory, Input, Output, Device, TooMuchInput}

-- How the parts of a run end

abbrev pub start_end_of_boot : BootFailure → StartEnd
start_end_of_boot boots.Damaged = starts.Damaged
start_end_of_boot boots.Memory = starts.Memory
start_end_of_boot boots.Device = starts.Device

abbrev pub start_end_of_line : LineEnd → StartEnd
start_end_of_line lines.Memory = starts.Memory
start_end_of_line lines.Output = starts.Output

abbrev pub read_end_of_take : TakeEnd → ReadEnd
read_end_of_take takes.Memory = reads.Memory
read_end_of_take takes.Input = reads.Input

abbrev pub script_end_of_read : ReadEnd → ScriptEnd
script_end_of_read reads.Memory = scripts.Memory
script_end_of_read reads.Input = scripts.Input
script_end_of_read reads.TooMuchInput = scripts.TooMuchInput

abbrev pub script_end_of_line : LineEnd → ScriptEnd
script_end_of_line lines.Memory = scripts.Memory
script_end_of_line lines.Output = scripts.Output

abbrev pub run_end_of_start : StartEnd → RunEnd
run_end_of_start starts.Damaged = Damaged
run_end_of_start starts.Memory = Memory
run_end_of_start starts.Device = Device
run_end_of_start starts.Output = Output

abbrev pub run_end_of_script : ScriptEnd → RunEnd
run_end_of_script scripts.Memory = Memory
run_end_of_script scripts.Input = Input
run_end_of_script scripts.Output = Output
run_end_of_script scripts.TooMuchInput = TooMuchInput

-- the same for ends of lines, and of reading
abbrev pub run_end_of_line : LineEnd → RunEnd
run_end_of_line end = run_end_of_script (script_end_of_line end)

abbrev pub run_end_of_read : ReadEnd → RunEnd
run_end_of_read end = run_end_of_script (script_end_of_read end)

abbrev pub run_end_of_take : TakeEnd → RunEnd
run_end_of_take end = run_end_of_read (read_end_of_take end)

abbrev pub itself : RunEnd → RunEnd
itself end = end

-- no count rose
pub record IsQuiet (old new : View) : Type 0 where
  pub device : new.faults ≡ old.faults
  pub input : new.streams.input_faults ≡ old.streams.input_faults
  pub output : new.streams.output_faults ≡ old.streams.output_faults

-- no call failed, by what the counts tell
pub record NoneRose (old new : View) : Type 0 where
  pub device : Rose old.faults new.faults → ⊥
  pub input : Rose old.streams.input_faults new.streams.input_faults → ⊥
  pub output : Rose old.streams.output_faults new.streams.output_faults → ⊥

pub record RoseDevice (old new : View) : Type 0 where
  pub device : Rises old.faults new.faults
  pub input : new.streams.input_faults ≡ old.streams.input_faults
  pub output : new.streams.output_faults ≡ old.streams.output_faults

pub record RoseInput (old new : View) : Type 0 where
  pub device : new.faults ≡ old.faults
  pub input : Rises old.streams.input_faults new.streams.input_faults
  pub output : new.streams.output_faults ≡ old.streams.output_faults

pub record RoseOutput (old new : View) : Type 0 where
  pub device : new.faults ≡ old.faults
  pub input : new.streams.input_faults ≡ old.streams.input_faults
  pub output : Rises old.streams.output_faults new.streams.output_faults

abbrev pub StopCounts : RunEnd → View → View → Type 0
StopCounts Device old new = RoseDevice old new
StopCounts Input old new = RoseInput old new
StopCounts Output old new = RoseOutput old new
StopCounts Damaged old new = IsQuiet old new
StopCounts Memory old new = IsQuiet old new
StopCounts TooMuchInput old new = IsQuiet old new

-- a part of a run, whose ends are ends of a run by `end_of`
abbrev pub HasCounts : {T E : Type 0} → (E → RunEnd) → Result T E → View → View → Type 0
HasCounts end_of (Ok x) old new = IsQuiet old new
HasCounts end_of (Err stop) old new = StopCounts (end_of stop) old new

-- No stream failed; devices may have.
pub record IsCalm (old new : View) : Type 0 where
  pub device : old.faults ≤ new.faults
  pub input : new.streams.input_faults ≡ old.streams.input_faults
  pub output : new.streams.output_faults ≡ old.streams.output_faults

pub record LostInput (old new : View) : Type 0 where
  pub device : old.faults ≤ new.faults
  pub input : Rises old.streams.input_faults new.streams.input_faults
  pub output : new.streams.output_faults ≡ old.streams.output_faults

pub record LostOutput (old new : View) : Type 0 where
  pub device : old.faults ≤ new.faults
  pub input : new.streams.input_faults ≡ old.streams.input_faults
  pub output : Rises old.streams.output_faults new.streams.output_faults

-- The same of a run, whose lines go on after a device failed.
abbrev pub RunStopCounts : RunEnd → View → View → Type 0
RunStopCounts Device old new = RoseDevice old new
RunStopCounts Input old new = LostInput old new
RunStopCounts Output old new = LostOutput old new
RunStopCounts Damaged old new = IsQuiet old new
RunStopCounts Memory old new = IsCalm old new
RunStopCounts TooMuchInput old new = IsCalm old new

abbrev pub HasRunCounts : {T E : Type 0} → (E → RunEnd) → Result T E → View → View → Type 0
HasRunCounts end_of (Ok x) old new = IsCalm old new
HasRunCounts end_of (Err stop) old new = RunStopCounts (end_of stop) old new
