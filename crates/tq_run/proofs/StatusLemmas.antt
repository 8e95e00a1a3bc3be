-- The status of a run, by how it ended.
use Rattle.std.proofs.Common.{◌≡◌, ◌≢◌, ◌⊎◌, inl, inr, ℕ, List, [], ◌∷◌, ◌++◌, Bool, true, false, cond, Some, None, Result, Ok, Err, OnOk, refl, sym, ◌∙◌, ap}
use Rattle.tq_host.specs.View.{View, Stamp, Images}
use Rattle.tq_host.specs.Calls.{Rose}
use Rattle.tq_model.specs.Reading.{site_found, reading, combined_by, is_damaged}
use Rattle.tq_model.specs.MachineWithFaults.{rose_at}
use Rattle.tq_run.specs.declared.status.Status.{Status}
use Rattle.tq_run.specs.declared.status.Status.TheVariants as status
use Rattle.tq_run.specs.declared.status.StartEnd.{StartEnd}
use Rattle.tq_run.specs.declared.status.StartEnd.TheVariants as starts
use Rattle.tq_run.specs.declared.status.RunEnd.{RunEnd}
use Rattle.tq_run.specs.declared.status.RunEnd.TheVariants.{Damaged, Memory, Input, Output, Device, TooMuchInput}
use Rattle.tq_run.specs.Counts.{NoneRose, HasRunCounts, itself}
use Rattle.tq_run.specs.Ending.{trace_of, blamed, blamed_in, status_for, FailsInLine0, IsComplete}
use Rattle.tq_coord.specs.Manager.{is_bootable}
use Rattle.tq_run.specs.Output.{TellsMore, HasBegun}
use Rattle.tq_coord.specs.Frame.{device_count}
use Rattle.tq_run.proofs.CountLemmas.{of_ok}
use Rattle.tq_run.proofs.LeftAloneLemmas.{contradicts}
use Rattle.tq_run.proofs.Line0Lemmas.{calm_begun}

-- Line 0

-- A run that ended in line 0 failed there exactly where it is said so.
pub line_0_ended : (end : StartEnd) (start now : View) → (end ≡ starts.Device → now.streams.output ≡ start.streams.output)
    → ((end ≢ starts.Device) → (added : List Stamp) → now.streams.stamps ≡ start.streams.stamps ++ added → rose_at (trace_of start now added) 0 ≡ false) → FailsInLine0 (end ≡ starts.Device) start now
line_0_ended starts.Device start now silent calm added is rose = (refl, silent refl)
line_0_ended starts.Damaged start now silent calm added is rose = contradicts _ rose (calm (λ e. cc) added is)
line_0_ended starts.Memory start now silent calm added is rose = contradicts _ rose (calm (λ e. cc) added is)
line_0_ended starts.Output start now silent calm added is rose = contradicts _ rose (calm (λ e. cc) added is)

-- one whose line 0 was given did not
pub line_0_begun : (ended : Type 0) (a b d : View) → HasBegun a b → TellsMore b d → FailsInLine0 ended a d
line_0_begun ended a b d begun more added is rose = contradicts _ rose (calm_begun a b d begun more added is)

pub damaged_always : (r : Result (Unit {0}) RunEnd) (old new : View) (tells : Type 0) → ((r ≢ Err Damaged) → (r ≢ Err Device) → (r ≢ Err Memory) → tells → is_bootable (site_found device_count old.reads) ≡ true) → HasRunCounts itself r old new
    → tells → is_bootable (site_found device_count old.reads) ≡ false → (Rose old.faults new.faults → ⊥) → (status_for r ≡ status.Damaged 0) ⊎ (status_for r ≡ status.NoMemory)
damaged_always (Ok x) old new tells bootable counts t none calm = contradicts _ (bootable (λ e. cc) (λ e. cc) (λ e. cc) t) none
damaged_always (Err Damaged) old new tells bootable counts t none calm = inl refl
damaged_always (Err Memory) old new tells bootable counts t none calm = inr refl
damaged_always (Err Input) old new tells bootable counts t none calm = contradicts _ (bootable (λ e. cc) (λ e. cc) (λ e. cc) t) none
damaged_always (Err Output) old new tells bootable counts t none calm = contradicts _ (bootable (λ e. cc) (λ e. cc) (λ e. cc) t) none
damaged_always (Err Device) old new tells bootable counts t none calm = absurd (calm counts.device.rose)
damaged_always (Err TooMuchInput) old new tells bootable counts t none calm = contradicts _ (bootable (λ e. cc) (λ e. cc) (λ e. cc) t) none

pub complete : (r : Result (Unit {0}) RunEnd) (old new : View) (tells : Type 0) → (r ≡ Err Damaged → tells → is_bootable (site_found device_count old.reads) ≡ false) → HasRunCounts itself r old new
    → tells → is_bootable (site_found device_count old.reads) ≡ true → NoneRose old new → IsComplete (status_for r)
complete (Ok x) old new tells damaged counts t can calm = tt
complete (Err Damaged) old new tells damaged counts t can calm = contradicts _ can (damaged refl t)
complete (Err Memory) old new tells damaged counts t can calm = tt
complete (Err Input) old new tells damaged counts t can calm = calm.input counts.input.rose
complete (Err Output) old new tells damaged counts t can calm = calm.output counts.output.rose
complete (Err Device) old new tells damaged counts t can calm = calm.device counts.device.rose
complete (Err TooMuchInput) old new tells damaged counts t can calm = tt

-- Each status comes of one ending

abbrev pub ending_of : Status → Result (Unit {0}) RunEnd
ending_of status.Done = Ok tt
ending_of status.Usage = Ok tt
ending_of (status.Damaged d) = Err Damaged
ending_of status.NoMemory = Err Memory
ending_of status.ReadFault = Err Input
ending_of status.WriteFault = Err Output
ending_of status.DeviceFault = Err Device
ending_of status.TooMuchInput = Err TooMuchInput

pub ended_by : (r : Result (Unit {0}) RunEnd) (s : Status) → status_for r ≡ s → r ≡ ending_of s
ended_by r s is = of_status r ∙ ap ending_of is
  where
    of_status : (r : Result (Unit {0}) RunEnd) → r ≡ ending_of (status_for r)
    of_status (Ok x) = refl
    of_status (Err Damaged) = refl
    of_status (Err Memory) = refl
    of_status (Err Input) = refl
    of_status (Err Output) = refl
    of_status (Err Device) = refl
    of_status (Err TooMuchInput) = refl

pub done : (r : Result (Unit {0}) RunEnd) (D : Type 0) → OnOk r D → status_for r ≡ status.Done → D
done r D is e = of_ok r tt D (ended_by r status.Done e) is

pub is_device : (r : Result (Unit {0}) RunEnd) → status_for r ≡ status.DeviceFault → r ≡ Err Device
is_device r e = ended_by r status.DeviceFault e

pub is_damaged_at : (r : Result (Unit {0}) RunEnd) (d : ℕ) → status_for r ≡ status.Damaged d → (r ≡ Err Damaged) × (d ≡ 0)
is_damaged_at r d e = let is = ended_by r (status.Damaged d) e in (is, same_device (sym e ∙ ap status_for is))
  where
    same_device : status.Damaged d ≡ status.Damaged 0 → d ≡ 0
    same_device e = cc

-- Which device is to blame

pub blames_first : (images : Images) → blamed_in device_count images ≡ 0
blames_first images = by_test (is_damaged (reading 0 (images 0) ∷ []) 0)
  where
    by_test : (b : Bool) → blamed (combined_by (reading 0 (images 0) ∷ []) (cond b (Some 0) None)) ≡ 0
    by_test true = refl
    by_test false = refl
