-- How the counts of the parts of a run add up.
use Rattle.std.proofs.Common.{◌≡◌, ℕ, Result, Ok, Err, Some, refl, ◌∙◌, ap, subst, OnOk, OnErr, arith}
use Rattle.std.specs.Result.{IsErrAnd}
use Rattle.tq_host.specs.View.{View}
use Rattle.tq_host.specs.Calls.{HasCauseOf}
use Rattle.tq_run.specs.declared.status.Status.TheVariants as status
use Rattle.tq_run.specs.declared.status.RunEnd.{RunEnd}
use Rattle.tq_run.specs.declared.status.RunEnd.TheVariants.{Damaged, Memory, Input, Output, Device, TooMuchInput}
use Rattle.tq_run.specs.Ending.{status_for}
use Rattle.tq_coord.specs.declared.failure.BootFailure.{BootFailure}
use Rattle.tq_coord.specs.declared.failure.BootFailure.TheVariants as boots
use Rattle.tq_run.specs.declared.status.StartEnd.TheVariants as starts
use Rattle.tq_run.specs.declared.status.LineEnd.{LineEnd}
use Rattle.tq_run.specs.declared.status.LineEnd.TheVariants as lines
use Rattle.tq_run.specs.declared.status.ScriptEnd.{ScriptEnd}
use Rattle.tq_run.specs.declared.status.ScriptEnd.TheVariants as scripts
use Rattle.tq_coord.specs.Counts.{Rises}
use Rattle.tq_run.specs.Counts.{IsQuiet, StopCounts, IsCalm, RunStopCounts, HasRunCounts, itself, run_end_of_script, start_end_of_boot, start_end_of_line}

-- a fact of an Ok, where there is one
pub on_ok : {T E : Type 0} (r : Result T E) (G : Type 0) → ((x : T) → r ≡ Ok x → G) → OnOk r G
on_ok (Ok x) G f = f x refl
on_ok (Err e) G f = tt

pub of_ok : {T E : Type 0} (r : Result T E) (x : T) (A : Type 0) → r ≡ Ok x → OnOk r A → A
of_ok {T} {E} r x A e h = subst (λ (q : Result T E). OnOk q A) e h

-- a fact of an error
pub at_err : {T E : Type 0} (r : Result T E) (A : Type 0) → A → OnErr r A
at_err (Ok x) A a = tt
at_err (Err e) A a = a

-- a value that is there is one
pub some_is : {A : Type 0} (x y : A) → Some x ≡ Some y → x ≡ y
some_is x y e = cc

-- no call failed, or one did
pub steady_cause : {failed : Type 0} {before now : ℕ} → now ≡ before → (failed → ⊥) → HasCauseOf failed before now
steady_cause same never = record { later = omega arith; rose = λ f. absurd (never f); only = λ lt. absurd (omega arith) }

pub risen_cause : {failed : Type 0} {before now : ℕ} → Rises before now → failed → HasCauseOf failed before now
risen_cause rises f = record { later = rises.later; rose = λ g. rises.rose; only = λ lt. f }

pub read_cause : (r : Result (Unit {0}) RunEnd) (old new : View) → HasRunCounts itself r old new → HasCauseOf (status_for r ≡ status.ReadFault) old.streams.input_faults new.streams.input_faults
read_cause (Ok x) old new h = steady_cause h.input (λ e. cc)
read_cause (Err Damaged) old new h = steady_cause h.input (λ e. cc)
read_cause (Err Memory) old new h = steady_cause h.input (λ e. cc)
read_cause (Err Device) old new h = steady_cause h.input (λ e. cc)
read_cause (Err Output) old new h = steady_cause h.input (λ e. cc)
read_cause (Err TooMuchInput) old new h = steady_cause h.input (λ e. cc)
read_cause (Err Input) old new h = risen_cause h.input refl

pub write_cause : (r : Result (Unit {0}) RunEnd) (old new : View) → HasRunCounts itself r old new → HasCauseOf (status_for r ≡ status.WriteFault) old.streams.output_faults new.streams.output_faults
write_cause (Ok x) old new h = steady_cause h.output (λ e. cc)
write_cause (Err Damaged) old new h = steady_cause h.output (λ e. cc)
write_cause (Err Memory) old new h = steady_cause h.output (λ e. cc)
write_cause (Err Device) old new h = steady_cause h.output (λ e. cc)
write_cause (Err Input) old new h = steady_cause h.output (λ e. cc)
write_cause (Err TooMuchInput) old new h = steady_cause h.output (λ e. cc)
write_cause (Err Output) old new h = risen_cause h.output refl

-- Counts of lines

pub calm : (v : View) → IsCalm v v
calm v = record { device = omega arith; input = refl; output = refl }

pub calm_on : (a b c : View) → IsCalm a b → IsCalm b c → IsCalm a c
calm_on a b c first second = record { device = omega (arith, first.device, second.device); input = second.input ∙ first.input; output = second.output ∙ first.output }

pub quiet_calm : (a b : View) → IsQuiet a b → IsCalm a b
quiet_calm a b is = record { device = omega (arith, is.device); input = is.input; output = is.output }

-- a part of a run from line 1 on, after one in which no stream failed
pub run_counts_on : {T : Type 0} (r : Result T ScriptEnd) (a b c : View) → IsCalm a b → HasRunCounts run_end_of_script r b c → HasRunCounts run_end_of_script r a c
run_counts_on (Ok x) a b c first second = calm_on a b c first second
run_counts_on (Err scripts.Memory) a b c first second = calm_on a b c first second
run_counts_on (Err scripts.TooMuchInput) a b c first second = calm_on a b c first second
run_counts_on (Err scripts.Input) a b c first second = record { device = omega (arith, first.device, second.device); input = subst (λ n. Rises n c.streams.input_faults) first.input second.input; output = second.output ∙ first.output }
run_counts_on (Err scripts.Output) a b c first second = record { device = omega (arith, first.device, second.device); input = second.input ∙ first.input; output = subst (λ n. Rises n c.streams.output_faults) first.output second.output }

pub stop_counts : (stop : RunEnd) (a b : View) → StopCounts stop a b → RunStopCounts stop a b
stop_counts Damaged a b is = is
stop_counts Device a b is = is
stop_counts Memory a b is = quiet_calm a b is
stop_counts TooMuchInput a b is = quiet_calm a b is
stop_counts Input a b is = record { device = omega (arith, is.device); input = is.input; output = is.output }
stop_counts Output a b is = record { device = omega (arith, is.device); input = is.input; output = is.output }

-- ---- Errors that are made of others

pub err_is : {T E : Type 0} (r : Result T E) (x : E) → IsErrAnd r (λ e. e ≡ x) → r ≡ Err x
err_is (Ok v) x is = absurd is
err_is (Err e) x is = ap (λ (y : _). Err y) is

pub same_Err : {T E : Type 0} (x y : E) → ◌≡◌ {A = Result T E} (Err x) (Err y) → x ≡ y
same_Err x y is = cc

pub line_not_damaged : (e : LineEnd) → start_end_of_line e ≡ starts.Damaged → ⊥
line_not_damaged lines.Memory is = cc
line_not_damaged lines.Output is = cc

pub damaged_boot : (e : BootFailure) → start_end_of_boot e ≡ starts.Damaged → e ≡ boots.Damaged
damaged_boot boots.Damaged is = refl
damaged_boot boots.Memory is = absurd (cc)
damaged_boot boots.Device is = absurd (cc)
