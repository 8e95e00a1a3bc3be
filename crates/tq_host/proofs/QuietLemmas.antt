-- What calls on one device leave.
use Rattle.std.proofs.Common.{ℕ, List, Result, refl, ◌∙◌, arith}
use Rattle.tq_host.specs.declared.host.Failed.{Failed}
use Rattle.tq_host.specs.View.{View}
use Rattle.tq_host.specs.Calls.{IsDeviceCall, IsStill, Changes}
use Rattle.tq_host.specs.Within.{KeepsRest}

-- two calls in a row that change no device
pub still_on : (a b c : View) → IsStill a b → IsStill b c → IsStill a c
still_on a b c first second = record {
  reads = λ d. second.reads d ∙ first.reads d;
  attached = second.attached ∙ first.attached;
  may_leave = λ d image may. first.may_leave d image (second.may_leave d image may);
}

-- nothing was done yet
pub still_start : (v : View) → IsStill v v
still_start v = record { reads = λ d. refl; attached = refl; may_leave = λ d image may. may }

pub rest_start : (dev : ℕ) (v : View) → KeepsRest dev v v
rest_start dev v = record { later = omega arith; streams = refl; others_read = λ d ne. refl; attached = refl }

-- two in a row
pub rest_on : (dev : ℕ) (start mid new : View) → KeepsRest dev start mid → KeepsRest dev mid new → KeepsRest dev start new
rest_on dev start mid new first second = record {
  later = omega (arith, first.later, second.later);
  streams = second.streams ∙ first.streams;
  others_read = λ d ne. second.others_read d ne ∙ first.others_read d ne;
  attached = second.attached ∙ first.attached;
}

-- one call that changes no device
pub rest_still : (dev : ℕ) (old new : View) {T : Type 0} (r : Result T Failed) → IsDeviceCall r old new → IsStill old new → KeepsRest dev old new
rest_still dev old new r call same = record { later = call.clock.later; streams = call.streams; others_read = λ d ne. same.reads d; attached = same.attached }

-- one call that changes this device
pub rest_changes : (dev : ℕ) (step : List ℕ → List ℕ → Type 0) (old new : View) {T : Type 0} (r : Result T Failed) → IsDeviceCall r old new → Changes dev step old new → KeepsRest dev old new
rest_changes dev step old new r call change = record { later = call.clock.later; streams = call.streams; others_read = change.others_read; attached = change.attached }
