-- Calls that write nothing.
use Rattle.std.proofs.Common.{ℕ, List, Result, refl, sym, subst, ◌∙◌}
use Rattle.tq_host.specs.declared.host.Failed.{Failed}
use Rattle.tq_host.specs.View.{View}
use Rattle.tq_host.specs.Calls.{IsDeviceCall, IsStill}
use Rattle.tq_host.specs.Within.{Within}
use Rattle.tq_host.proofs.Steps.{IsSteps}
use Rattle.tq_host.proofs.Within.{starts, still, in_a_row, wider}
use Rattle.tq_host.proofs.QuietLemmas.{rest_start, rest_on, rest_still, still_start, still_on}
use Rattle.tq_extent.specs.Bytes.{IsSame, IsAny, IsQuiet}

same_steps : IsSteps IsSame
same_steps = record { none = λ c. refl; both = λ a b c first second. second ∙ first }

-- nothing was done yet
pub quiet_start : (dev : ℕ) (v : View) → IsQuiet dev v v
quiet_start dev v = record {
  rest = rest_start dev v;
  still = still_start v;
  stop = starts dev IsSame same_steps IsAny v (λ c may. tt);
}

-- one call that changes no device
pub quiet_call : (dev : ℕ) (old new : View) {T : Type 0} (r : Result T Failed) → IsDeviceCall r old new → IsStill old new → IsQuiet dev old new
quiet_call dev old new r call same = record {
  rest = rest_still dev old new r call same;
  still = same;
  stop = still dev IsSame same_steps IsAny old old new r (starts dev IsSame same_steps IsAny old (λ c may. tt)) call same;
}

-- two in a row
pub quiet_on : (dev : ℕ) (a b c : View) → IsQuiet dev a b → IsQuiet dev b c → IsQuiet dev a c
quiet_on dev a b c first second = record {
  rest = rest_on dev a b c first.rest second.rest;
  still = still_on a b c first.still second.still;
  stop = in_a_row dev IsSame same_steps IsAny a b c first.stop second.stop;
}

-- what each image had before such a call, each picture of it has
pub quiet_within : (dev : ℕ) (S : List ℕ → List ℕ → Type 0) (steps : IsSteps S) (Q : List ℕ → Type 0) (old new : View) → IsQuiet dev old new → ((c : List ℕ) → old.may_leave dev c → Q c) → Within dev S Q old new
quiet_within dev S steps Q old new quiet has =
    wider dev IsSame S IsAny Q old new (λ b c may same any. (subst (S b) (sym same) (steps.none b), subst Q (sym same) (has b may))) quiet.stop
