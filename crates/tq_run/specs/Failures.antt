-- In which steps of a run a device failed, by what the host tells.
use Rattle.std.specs.Prelude.{◌≡◌, ◌<◌, ℕ, true}
use Rattle.tq_host.specs.View.{last_count}
use Rattle.tq_host.specs.Calls.{Rose}
use Rattle.tq_model.specs.MachineWithFaults.{Trace, Failures, count_before, count_at, rose_at}

-- A device failed in each step in which the device count rose, and in no other. At its last value the count cannot rise, and
-- leaves open in which steps one failed; where it has not come to that value, it tells them all.
pub record AreFailures (trace : Trace) (failed : Failures) : Type 0 where
  pub rose : (at : ℕ) → failed at ≡ true → Rose (count_before trace at) (count_at trace at)
  pub only : (at : ℕ) → count_before trace at < count_at trace at → failed at ≡ true
  pub told : trace.after < last_count → (at : ℕ) → failed at ≡ rose_at trace at
