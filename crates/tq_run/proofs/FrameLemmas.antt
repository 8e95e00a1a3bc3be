-- What each call of a run leaves alone beside the devices that its words name.
use Rattle.std.proofs.Common.{◌≢◌, inl, inr, ⊎_elim, ◌≤◌, ℕ, List, Option, Result, ap, arith}
use Rattle.tq_host.specs.declared.host.Failed.{Failed}
use Rattle.tq_host.specs.View.{Told, View}
use Rattle.tq_host.specs.Calls.{Attaches, Elapses, ElapsesGiving, IsDeviceCall, IsStreamCall}
use Rattle.tq_coord.specs.Frame.{device_count, LeavesOthers}

not_first : (d : ℕ) → device_count ≤ d → d ≢ 0
not_first d le e = absurd (omega (arith, le, e))

-- device 0 is attached
pub others_attached : (a b : View) {tells : Told} {path : List ℕ} {T : Type 0} (r : Result T Failed) → IsDeviceCall r a b → Attaches tells 0 path r a b → LeavesOthers a b
others_attached a b r call same = record {
  later = call.clock.later;
  reads = λ d le. same.reads d;
  attached = λ d le. same.others d (not_first d le);
  images = λ d c le may. same.may_leave d c may;
  pictures = λ t p le left. ⊎_elim (λ before. inl before) (λ now. inr (λ d beside. same.may_leave d (p.images d) (now.images d))) (call.time t p le left);
}

-- a take
pub others_taking : (a b : View) {T : Type 0} (r : Result T Failed) → IsStreamCall r a b → Elapses a b → LeavesOthers a b
others_taking a b r call time = record {
  later = call.clock.later;
  reads = λ d le. call.still.reads d;
  attached = λ d le. ap (λ (f : ℕ → Option (List ℕ)). f d) call.still.attached;
  images = λ d c le may. call.still.may_leave d c may;
  pictures = λ t p le left. ⊎_elim (λ before. inl before) (λ now. inr (λ d beside. call.still.may_leave d (p.images d) (now.images d))) (time t p le left);
}

-- a give
pub others_giving : (bytes : List ℕ) (a b : View) {T : Type 0} (r : Result T Failed) → IsStreamCall r a b → ElapsesGiving bytes a b → LeavesOthers a b
others_giving bytes a b r call time = record {
  later = call.clock.later;
  reads = λ d le. call.still.reads d;
  attached = λ d le. ap (λ (f : ℕ → Option (List ℕ)). f d) call.still.attached;
  images = λ d c le may. call.still.may_leave d c may;
  pictures = λ t p le left. ⊎_elim (λ before. inl before) (λ now. inr (λ d beside. call.still.may_leave d (p.images d) (now.images d))) (time t p le left);
}
