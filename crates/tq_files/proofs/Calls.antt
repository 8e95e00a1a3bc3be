-- The calls of a host that tells nothing of its content.
use Rattle.std.proofs.Common.{◌≡◌, ◌≤◌, ℕ, List, length, Result, Ok, Err, IfOk, OnOk, OnErr, refl, subst, ap, inr, arith}
use Rattle.std.specs.Counts.{IsPrefixLen}
use Rattle.tq_host.specs.declared.host.Failed.{Failed}
use Rattle.tq_host.specs.Calls.{IsDeviceCall, IsStreamCall, Takes, Gives, next_count}
use Rattle.tq_files.specs.declared.tally.Tally.{Tally}
use Rattle.tq_files.specs.declared.part.Part.TheVariants.{Device, Input, Output}
use Rattle.tq_files.specs.Told.{nothing, file_view, ticked, failed, NoneFalls}

module _ {T : Type 0} (old new : Tally) (grown : NoneFalls old new) where
  -- the number of the device makes no difference
  pub device_call : (r : Result T Failed) → OnOk r (new ≡ ticked old) → OnErr r (new ≡ failed (Device 0) old) → IsDeviceCall r (file_view old) (file_view new)
  device_call (Ok x) ok err = record {
    clock = record { later = grown.clock; ok = ap (λ (t : Tally). t.clock) ok; failed = tt };
    cause = record { later = grown.device; ok = ap (λ (t : Tally). t.device) ok; failed = tt };
    streams = ap (λ (t : Tally). (file_view t).streams) ok;
    time = λ t p le left. absurd left;
    keeps = λ t p le left. left;
  }
  device_call (Err x) ok err = record {
    clock = record { later = grown.clock; ok = tt; failed = inr (ap (λ (t : Tally). t.clock) err) };
    cause = record { later = grown.device; ok = tt; failed = omega (arith, ap (λ (t : Tally). t.device) err) };
    streams = ap (λ (t : Tally). (file_view t).streams) err;
    time = λ t p le left. absurd left;
    keeps = λ t p le left. left;
  }

  stream_call : (r : Result T Failed) → OnOk r (new ≡ ticked old) → OnErr r ((new.clock ≡ next_count old.clock) × (new.device ≡ old.device)) → IsStreamCall r (file_view old) (file_view new)
  stream_call (Ok x) ok err = record {
    clock = record { later = grown.clock; ok = ap (λ (t : Tally). t.clock) ok; failed = tt };
    faults = ap (λ (t : Tally). t.device) ok;
    still = record { reads = λ d. refl; attached = refl; may_leave = λ d c may. may };
    keeps = λ t p le left. left;
  }
  stream_call (Err x) ok err = record {
    clock = record { later = grown.clock; ok = tt; failed = inr err.0 };
    faults = err.1;
    still = record { reads = λ d. refl; attached = refl; may_leave = λ d c may. may };
    keeps = λ t p le left. left;
  }

  pub take_call : (r : Result T Failed) → OnOk r (new ≡ ticked old) → OnErr r (new ≡ failed Input old) → IsStreamCall r (file_view old) (file_view new)
  take_call (Ok x) ok err = stream_call (Ok x) ok tt
  take_call (Err x) ok err = stream_call (Err x) tt (ap (λ (t : Tally). t.clock) err, ap (λ (t : Tally). t.device) err)

  pub give_call : (r : Result T Failed) → OnOk r (new ≡ ticked old) → OnErr r (new ≡ failed Output old) → IsStreamCall r (file_view old) (file_view new)
  give_call (Ok x) ok err = stream_call (Ok x) ok tt
  give_call (Err x) ok err = stream_call (Err x) tt (ap (λ (t : Tally). t.clock) err, ap (λ (t : Tally). t.device) err)

pub took : (old new : Tally) (r : Result ℕ Failed) (into : List ℕ) → NoneFalls old new → OnOk r (new ≡ ticked old) → OnErr r (new ≡ failed Input old) → IfOk r (λ n. n ≤ length into)
    → Takes nothing r into (file_view old).streams (file_view new).streams
took old new (Ok n) into grown ok err within = record {
  cause = record { later = grown.input; ok = ap (λ (t : Tally). t.input) ok; failed = tt };
  bound = within;
  bytes = λ told. absurd told;
  counted = λ told. absurd told;
  script = tt;
  taken = tt;
  takes = tt;
  output = refl;
  stamps = refl;
  output_faults = ap (λ (t : Tally). t.output) ok;
}
took old new (Err x) into grown ok err within = record {
  cause = record { later = grown.input; ok = tt; failed = omega (arith, ap (λ (t : Tally). t.input) err) };
  bound = tt;
  bytes = tt;
  counted = tt;
  script = refl;
  taken = refl;
  takes = refl;
  output = refl;
  stamps = refl;
  output_faults = ap (λ (t : Tally). t.output) err;
}

pub gave : (old new : Tally) (r : Result (Unit {0}) Failed) (bytes : List ℕ) → NoneFalls old new → OnOk r (new ≡ ticked old) → OnErr r (new ≡ failed Output old)
    → Gives nothing r bytes (file_view old) (file_view new)
gave old new (Ok x) bytes grown ok err = record {
  cause = record { later = grown.output; ok = ap (λ (t : Tally). t.output) ok; failed = tt };
  ok = λ told. absurd told;
  failed = tt;
  script = refl;
  taken = refl;
  takes = refl;
  input_faults = ap (λ (t : Tally). t.input) ok;
}
gave old new (Err x) bytes grown ok err = record {
  cause = record { later = grown.output; ok = tt; failed = omega (arith, ap (λ (t : Tally). t.output) err) };
  ok = tt;
  failed = λ told. absurd told;
  script = refl;
  taken = refl;
  takes = refl;
  input_faults = ap (λ (t : Tally). t.input) err;
}

-- the number that was read is the number that is answered
pub within : {E : Type 0} (into : List ℕ) (read : Result ℕ E) (r : Result ℕ Failed) → IfOk read (λ n. IsPrefixLen n into) → IfOk r (λ n. read ≡ Ok n) → IfOk r (λ n. n ≤ length into)
within {E} into read (Ok n) bound is = (subst (λ (x : Result ℕ E). IfOk x (λ k. IsPrefixLen k into)) is bound).0
within {E} into read (Err x) bound is = tt
