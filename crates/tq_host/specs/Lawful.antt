-- The law of hosts for what follows from an account.
use Rattle.std.specs.Prelude.{◌<◌, ◌≤◌, ℕ, List, [], ◌∷◌, length}
use Rattle.std.proofs.Common.{◌≡◌, zero, suc, inr, arith, refl, ap}
use Rattle.tq_host.specs.declared.call.Call.{Call}
use Rattle.tq_host.specs.declared.counts.Counts.{Counts}
use Rattle.tq_host.specs.View.{Picture, IsLawful, last_count}
use Rattle.tq_host.specs.Events.{Event, events_of, State, blank, step, replay, IsShot, LeftSince, IsFine}
use Rattle.tq_host.specs.Account.{everything, view_of}

-- since the last moment there is no other
pub last_shot : (events : List Event) (s : State) (p : Picture) → LeftSince s (length events) events p → IsShot (replay s events) p
last_shot [] s p shot = shot
last_shot (event ∷ events) s p shot = last_shot events (step event s) p shot

-- a picture of the last moment is one since each earlier one
pub counts_now : (events : List Event) (s : State) (t : ℕ) (p : Picture) → t ≤ length events → IsShot (replay s events) p → LeftSince s t events p
counts_now [] s zero p le shot = shot
counts_now [] s (suc t) p le shot = absurd (omega arith)
counts_now (event ∷ events) s zero p le shot = inr (counts_now events (step event s) zero p (omega arith) shot)
counts_now (event ∷ events) s (suc t) p le shot = counts_now events (step event s) t p (omega arith) shot

pub events_long : (calls : List Call) → length (events_of calls) ≡ length calls
events_long [] = refl
events_long (call ∷ calls) = ap suc (events_long calls)

pub account_lawful : (script : List ℕ) (calls : List Call) (counts : Counts) → IsFine (replay blank (events_of calls)) → length calls < last_count
    → IsLawful everything (view_of (record { script = script; events = events_of calls; counts = counts }))
account_lawful script calls counts fine small = record {
  reads_an_image = λ t d. fine d;
  stops_told = λ d c image. tt;
  left_told = λ t p left. tt;
  reads_told = λ t. tt;
  stops_too = λ t. tt;
  only_now = λ p left. let now = last_shot (events_of calls) blank p left in record { images = now.images; output = now.output };
  counts_now = λ t p le now. counts_now (events_of calls) blank t p le (record { images = now.images; output = now.output });
  goes_on = λ t. omega (arith, events_long calls, small);
}
