-- What a run leaves alone where there is no site to be booted.
use Rattle.std.proofs.Common.{◌≡◌, inl, inr, ⊎_elim, ℕ, List, Result, Bool, true, false, sym, ◌∙◌, ap, arith}
use Rattle.std.proofs.lemmas.Bool.{true≢false}
use Rattle.tq_host.specs.declared.host.Failed.{Failed}
use Rattle.tq_host.specs.View.{Told, View, Streams, AreNow, IsLawful}
use Rattle.tq_host.specs.Calls.{Attaches, IsDeviceCall}
use Rattle.tq_host.specs.Within.{WithinAll}
use Rattle.tq_host.proofs.AllDevices.{starts_all}
use Rattle.tq_model.specs.Reading.{site_found}
use Rattle.tq_coord.specs.declared.site.Manager.{Manager}
use Rattle.tq_coord.specs.Frame.{device_count}
use Rattle.tq_coord.specs.Manager.{is_bootable, IsBooted}
use Rattle.tq_coord.proofs.ImageLemmas.{same_found}
use Rattle.tq_run.specs.Stops.{IsLeftAlone}

pub alone_start : (a : View) → WithinAll (AreNow a) a a
alone_start a = starts_all (AreNow a) a (λ images now. now)

-- a device is attached
pub alone_attached : (a b : View) {tells : Told} {path : List ℕ} {T : Type 0} (r : Result T Failed) → IsDeviceCall r a b → Attaches tells 0 path r a b → WithinAll (AreNow a) a b
alone_attached a b r call same = record {
  later = call.clock.later;
  images = λ images may d. same.may_leave d (images d) (may d);
  streams = call.streams;
  pictures = λ t p le left. ⊎_elim (λ before. inl before)
      (λ now. inr (record { images = λ d. same.may_leave d (p.images d) (now.images d); output = now.output ∙ ap (λ (s : Streams). s.output) call.streams })) (call.time t p le left);
}

-- what was booted was bootable
pub was_bootable : (m : Manager) (a b c : View) → b.reads 0 ≡ a.reads 0 → IsBooted m b c → is_bootable (site_found device_count a.reads) ≡ true
was_bootable m a b c same boot = ap is_bootable (sym (same_found b.reads a.reads same) ∙ boot.stood) ∙ boot.raisable

pub contradicts : (b : Bool) {A : Type 0} → b ≡ true → b ≡ false → A
contradicts b is isnt = absurd (true≢false (sym is ∙ isnt))

pub is_left_alone : {tells : Told} (start now : View) → IsLawful tells start → WithinAll (AreNow start) start now → IsLeftAlone start now
is_left_alone start now lawful alone = record {
  output = ap (λ (s : Streams). s.output) alone.streams;
  pictures = λ p left. ⊎_elim (λ before. let at_start = lawful.only_now p before in record { images = at_start.images; output = at_start.output })
      (λ here. record { images = here.images; output = here.output }) (alone.pictures start.clock p (omega arith) left);
}
