-- Pictures of a part of a run.
use Rattle.std.proofs.Common.{◌≡◌, inl, inr, ⊎_elim, ◌∙◌}
use Rattle.tq_host.specs.View.{View, Images, Picture}
use Rattle.tq_host.specs.Within.{WithinAll, IsOfAll, Ran}
use Rattle.tq_host.proofs.RunLemmas.{ran_on, ran_weaker}
use Rattle.tq_coord.specs.Images.{HasNoNewImage}
use Rattle.tq_run.specs.Stops.{IsWaiting}

-- a call on devices
pub ran_all : (P : Picture → Type 0) (Q : Images → Type 0) (old new : View) → WithinAll Q old new → ((p : Picture) → IsOfAll Q old p → P p) → Ran P old new
ran_all P Q old new call has = record {
  later = call.later;
  pictures = λ t p le left. ⊎_elim (λ before. inl before) (λ here. inr (has p here)) (call.pictures t p le left);
}

-- A part that changes nothing

pub no_new_on : (a b c : View) → HasNoNewImage a b → HasNoNewImage b c → HasNoNewImage a c
no_new_on a b c first second = λ d image may. first d image (second d image may)

pub waits_on : (a b c : View) → Ran (IsWaiting a) a b → HasNoNewImage a b → b.streams.output ≡ a.streams.output → Ran (IsWaiting b) b c → Ran (IsWaiting a) a c
waits_on a b c first none same second =
    ran_on (IsWaiting a) a b c first (ran_weaker (IsWaiting b) (IsWaiting a) b c (λ p w. record { images = λ d. none d (p.images d) (w.images d); output = w.output ∙ same }) second)
