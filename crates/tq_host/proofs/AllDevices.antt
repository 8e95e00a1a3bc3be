-- How a call on several devices goes on.
use Rattle.std.proofs.Common.{inl, inr, ⊎_elim, ℕ, List, refl, ◌∙◌, ap, arith}
use Rattle.tq_host.specs.View.{View, Streams, Images, AreNow}
use Rattle.tq_host.specs.Within.{Within, WithinAll}

-- at the start, where all images have P
pub starts_all : (P : Images → Type 0) (start : View) → ((images : Images) → AreNow start images → P images) → WithinAll P start start
starts_all P start has = record { later = omega arith; images = has; streams = refl; pictures = λ t p le left. inl left }

-- another property of the images
pub weaker_all : (P Q : Images → Type 0) (start now : View) → ((images : Images) → P images → Q images) → WithinAll P start now → WithinAll Q start now
weaker_all P Q start now is so_far = record {
  later = so_far.later;
  images = λ images may. is images (so_far.images images may);
  streams = so_far.streams;
  pictures = λ t p le left. ⊎_elim (λ old. inl old) (λ here. inr (record { images = is p.images here.images; output = here.output })) (so_far.pictures t p le left);
}

-- two calls in a row
pub all_in_a_row : (P : Images → Type 0) (start mid new : View) → WithinAll P start mid → WithinAll P mid new → WithinAll P start new
all_in_a_row P start mid new first second = record {
  later = omega (arith, first.later, second.later);
  images = second.images;
  streams = second.streams ∙ first.streams;
  pictures = λ t p le left. ⊎_elim (first.pictures t p le)
      (λ here. inr (record { images = here.images; output = here.output ∙ ap (λ (s : Streams). s.output) first.streams })) (second.pictures t p (omega (arith, le, first.later)) left);
}

-- a call on one device, whose image alone says what all images have
pub of_one : (dev : ℕ) (S : List ℕ → List ℕ → Type 0) (Q : List ℕ → Type 0) (P : Images → Type 0) (start now : View)
    → ((b : List ℕ) (images : Images) → start.may_leave dev b → S b (images dev) → Q (images dev) → P images) → Within dev S Q start now → WithinAll P start now
of_one dev S Q P start now is within = record {
  later = within.later;
  images = λ images may. let own = within.own (images dev) (may dev) in is own.image images own.was own.step own.now;
  streams = within.streams;
  pictures = λ t p le left. ⊎_elim (λ old. inl old)
      (λ here. inr (record { images = is here.own.image p.images here.own.was here.own.step here.own.now; output = here.output })) (within.pictures t p le left);
}
