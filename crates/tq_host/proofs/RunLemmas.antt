-- How a run goes on.
use Rattle.std.proofs.Common.{inl, inr, ⊎_elim, ◌≤◌, ℕ, List, arith}
use Rattle.tq_host.specs.View.{Told, View, Picture, IsNow, IsLawful}
use Rattle.tq_host.specs.Calls.{Elapses, IsGiving, ElapsesGiving}
use Rattle.tq_host.specs.Within.{Within, IsOfCall, Ran}

-- nothing was done yet
pub ran_start : (P : Picture → Type 0) (start : View) → Ran P start start
ran_start P start = record { later = omega arith; pictures = λ t p le left. inl left }

-- a further part of the run
pub ran_on : (P : Picture → Type 0) (start mid new : View) → Ran P start mid → Ran P mid new → Ran P start new
ran_on P start mid new first second = record {
  later = omega (arith, first.later, second.later);
  pictures = λ t p le left. ⊎_elim (λ old. first.pictures t p le old) (λ here. inr here) (second.pictures t p (omega (arith, le, first.later)) left);
}

-- a call on one device
pub ran_call : (P : Picture → Type 0) (dev : ℕ) (S : List ℕ → List ℕ → Type 0) (Q : List ℕ → Type 0) (old new : View) → Within dev S Q old new → ((p : Picture) → IsOfCall dev S Q old p → P p) → Ran P old new
ran_call P dev S Q old new call has = record {
  later = call.later;
  pictures = λ t p le left. ⊎_elim (λ before. inl before) (λ here. inr (has p here)) (call.pictures t p le left);
}

-- a call within which there are only the pictures of before and of after, as a take
pub ran_elapses : (P : Picture → Type 0) (old new : View) → old.clock ≤ new.clock → Elapses old new → ((p : Picture) → IsNow new p → P p) → Ran P old new
ran_elapses P old new later time has = record {
  later = later;
  pictures = λ t p le left. ⊎_elim (λ before. inl before) (λ here. inr (has p here)) (time t p le left);
}

-- a weaker property of the pictures
pub ran_weaker : (P Q : Picture → Type 0) (start now : View) → ((p : Picture) → P p → Q p) → Ran P start now → Ran Q start now
ran_weaker P Q start now weaker ran = record {
  later = ran.later;
  pictures = λ t p le left. ⊎_elim (λ before. inl before) (λ here. inr (weaker p here)) (ran.pictures t p le left);
}

-- a give
pub ran_give : (P : Picture → Type 0) (bytes : List ℕ) (old new : View) → old.clock ≤ new.clock → ElapsesGiving bytes old new → ((p : Picture) → IsGiving bytes old new p → P p) → Ran P old new
ran_give P bytes old new later time has = record {
  later = later;
  pictures = λ t p le left. ⊎_elim (λ before. inl before) (λ here. inr (has p here)) (time t p le left);
}

-- at the top: where each picture of the first moment has P, each since then has it
pub each : {tells : Told} (P : Picture → Type 0) (start now : View) → IsLawful tells start → Ran P start now → ((p : Picture) → IsNow start p → P p) → (p : Picture) → now.left_since start.clock p → P p
each P start now lawful ran at_start p left = ⊎_elim (λ before. at_start p (lawful.only_now p before)) (λ here. here) (ran.pictures start.clock p (omega arith) left)
