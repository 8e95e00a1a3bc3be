-- By which paths the devices are attached while the output is given.
use Rattle.std.proofs.Common.{◌≡◌, ℕ, zero, suc, List, [], ◌∷◌, ◌++◌, All, length, Option, Some, Result, Ok, Err, refl, sym, ◌∙◌, ap, subst, arith, append_assoc}
use Rattle.std.specs.Prelude.{replicate}
use Rattle.std.proofs.lemmas.List.{append-nil, append_cancel_left}
use Rattle.std.proofs.lemmas.List.Elements.{All-nil, All-append, All-replicate, All-weaker}
use Rattle.tq_host.specs.declared.host.Failed.{Failed}
use Rattle.tq_host.specs.View.{Told, View, Stamp, Streams, stamp_now}
use Rattle.tq_host.specs.Calls.{Gives, IsGiven, IsStreamCall}
use Rattle.tq_run.specs.Output.{AreAttached, TellsAttached, TellsMore, StaysAttached}

-- The devices stay attached as they are

-- nothing is given
pub stays_same : (a b : View) → b.attached ≡ a.attached → b.streams.stamps ≡ a.streams.stamps → StaysAttached a b
stays_same a b attached same = record { attached = attached; added = []; stamps = same ∙ sym (append-nil a.streams.stamps); given = All-nil (λ (s : Stamp). s.attached ≡ a.attached) }

-- a call on devices
pub stays_beside : (a b : View) → b.attached ≡ a.attached → b.streams ≡ a.streams → StaysAttached a b
stays_beside a b attached same = stays_same a b attached (ap (λ (s : Streams). s.stamps) same)

-- a give
stays_given : (a b : View) (k : ℕ) (bytes : List ℕ) → b.attached ≡ a.attached → IsGiven k bytes a b → StaysAttached a b
stays_given a b k bytes attached given = record {
  attached = attached;
  added = replicate k (stamp_now a);
  stamps = given.stamps;
  given = All-replicate (λ (s : Stamp). s.attached ≡ a.attached) k (stamp_now a) refl;
}

pub stays_giving : {tells : Told} (r : Result (Unit {0}) Failed) (bytes : List ℕ) (a b : View) → IsStreamCall r a b → Gives tells r bytes a b → tells.output → StaysAttached a b
stays_giving (Ok x) bytes a b call gave t = stays_given a b (length bytes) bytes call.still.attached (gave.ok t)
stays_giving (Err e) bytes a b call gave t = let some = gave.failed t in stays_given a b some.0 bytes call.still.attached some.1

-- two parts in a row
pub stays_on : (a b c : View) → StaysAttached a b → StaysAttached b c → StaysAttached a c
stays_on a b c first second = record {
  attached = second.attached ∙ first.attached;
  added = first.added ++ second.added;
  stamps = second.stamps ∙ ap (λ (l : List Stamp). l ++ second.added) first.stamps ∙ append_assoc a.streams.stamps first.added second.added;
  given = All-append (λ (s : Stamp). s.attached ≡ a.attached) first.added second.added first.given
      (All-weaker (λ (s : Stamp). s.attached ≡ b.attached) (λ (s : Stamp). s.attached ≡ a.attached) (λ s is. is ∙ first.attached) second.added second.given);
}

-- The devices are attached by these paths

pub one_attached : (path : List ℕ) (attached : ℕ → Option (List ℕ)) → attached 0 ≡ Some path → AreAttached (path ∷ []) attached
one_attached path attached is zero below = is
one_attached path attached is (suc i) below = absurd (omega arith)

-- these bytes were given
told_attached : (paths : List (List ℕ)) (a b : View) (told : List Stamp) → b.streams.stamps ≡ a.streams.stamps ++ told → All (λ (s : Stamp). AreAttached paths s.attached) told → TellsAttached paths a b
told_attached paths a b told is by added at = subst (All (λ (s : Stamp). AreAttached paths s.attached)) (append_cancel_left a.streams.stamps told added (sym is ∙ at)) by

-- nothing was given
pub attached_none : (paths : List (List ℕ)) (a b : View) → b.streams.stamps ≡ a.streams.stamps → TellsAttached paths a b
attached_none paths a b same = told_attached paths a b [] (same ∙ sym (append-nil a.streams.stamps)) (All-nil (λ (s : Stamp). AreAttached paths s.attached))

-- a further part within which the devices stay attached
pub attached_on : (paths : List (List ℕ)) (a b c : View) → TellsMore a b → TellsAttached paths a b → AreAttached paths b.attached → StaysAttached b c → TellsAttached paths a c
attached_on paths a b c more by now stays =
    let ByPaths : Stamp → Type 0 = λ s. AreAttached paths s.attached in
    told_attached paths a c (more.0 ++ stays.added) (stays.stamps ∙ ap (λ (l : List Stamp). l ++ stays.added) more.1 ∙ append_assoc a.streams.stamps more.0 stays.added)
    (All-append ByPaths more.0 stays.added (by more.0 more.1)
    (All-weaker (λ (s : Stamp). s.attached ≡ b.attached) ByPaths (λ s is. subst (λ (f : ℕ → Option (List ℕ)). AreAttached paths f) (sym is) now) stays.added stays.given))

-- behind a part that gave nothing
pub attached_given : (paths : List (List ℕ)) (a b c : View) → b.streams.stamps ≡ a.streams.stamps → AreAttached paths b.attached → StaysAttached b c → TellsAttached paths a c
attached_given paths a b c same = attached_on paths a b c ([], same ∙ sym (append-nil a.streams.stamps)) (attached_none paths a b same)
