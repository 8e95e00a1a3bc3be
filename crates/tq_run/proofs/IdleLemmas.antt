-- Idle lines of a run, as one more line is answered.
use Rattle.std.proofs.Common.{◌≡◌, ⊎_elim, ◌<◌, ◌≤◌, ℕ, ◌-◌, List, [], ◌∷◌, ◌++◌, sym, ◌∙◌, ap, subst, arith, length, length-append}
use Rattle.std.specs.Prelude.{replicate}
use Rattle.std.proofs.lemmas.List.{length-replicate}
use Rattle.tq_host.specs.View.{View, Stamp}
use Rattle.tq_host.specs.Calls.{next_count}
use Rattle.tq_model.specs.declared.request.Request.{Request}
use Rattle.tq_model.specs.Site.{Site}
use Rattle.tq_model.specs.MachineWithFaults.{Condition, Failures, Progress}
use Rattle.tq_run.specs.declared.state.State.{State}
use Rattle.tq_run.specs.Idle.{IsIdle, AreIdleLines, clock_at}
use Rattle.tq_run.specs.Standing.{HasReached}
use Rattle.tq_run.specs.Turns.{Origin, GoesOn, told_after}
use Rattle.tq_run.proofs.LastLineLemmas.{last_or_before, clock_before, clock_here}
use Rattle.tq_run.proofs.TurnLemmas.{told_some, text_ahead, told_still, told_all}

-- two lines have no line behind two others
pub idle_few : (o : Origin) (now : ℕ) (added : List Stamp) (failed : Failures) (found : Site) (requests : List Request) → length requests ≤ 2 → AreIdleLines o now added failed found requests
idle_few o now added failed found requests few front rest request is some idle = absurd (omega (arith, few, some, ap (λ (l : List Request). length l) is, length-append front (request ∷ rest)))

-- A run so far, and one more line, told by these bytes
module _ {o : Origin} {found : Site} {failed : Failures} {done : List Request} {state : State} {a : View} (reached : HasReached o found failed done state a)
    (d : View) (k : ℕ) (told : Stamp) (some : 1 ≤ k) (stamps : d.streams.stamps ≡ a.streams.stamps ++ replicate k told) (since : Failures) (on : GoesOn o a failed since) where
  abbrev added : List Stamp
  added = reached.answered.added

  abbrev all : List Stamp
  all = reached.answered.added ++ replicate k told

  before : (at : ℕ) → at < length reached.answered.added → clock_at all at ≡ clock_at added at
  before = clock_before added k told

  module _ (r : Request) (idles : IsIdle reached.condition r → told.clock ≡ a.clock) where
    -- the new line
    idle_here : (front : List Request) (request : Request) → done ≡ front → r ≡ request → 2 ≤ length front → IsIdle (told_after o d.faults all since found front).condition request
        → clock_at all (length (told_after o d.faults all since found front).text) ≡ next_count (clock_at all (length (told_after o d.faults all since found front).text - 1))
    idle_here front request same own long idle =
        let e : told_after o d.faults all since found front ≡ told_after o a.faults added failed found done
        = ap (told_after o d.faults all since found) (sym same) ∙ told_all reached.answered d (replicate k told) stamps since on in
        let is : (told_after o d.faults all since found front).condition ≡ reached.condition = ap (λ (q : Progress). q.condition) e ∙ reached.answered.condition in
        let size : length (told_after o d.faults all since found front).text ≡ length added = ap (λ (q : Progress). length q.text) e ∙ sym reached.answered.long in
        let two : 2 ≤ length done = omega (arith, long, ap (λ (l : List Request). length l) same) in
        let own_idle : IsIdle reached.condition r = subst (λ (q : Request). IsIdle reached.condition q) (sym own) (subst (λ (c : Condition). IsIdle c request) is idle) in
        subst (λ n. clock_at all n ≡ next_count (clock_at all (n - 1))) (sym size)
        (clock_here added k told (length added) (omega arith) (omega (arith, some, length-append added (replicate k told), length-replicate k told)) ∙ idles own_idle ∙ reached.clock two
        ∙ ap next_count (sym (before (length added - 1) (omega (arith, reached.answered.long, told_some o a.faults added failed found done (omega (arith, two)))))))

    -- an earlier one
    idle_before : (front mid : List Request) (request : Request) → done ≡ front ++ request ∷ mid → 2 ≤ length front → IsIdle (told_after o d.faults all since found front).condition request
        → clock_at all (length (told_after o d.faults all since found front).text) ≡ next_count (clock_at all (length (told_after o d.faults all since found front).text - 1))
    idle_before front mid request split long idle =
        let text = (told_after o a.faults added failed found front).text in
        let lt : length text < length added = omega (
          arith,
          text_ahead o a.faults added failed found front mid request,
          ap (λ (l : List Request). length (told_after o a.faults added failed found l).text) split,
          reached.answered.long,
        ) in
        let same = told_still reached.answered d (replicate k told) stamps since on front (omega (arith, lt)) in
        subst (λ (q : Progress). clock_at all (length q.text) ≡ next_count (clock_at all (length q.text - 1))) (sym same)
        (before (length text) lt ∙ reached.idle front mid request split long (subst (λ (q : Progress). IsIdle q.condition request) same idle) ∙ ap next_count (sym (before (length text - 1) (omega (arith, lt)))))

    pub idle_next : AreIdleLines o d.faults (reached.answered.added ++ replicate k told) since found (done ++ r ∷ [])
    idle_next front rest request is long idle = ⊎_elim
        (λ (same, own). idle_here front request same own long idle)
        (λ (mid, split). idle_before front mid request split long idle) (last_or_before done front rest r request is)
