-- Answers that are given in one call, as one more line is answered.
use Rattle.std.proofs.Common.{◌≡◌, ⊎_elim, ◌<◌, ◌≤◌, ℕ, List, [], ◌∷◌, ◌++◌, sym, ◌∙◌, ap, subst, arith, length, append_assoc, length-append}
use Rattle.std.specs.Prelude.{replicate}
use Rattle.std.proofs.lemmas.List.{append_cancel_left, length-replicate}
use Rattle.tq_host.specs.View.{View, Stamp}
use Rattle.tq_model.specs.declared.request.Request.{Request}
use Rattle.tq_model.specs.Site.{Site}
use Rattle.tq_model.specs.MachineWithFaults.{Condition, Failures, Progress, after, beginning}
use Rattle.tq_run.specs.Idle.{AreWhole, clock_at}
use Rattle.tq_run.specs.Turns.{Origin, GoesOn, IsAnswered, trace_from, told_after}
use Rattle.tq_run.proofs.LastLineLemmas.{last_or_before, clock_before, clock_here}
use Rattle.tq_run.proofs.TurnLemmas.{after-append, text_grows, text_ahead, told_still, more_stamps}

-- where nothing is answered
pub whole_none : (o : Origin) (now : ℕ) (added : List Stamp) (failed : Failures) (found : Site) → AreWhole o now added failed found []
whole_none o now added failed found front rest request at is from lt = absurd (omega (arith, ap (λ (l : List Request). length l) is, length-append front (request ∷ rest)))

-- where nothing is told since
pub whole_still : {o : Origin} {found : Site} {failed : Failures} {done : List Request} {c c' : Condition} {a b : View} (answered : IsAnswered o a found failed done c) (next : IsAnswered o b found failed done c')
    → b.streams.stamps ≡ a.streams.stamps → b.faults ≡ a.faults → AreWhole o a.faults answered.added failed found done → AreWhole o b.faults next.added failed found done
whole_still {o} {found} {failed} {done} {c} {c'} {a} {b} answered next stamps faults whole =
    let same : answered.added ≡ next.added = append_cancel_left o.stamps answered.added next.added (sym answered.stamps ∙ sym stamps ∙ next.stamps) in
    subst (λ (l : List Stamp). AreWhole o b.faults l failed found done) same (subst (λ n. AreWhole o n answered.added failed found done) (sym faults) whole)

-- Lines that are answered, and one more, told by these bytes
module _ {o : Origin} {found : Site} {failed : Failures} {done : List Request} {c : Condition} {a : View} (answered : IsAnswered o a found failed done c) (whole : AreWhole o a.faults answered.added failed found done)
    (d : View) (k : ℕ) (told : Stamp) (some : 1 ≤ k) (stamps : d.streams.stamps ≡ a.streams.stamps ++ replicate k told) (since : Failures) (on : GoesOn o a failed since) (r : Request) where
  abbrev added : List Stamp
  added = answered.added

  abbrev all : List Stamp
  all = answered.added ++ replicate k told

  abbrev early : List Request → ℕ
  early part = length (told_after o a.faults answered.added failed found part).text

  abbrev late : List Request → ℕ
  late part = length (told_after o d.faults (answered.added ++ replicate k told) since found part).text

  still : (part : List Request) → early part ≤ length added → late part ≡ early part
  still part le = ap (λ (q : Progress). length q.text) (told_still answered d (replicate k told) stamps since on part le)

  -- the new line
  whole_here : late (done ++ r ∷ []) ≡ length all → (front : List Request) (request : Request) (at : ℕ) → done ≡ front → r ≡ request → late front ≤ at → at < late (front ++ request ∷ []) → clock_at all at ≡ clock_at all (late front)
  whole_here long front request at same own from lt =
      let size : late front ≡ length added = ap late (sym same) ∙ still done (omega (arith, answered.long)) ∙ sym answered.long in
      let line : done ++ r ∷ [] ≡ front ++ request ∷ [] = ap (λ (l : List Request). l ++ r ∷ []) same ∙ ap (λ (q : Request). front ++ q ∷ []) own in
      let end : late (front ++ request ∷ []) ≡ length all = ap late (sym line) ∙ long in
      clock_here added k told at (omega (arith, from, size)) (omega (arith, lt, end))
      ∙ sym (clock_here added k told (late front) (omega (arith, size)) (omega (arith, size, some, length-append added (replicate k told), length-replicate k told)))

  -- an earlier one
  whole_before : (front mid : List Request) (request : Request) (at : ℕ) → done ≡ front ++ request ∷ mid → late front ≤ at → at < late (front ++ request ∷ []) → clock_at all at ≡ clock_at all (late front)
  whole_before front mid request at split from lt =
      let line = front ++ request ∷ [] in
      let ahead : early front < early line = text_ahead o a.faults added failed found front [] request in
      let joined : done ≡ line ++ mid = split ∙ sym (append_assoc front (request ∷ []) mid) in
      let grows : early line ≤ early done = subst (λ (l : List Request). early line ≤ early l) (sym joined) (text_front line mid) in
      let same = still front (omega (arith, ahead, grows, answered.long)) in
      let upto = still line (omega (arith, grows, answered.long)) in
      clock_before added k told at (omega (arith, lt, upto, grows, answered.long))
      ∙ whole front mid request at split (omega (arith, from, same)) (omega (arith, lt, upto))
      ∙ sym (clock_before added k told (early front) (omega (arith, ahead, grows, answered.long))) ∙ ap (clock_at all) (sym same)
    where
      text_front : (part more : List Request) → early part ≤ early (part ++ more)
      text_front part more =
          let trace = trace_from o a.faults answered.added in
          omega (
            arith,
            ap (λ (q : Progress). length q.text) (after-append trace failed part more (beginning found)),
            text_grows trace failed more (after trace failed (beginning found) part),
          )

  pub whole_next : {c' : Condition} → (next : IsAnswered o d found since (done ++ r ∷ []) c') → AreWhole o d.faults next.added since found (done ++ r ∷ [])
  whole_next next =
      let bytes : all ≡ next.added = append_cancel_left o.stamps all next.added (sym (more_stamps o a d added (replicate k told) answered.stamps stamps) ∙ next.stamps) in
      let long : late (done ++ r ∷ []) ≡ length all = subst (λ (l : List Stamp). length (told_after o d.faults l since found (done ++ r ∷ [])).text ≡ length l) (sym bytes) (sym next.long) in
      subst (λ (l : List Stamp). AreWhole o d.faults l since found (done ++ r ∷ [])) bytes (λ front rest request at is from lt. ⊎_elim
      (λ (same, own). whole_here long front request at same own from lt)
      (λ (mid, split). whole_before front mid request at split from lt) (last_or_before done front rest r request is))
