-- What a call on a space and its log comes to, and what a stop leaves within it.
use Rattle.std.proofs.Common.{◌≡◌, inl, inr, ⊎_elim, ◌<◌, ◌≤◌, ℕ, ◌+◌, List, [], ◌∷◌, length, drop, Option, Some, None, Bool, refl, sym, ◌∙◌, ap, subst, arith, add-zero}
use Rattle.std.specs.Prelude.{if◌then◌else◌}
use Rattle.std.specs.Option.{option_and_then, option_map}
use Rattle.std.proofs.lemmas.Option.{same_Some}
use Rattle.std.proofs.lemmas.List.{length-take}
use Rattle.std.proofs.lemmas.Bool.{le-ltb, lt-ltb}
use Rattle.tq_field.specs.Places.{run_at}
use Rattle.tq_field.specs.GatedLog.{log_reading, end_of}
use Rattle.tq_extent.specs.Bytes.{owned_bytes}
use Rattle.tq_extent.proofs.BytesLemmas.{on_bytes_steps}
use Rattle.tq_gate.specs.Reading.{AreRecords}
use Rattle.tq_gate.proofs.Readings.{read_of}
use Rattle.tq_host.specs.View.{View}
use Rattle.tq_host.specs.Within.{Within}
use Rattle.tq_host.proofs.Steps.{IsSteps}
use Rattle.tq_host.proofs.Within.{starts, weaker}
use Rattle.tq_types.specs.declared.identifiers.Arrival.{Arrival}
use Rattle.tq_model.specs.declared.answer.Answer.{Answer}
use Rattle.tq_model.specs.declared.answer.Answer.TheVariants as answers
use Rattle.tq_model.specs.declared.answer.LogRoom.{LogRoom}
use Rattle.tq_model.specs.Space.{Space}
use Rattle.tq_model.specs.Moves.{IndexedSpace, space_of}
use Rattle.tq_model.specs.Plain.{IsNewer}
use Rattle.tq_model.specs.Step.{SpaceOutcome, LoggedOutcome, log_refusal, unless_full, unless_refused_by}
use Rattle.tq_model.specs.Reading.{Replayed, log_start}
use Rattle.tq_model.specs.SpaceForm.{raw_space, shape_of, log_bytes, empty_space, replayed}
use Rattle.tq_space.specs.declared.plans.Plan.{Plan}
use Rattle.tq_space.specs.Applied.{plan_applied}
use Rattle.tq_space.specs.Loggable.{size_of}
use Rattle.tq_spacefile.specs.declared.place.SpacePlace.{SpacePlace}
use Rattle.tq_spacefile.specs.declared.file.SpaceFile.{SpaceFile}
use Rattle.tq_spacefile.specs.File.{place_in, clusters_in, held_in, logged_in, HasSpace, IsAnyStep, IsSameButSpace, room_for}
use Rattle.tq_spacefile.specs.Place.{page_of}
use Rattle.tq_spacefile.specs.Commit.{IsOldOrDone}
use Rattle.tq_coord.specs.declared.calls.Reply.{Reply}
use Rattle.tq_coord.specs.declared.planning.Planned.TheVariants as planned
use Rattle.tq_coord.specs.declared.planning.SpaceCall.{SpaceCall}
use Rattle.tq_coord.specs.declared.planning.SpaceCall.TheVariants.{Enqueue, Dequeue, CreateQueue}
use Rattle.tq_coord.specs.SpaceCalls.{outcome_of, numbers_asked}
use Rattle.tq_coord.specs.Calls.{logged_outcome_in, IsPlanFor, IsPlanned, IsCalled, HasOutcome, IsSameOrChanged, AreBehind}

-- any steps on the space
pub space_steps : (clusters : List ℕ) → IsSteps (IsSameButSpace clusters)
space_steps clusters = on_bytes_steps clusters IsAnyStep (record { none = λ c. tt; both = λ a b c first second. tt })

-- the numbers that are asked for
pub numbers_are : (call : SpaceCall) (s : Space) → numbers_asked call ≡ (outcome_of call s).numbers
numbers_are (Enqueue ask) s = refl
numbers_are (Dequeue ask) s = refl
numbers_are (CreateQueue c) s = refl

-- ---- the room of the log

-- the payloads that the space on an image is made of
payloads_are : (epoch : ℕ) (space : IndexedSpace) (o : Option (List (List ℕ))) (r : Replayed) → option_and_then (λ payloads. option_map (λ s. record { payloads = payloads; space = s }) (replayed epoch payloads space)) o ≡ Some r
    → o ≡ Some r.payloads
payloads_are epoch space None r is = cc
payloads_are epoch space (Some payloads) r is = made (replayed epoch payloads space) is
  where
    made : (o : Option IndexedSpace) → option_map (λ s. record { payloads = payloads; space = s }) o ≡ Some r → Some payloads ≡ Some r.payloads
    made None is = cc
    made (Some s) is = ap (λ (x : Replayed). Some x.payloads) (same_Some (record { payloads = payloads; space = s }) r is)

-- a closed gate stands behind the last payload
ends_within : (p : ℕ) (payloads : List (List ℕ)) (log : List ℕ) → AreRecords log p payloads → 0 < end_of payloads → p + end_of payloads + 1 ≤ length log
ends_within p [] log are some = absurd (omega arith)
ends_within p (x ∷ []) log are some = omega (arith, are.0.fits)
ends_within p (x ∷ y ∷ payloads) log are some =
    let rest : p + (5 + length x) + end_of (y ∷ payloads) + 1 ≤ length log = ends_within (p + (5 + length x)) (y ∷ payloads) log are.1 (omega arith) in
    omega arith

logged_within : (place : SpacePlace) (clusters : List ℕ) (epoch logged : ℕ) (held : IndexedSpace) (image : List ℕ) → 0 < logged → HasSpace place clusters epoch held logged image → logged + 1 ≤ log_bytes place.pages
logged_within place clusters epoch logged held image some has =
    let log = run_at log_start (log_bytes place.pages) (owned_bytes clusters image) in
    let space = empty_space (shape_of place.pages (raw_space (page_of clusters image))) place.site place.number in
    let reads : log_reading log ≡ Some has.payloads = payloads_are epoch space (log_reading log) (record { payloads = has.payloads; space = held }) has.reads in
    let are = (read_of (length log) 0 has.payloads log (omega arith) reads).records in
    let ends = ends_within 0 has.payloads log are (omega (arith, some, has.ends)) in
    omega (arith, ends, has.ends, length-take (log_bytes place.pages) (drop log_start (owned_bytes clusters image)))

-- Where an image has a record more, the log has room for it.
has_room : (f : SpaceFile) (epoch size : ℕ) (held : IndexedSpace) (image : List ℕ) → HasSpace (place_in f) (clusters_in f) epoch held (logged_in f + (5 + size)) image → logged_in f + (size + 6) ≤ log_bytes (place_in f).pages
has_room f epoch size held image has =
    let within : logged_in f + (5 + size) + 1 ≤ log_bytes (place_in f).pages = logged_within (place_in f) (clusters_in f) epoch (logged_in f + (5 + size)) held image (omega arith) has in
    omega (arith, within)

-- ---- what a call comes to

module _ (f : SpaceFile) (next : Arrival) (c : SpaceOutcome) where
  abbrev o : LoggedOutcome
  o = logged_outcome_in f c

  abbrev before : Space
  before = space_of (held_in f)

  abbrev reply : Answer → ℕ → Reply
  reply answer numbers = record { answer = answer; numbers = numbers }

  -- the space refuses it
  pub called_refused : (f' : SpaceFile) (a : Answer) → f' ≡ f → IsPlanned (held_in f) next c (planned.Refused a) → IsCalled f f' next o (reply a 0)
  called_refused f' a same is =
      let outcome : o ≡ record { answer = a; space = c.space; logged = logged_in f; numbers = 0 } = ap (unless_refused_by (place_in f).pages (logged_in f) before c) is.0 in
      record {
        answer = ap (λ (x : LoggedOutcome). x.answer) (sym outcome);
        numbers = ap (λ (x : LoggedOutcome). x.numbers) (sym outcome);
        space = ap (λ (x : SpaceFile). space_of (held_in x)) same ∙ is.1 ∙ ap (λ (x : LoggedOutcome). x.space) (sym outcome);
        logged = ap logged_in same ∙ ap (λ (x : LoggedOutcome). x.logged) (sym outcome);
        newer = λ newer. subst (λ (k : ℕ). IsNewer next.epoch k (held_in f')) (sym (add-zero next.number) ∙ ap (λ (x : LoggedOutcome). next.number + x.numbers) (sym outcome)) (subst (λ (x : SpaceFile). IsNewer next.epoch next.number (held_in x)) (sym same) newer);
      }

  -- where the space refuses nothing, and this plan makes the change
  module _ (free : c.refusal ≡ None) (plan : Plan) (is : IsPlanFor (held_in f) next c plan) where
    by_log : (full : Option Answer) → log_refusal (place_in f).pages (logged_in f) c.size ≡ full → o ≡ unless_full (logged_in f) before c full
    by_log full refusal = ap (unless_refused_by (place_in f).pages (logged_in f) before c) free ∙ ap (unless_full (logged_in f) before c) refusal

    full_outcome : (room : LogRoom) → (log_bytes (place_in f).pages < logged_in f + (size_of plan + 6)) × (room ≡ room_for (place_in f).pages (logged_in f) (size_of plan))
        → o ≡ record { answer = answers.LogFull room; space = before; logged = logged_in f; numbers = 0 }
    full_outcome room full =
        by_log (Some (answers.LogFull room))
        (ap (log_refusal (place_in f).pages (logged_in f)) (sym is.durable.size)
        ∙ ap (λ (b : Bool). if b then Some (answers.LogFull (room_for (place_in f).pages (logged_in f) (size_of plan))) else None) (lt-ltb (log_bytes (place_in f).pages) (logged_in f + (size_of plan + 6)) full.0)
        ∙ ap (λ (x : LogRoom). Some (answers.LogFull x)) (sym full.1))

    granted_outcome : logged_in f + (c.size + 6) ≤ log_bytes (place_in f).pages → o ≡ record { answer = c.answer; space = c.space; logged = logged_in f + (5 + c.size); numbers = c.numbers }
    granted_outcome fits =
        by_log None (ap (λ (b : Bool). if b then Some (answers.LogFull (room_for (place_in f).pages (logged_in f) c.size)) else None) (le-ltb (log_bytes (place_in f).pages) (logged_in f + (c.size + 6)) fits))

    pub called_full : (f' : SpaceFile) (room : LogRoom) → (log_bytes (place_in f).pages < logged_in f + (size_of plan + 6)) × (room ≡ room_for (place_in f).pages (logged_in f) (size_of plan))
        → held_in f' ≡ held_in f → logged_in f' ≡ logged_in f → IsCalled f f' next o (reply (answers.LogFull room) 0)
    called_full f' room full same_space same_log =
        let outcome = full_outcome room full in
        record {
          answer = ap (λ (x : LoggedOutcome). x.answer) (sym outcome);
          numbers = ap (λ (x : LoggedOutcome). x.numbers) (sym outcome);
          space = ap space_of same_space ∙ ap (λ (x : LoggedOutcome). x.space) (sym outcome);
          logged = same_log ∙ ap (λ (x : LoggedOutcome). x.logged) (sym outcome);
          newer = λ newer. subst (λ (k : ℕ). IsNewer next.epoch k (held_in f')) (sym (add-zero next.number) ∙ ap (λ (x : LoggedOutcome). next.number + x.numbers) (sym outcome)) (subst (λ (x : IndexedSpace). IsNewer next.epoch next.number x) (sym same_space) newer);
        }

    pub called_granted : (f' : SpaceFile) (a : Answer) (numbers : ℕ) → a ≡ c.answer → numbers ≡ c.numbers → logged_in f + (size_of plan + 6) ≤ log_bytes (place_in f).pages
        → held_in f' ≡ plan_applied plan (held_in f) → logged_in f' ≡ logged_in f + (5 + size_of plan) → IsCalled f f' next o (reply a numbers)
    called_granted f' a numbers answer taken fits new_space new_log =
        let outcome = granted_outcome (subst (λ (k : ℕ). logged_in f + (k + 6) ≤ log_bytes (place_in f).pages) is.durable.size fits) in
        record {
          answer = answer ∙ ap (λ (x : LoggedOutcome). x.answer) (sym outcome);
          numbers = taken ∙ ap (λ (x : LoggedOutcome). x.numbers) (sym outcome);
          space = ap space_of new_space ∙ is.space ∙ ap (λ (x : LoggedOutcome). x.space) (sym outcome);
          logged = new_log ∙ ap (λ (k : ℕ). logged_in f + (5 + k)) is.durable.size ∙ ap (λ (x : LoggedOutcome). x.logged) (sym outcome);
          newer = λ newer. subst (λ (k : ℕ). IsNewer next.epoch k (held_in f')) (ap (λ (x : LoggedOutcome). next.number + x.numbers) (sym outcome)) (subst (λ (x : IndexedSpace). IsNewer next.epoch (next.number + c.numbers) x) (sym new_space) (is.durable.newer newer));
        }

    -- where the log has room, the call takes some of it
    pub takes_some : logged_in f + (size_of plan + 6) ≤ log_bytes (place_in f).pages → o.logged ≡ logged_in f → ⊥
    takes_some fits same =
        let outcome = granted_outcome (subst (λ (k : ℕ). logged_in f + (k + 6) ≤ log_bytes (place_in f).pages) is.durable.size fits) in
        let more : logged_in f + (5 + c.size) ≡ logged_in f = ap (λ (x : LoggedOutcome). x.logged) (sym outcome) ∙ same in
        omega arith

    -- an image with the record has what the call comes to
    has_outcome : (image : List ℕ) → HasSpace (place_in f) (clusters_in f) next.epoch (plan_applied plan (held_in f)) (logged_in f + (5 + size_of plan)) image → HasOutcome f next.epoch o image
    has_outcome image has =
        let here : HasSpace (place_in f) (clusters_in f) next.epoch (plan_applied plan (held_in f)) (logged_in f + (5 + c.size)) image =
        subst (λ (k : ℕ). HasSpace (place_in f) (clusters_in f) next.epoch (plan_applied plan (held_in f)) (logged_in f + (5 + k)) image) is.durable.size has in
        let outcome = granted_outcome (has_room f next.epoch c.size (plan_applied plan (held_in f)) image here) in
        record {
          held = plan_applied plan (held_in f);
          space = is.space ∙ ap (λ (x : LoggedOutcome). x.space) (sym outcome);
          lasts = is.durable.lasts f.plain;
          has = subst (λ (k : ℕ). HasSpace (place_in f) (clusters_in f) next.epoch (plan_applied plan (held_in f)) k image) (ap (λ (x : LoggedOutcome). x.logged) (sym outcome)) here;
        }

    -- the images within the call
    pub stops_so : (a b : View) → (place_in f).dev ≡ 0 → Within (place_in f).dev (IsSameButSpace (clusters_in f)) (IsOldOrDone f next.epoch plan) a b
        → Within 0 (IsSameButSpace (clusters_in f)) (IsSameOrChanged f next o) a b
    stops_so a b dev within =
        weaker 0 (IsSameButSpace (clusters_in f)) (space_steps (clusters_in f)) (IsOldOrDone f next.epoch plan) (IsSameOrChanged f next o) a b (λ i image was has. ⊎_elim (λ same. inl same) (λ new. inr (has_outcome image new)) has)
        (subst (λ (k : ℕ). Within k (IsSameButSpace (clusters_in f)) (IsOldOrDone f next.epoch plan) a b) dev within)

-- the images where nothing is done
pub stops_same : (f : SpaceFile) (next : Arrival) (o : LoggedOutcome) (a : View) → (place_in f).dev ≡ 0 → AreBehind f next a → Within 0 (IsSameButSpace (clusters_in f)) (IsSameOrChanged f next o) a a
stops_same f next o a dev behind = starts 0 (IsSameButSpace (clusters_in f)) (space_steps (clusters_in f)) (IsSameOrChanged f next o) a (λ image may. inl (behind image (subst (λ (k : ℕ). a.may_leave k image) (sym dev) may)).file.has)
