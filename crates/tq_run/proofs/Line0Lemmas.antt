-- Line 0: a device is attached, and then there is a boot of what it stands for.
use Rattle.std.proofs.Common.{◌≡◌, inl, inr, ⊎_elim, ◌<◌, ℕ, zero, suc, List, [], ◌∷◌, ◌++◌, Option, Some, None, Bool, true, false, cond, Result, Ok, Err, refl, sym, ◌∙◌, ap, subst, arith, length, take, append_assoc, length-append}
use Rattle.std.specs.Prelude.{replicate, nat_lt, All}
use Rattle.std.proofs.lemmas.Bool.Decides.{nat_tests}
use Rattle.std.proofs.lemmas.List.{append-nil, append_cancel_left, take_all}
use Rattle.std.specs.List.{slice_index_or}
use Rattle.tq_host.specs.View.{Told, View, Images, AreNow, Stamp, Streams, AreSettled, stamp_now}
use Rattle.tq_host.specs.Calls.{HasCause, HasCauseOf, IsDeviceCall, Attaches, IsGiven, IsGiving}
use Rattle.tq_host.specs.declared.host.Failed.{Failed}
use Rattle.tq_host.specs.Within.{WithinAll, Ran}
use Rattle.tq_host.proofs.AllDevices.{weaker_all, all_in_a_row}
use Rattle.tq_model.specs.declared.request.Request.TheVariants.{Boot}
use Rattle.tq_model.specs.Site.{Site, durable}
use Rattle.tq_model.specs.Step.{step, booted, can_boot, ready}
use Rattle.tq_model.specs.Text.{line_text}
use Rattle.tq_model.specs.Reading.{site_found}
use Rattle.tq_model.proofs.LineText.{length-line_text}
use Rattle.tq_model.specs.MachineWithFaults.{Up, Failures, Turn, failing_turn, boot_turn, rose_at, turn_at}
use Rattle.tq_coord.specs.declared.site.Manager.{Manager}
use Rattle.tq_run.specs.declared.state.State.TheVariants as states
use Rattle.tq_coord.specs.declared.failure.BootFailure.{BootFailure}
use Rattle.tq_coord.specs.declared.failure.BootFailure.TheVariants as boots
use Rattle.tq_coord.specs.Counts.{CountsBoot}
use Rattle.tq_run.specs.Ending.{trace_of}
use Rattle.tq_run.specs.Output.{TellsMore, HasBegun}
use Rattle.tq_coord.specs.Manager.{site_of, IsBooted}
use Rattle.tq_coord.specs.Images.{ImagesHave, ImagesHaveAny, ImagesMatch, HasNoNewImage, AreOldOrBooted}
use Rattle.tq_run.specs.Turns.{AreInCondition, AreBeforeOrAfter, RunsOver, IsAnswered, origin_of, none_failed}
use Rattle.tq_run.specs.Standing.{StateMatches, HasStarted}
use Rattle.tq_coord.specs.Frame.{device_count}
use Rattle.tq_run.proofs.CountLemmas.{some_is, steady_cause, risen_cause}
use Rattle.tq_coord.proofs.ImageLemmas.{found_have, same_found, read_stands}
use Rattle.tq_run.proofs.LeftAloneLemmas.{alone_attached}
use Rattle.tq_run.proofs.BootTurnLemmas.{turn_up, site_up, stand_in, stand_for}
use Rattle.tq_run.proofs.RespondLemmas.{images_in, still_in}
use Rattle.tq_run.proofs.IdleLemmas.{idle_few}
use Rattle.tq_run.proofs.WholeLemmas.{whole_none, whole_next}
use Rattle.tq_run.proofs.TurnLemmas.{starts_answered, only_done, line_since, line_over, line_answered}

-- the turn of line 0
abbrev pub first_turn : Bool → Site → Turn
first_turn rose s = cond rose (failing_turn s Boot) (boot_turn s)

first_is : (rose : Bool) (found : Option Site) (s : Site) → turn_at rose found (Up s) Boot ≡ first_turn rose s
first_is true found s = refl
first_is false found s = refl

-- whether a device failed in a call, and in a boot that ended line 0
cause_of_call : {T E : Type 0} (before now : ℕ) (r : Result T E) → HasCause before now r → (fails : Bool) × HasCauseOf (fails ≡ true) before now
cause_of_call before now (Ok x) cause = (false, steady_cause cause.ok (λ e. cc))
cause_of_call before now (Err e) cause = (true, risen_cause (record { later = cause.later; rose = cause.failed }) refl)

cause_of_boot : (T : Type 0) (e : BootFailure) (before now : ℕ) → CountsBoot {T = T} (Err e) before now → (fails : Bool) × HasCauseOf (fails ≡ true) before now
cause_of_boot T boots.Damaged before now counts = (false, steady_cause counts (λ e. cc))
cause_of_boot T boots.Memory before now counts = (false, steady_cause counts (λ e. cc))
cause_of_boot T boots.Device before now counts = (true, risen_cause counts refl)

-- images of a boot are of line 0
images_of_boot : (rose : Bool) (s : Site) (images : Images) → can_boot s ≡ true → ImagesHave (booted s) images → AreInCondition (first_turn rose s).condition images
images_of_boot true s images can is = (1, durable (step s Boot).site, omega arith, refl, found_have images (durable (step s Boot).site) (subst (λ (x : Site). ImagesHave x images) (sym (site_up s can)) is))
images_of_boot false s images can is = subst (λ (t : Turn). AreInCondition t.condition images) (sym (turn_up s can)) is

module _ (found : Site) (a b : View) {tells : Told} {path : List ℕ} {r : Result (Unit {0}) Failed} (is : site_found device_count a.reads ≡ Some found) (attached : IsDeviceCall r a b) (same : Attaches tells 0 path r a b) where
  at_start : AreSettled device_count a → (images : Images) → AreNow a images → ImagesHave found images
  at_start settled images may = read_stands a.reads images found is (settled 0 (omega arith) (images 0) (may 0))

  -- while the device is attached
  attaching : AreSettled device_count a → (t : Turn) → WithinAll (AreBeforeOrAfter (Up found) t) a b
  attaching settled t = weaker_all (AreNow a) (AreBeforeOrAfter (Up found) t) a b (λ images may. inl (at_start settled images may)) (alone_attached a b r attached same)

  pub attach_over : AreSettled device_count a → RunsOver (origin_of a) found none_failed (Boot ∷ []) a b
  attach_over settled =
      let cause = cause_of_call a.faults b.faults r attached.cause in
      let t = first_turn cause.0 found in
      only_done (starts_answered a found) Boot t attached.streams cause.0 cause.1 (first_is cause.0 None found) (attaching settled t)

  module _ (d : View) (streams : d.streams ≡ b.streams)
      (boots : (sites : List Site) → ((images : Images) → AreNow b images → ImagesHaveAny sites images) → (s : Site) → site_found device_count b.reads ≡ Some s → WithinAll (AreOldOrBooted sites s) b d) where
    -- and then booted
    booting : (fails : Bool) → AreSettled device_count a → WithinAll (AreBeforeOrAfter (Up found) (first_turn fails found)) a d
    booting fails settled =
        all_in_a_row (AreBeforeOrAfter (Up found) (first_turn fails found)) a b d (attaching settled (first_turn fails found))
        (weaker_all (AreOldOrBooted (found ∷ []) found) (AreBeforeOrAfter (Up found) (first_turn fails found)) b d
        (λ images. ⊎_elim (λ old. inl (stand_for (Up found) images old)) (λ new. inr (images_of_boot fails found images new.0 new.1)))
        (boots (found ∷ []) (λ images may. stand_in (Up found) images (at_start settled images (λ dev. same.may_leave dev (images dev) (may dev)))) found (same_found b.reads a.reads (same.reads 0) ∙ is)))

    same_streams : d.streams ≡ a.streams
    same_streams = streams ∙ attached.streams

    -- a boot that ended line 0
    pub boot_ended : b.faults ≡ a.faults → (T : Type 0) (e : BootFailure) → CountsBoot {T = T} (Err e) b.faults d.faults → AreSettled device_count a → RunsOver (origin_of a) found none_failed (Boot ∷ []) a d
    boot_ended calm_attach T e counts settled =
        let cause = cause_of_boot T e a.faults d.faults (subst (λ n. CountsBoot {T = T} (Err e) n d.faults) calm_attach counts) in
        only_done (starts_answered a found) Boot (first_turn cause.0 found) same_streams cause.0 cause.1 (first_is cause.0 None found) (booting cause.0 settled)

    module _ (calm_boot : d.faults ≡ a.faults) (m : Manager) (e : View) (boots_is : IsBooted m b d) (on : ImagesMatch m d) (same_after : e.faults ≡ d.faults) (none : HasNoNewImage d e)
        (k : ℕ) (given : IsGiven k (line_text 0 (ready (site_of m))) d e) (gives : Ran (IsGiving (line_text 0 (ready (site_of m))) d e) d e) where
      abbrev t : Turn
      t = first_turn false found

      found_is : boots_is.found ≡ found
      found_is = some_is boots_is.found found (sym boots_is.stood ∙ same_found b.reads a.reads (same.reads 0) ∙ is)

      booted_to : first_turn false found ≡ record { condition = Up (booted found); answer = ready (booted found) }
      booted_to = turn_up found (ap can_boot (sym found_is) ∙ boots_is.raisable)

      up_after : StateMatches (states.Up m) t.condition d
      up_after = subst (λ (u : Turn). StateMatches (states.Up m) u.condition d) (sym booted_to) (record { site = boots_is.site ∙ ap booted found_is; on = on })

      text_is : line_text 0 (ready (site_of m)) ≡ line_text 0 t.answer
      text_is = ap (λ (s : Site). line_text 0 (ready s)) (boots_is.site ∙ ap booted found_is) ∙ ap (λ (u : Turn). line_text 0 u.answer) (sym booted_to)

      given_text : IsGiven k (line_text 0 t.answer) d e
      given_text = subst (λ (l : List ℕ). IsGiven k l d e) text_is given

      calm_line : HasCauseOf (◌≡◌ {A = Bool} false true) a.faults d.faults
      calm_line = steady_cause calm_boot (λ e. cc)

      abbrev first_since : Failures
      first_since = line_since (starts_answered a found) Boot t same_streams false calm_line (first_is false None found) same_after given_text

      abbrev over : AreSettled device_count a → RunsOver (origin_of a) found none_failed (Boot ∷ []) a e
      over settled =
          line_over (starts_answered a found) Boot t same_streams false calm_line (first_is false None found) same_after given_text (booting false settled)
          (images_in (states.Up m) t.condition d up_after) none (subst (λ (l : List ℕ). Ran (IsGiving l d e) d e) text_is gives)

      pub first_over : AreSettled device_count a → RunsOver (origin_of a) found none_failed (Boot ∷ []) a e
      first_over = over

      pub first_started : k ≡ length (line_text 0 (ready (site_of m))) → e.reads 0 ≡ d.reads 0 → HasStarted found (states.Up m) a e
      first_started whole reads =
          let stamps : e.streams.stamps ≡ a.streams.stamps ++ replicate k (stamp_now d) = given.stamps ∙ ap (λ (s : Streams). s.stamps ++ replicate k (stamp_now d)) same_streams in
          let answered : IsAnswered (origin_of a) e found first_since (Boot ∷ []) t.condition
          = line_answered (starts_answered a found) Boot t same_streams false calm_line (first_is false None found) same_after given_text (whole ∙ ap (λ (l : List ℕ). length l) text_is) (same_found e.reads d.reads reads) in
          record {
            failed = first_since;
            reached = record {
              condition = t.condition;
              answered = answered;
              is = still_in (states.Up m) t.condition d e none up_after;
              some = omega arith;
              idle = idle_few (origin_of a) e.faults _ first_since found (Boot ∷ []) (omega arith);
              whole = whole_next (starts_answered a found) (whole_none (origin_of a) a.faults _ none_failed found) e k (stamp_now d) (omega (arith, whole, length-line_text 0 (ready (site_of m)))) stamps first_since
                  (λ at lt. absurd (omega (arith, lt))) Boot answered;
              clock = λ long. absurd (omega (arith, long));
            };
            ran = λ settled. (over settled).ran;
          }

-- Whether a device failed in line 0, by what is told

calm : (before now : ℕ) → now ≡ before → nat_lt before now ≡ false
calm before now same = grind (arith, nat_tests)

pub calm_stamps : (a now : View) (added : List Stamp) → All (λ (s : Stamp). s.faults ≡ a.faults) added → now.faults ≡ a.faults → rose_at (trace_of a now added) 0 ≡ false
calm_stamps a now [] all same = calm a.faults now.faults same
calm_stamps a now (s ∷ added) all same = calm a.faults s.faults (all 0 s (omega arith))

-- nothing was given
pub calm_none : (a now : View) → now.streams.stamps ≡ a.streams.stamps → now.faults ≡ a.faults → (added : List Stamp) → now.streams.stamps ≡ a.streams.stamps ++ added → rose_at (trace_of a now added) 0 ≡ false
calm_none a now none same added is = subst (λ (l : List Stamp). rose_at (trace_of a now l) 0 ≡ false) (append_cancel_left a.streams.stamps [] added (append-nil a.streams.stamps ∙ sym none ∙ is)) (calm_stamps a now [] (λ k d lt. absurd (omega arith)) same)

-- a part of line 0 was given
pub calm_given : (a b d : View) (k : ℕ) (text : List ℕ) → b.streams ≡ a.streams → b.faults ≡ a.faults → d.faults ≡ b.faults → IsGiven k text b d → (added : List Stamp) → d.streams.stamps ≡ a.streams.stamps ++ added → rose_at (trace_of a d added) 0 ≡ false
calm_given a b d k text streams faults same given added is =
    let told = replicate k (stamp_now b) in
    subst (λ (l : List Stamp). rose_at (trace_of a d l) 0 ≡ false) (append_cancel_left a.streams.stamps told added (sym (given.stamps ∙ ap (λ (s : Streams). s.stamps ++ told) streams) ∙ is))
    (calm_stamps a d told (λ j s lt. all_same k (stamp_now b) j s lt faults) (same ∙ faults))
  where
    all_same : (k : ℕ) (x : Stamp) (j : ℕ) (s : Stamp) → j < length (replicate k x) → x.faults ≡ a.faults → (slice_index_or (replicate k x) j s).faults ≡ a.faults
    all_same zero x j s lt e = absurd (omega arith)
    all_same (suc k) x zero s lt e = e
    all_same (suc k) x (suc j) s lt e = all_same k x j s (omega arith) e

-- the whole of it was given
pub begun_given : (a b d : View) (text : List ℕ) → 0 < length text → b.streams ≡ a.streams → b.faults ≡ a.faults → IsGiven (length text) text b d → HasBegun a d
begun_given a b d [] some streams faults given = absurd (omega arith)
begun_given a b d (x ∷ text) some streams faults given =
    let at : Stamp = stamp_now b in
    record {
      first = at;
      rest = replicate (length text) at;
      stamps = given.stamps ∙ ap (λ (s : Streams). s.stamps ++ at ∷ replicate (length text) at) streams;
      calm = faults;
      output = omega (
        arith,
        ap (λ (l : List ℕ). length l) given.output,
        length-append b.streams.output (take (length (x ∷ text)) (x ∷ text)),
        ap (λ (l : List ℕ). length l) (take_all (length (x ∷ text)) (x ∷ text) (omega arith)),
        ap (λ (s : Streams). length s.output) streams,
      );
    }

-- later stamps tell nothing else of line 0
pub calm_begun : (a b d : View) → HasBegun a b → TellsMore b d → (added : List Stamp) → d.streams.stamps ≡ a.streams.stamps ++ added → rose_at (trace_of a d added) 0 ≡ false
calm_begun a b d begun more added is =
    subst (λ (l : List Stamp). rose_at (trace_of a d l) 0 ≡ false)
    (append_cancel_left a.streams.stamps (begun.first ∷ (begun.rest ++ more.0)) added
    (sym (more.1 ∙ ap (λ (l : List Stamp). l ++ more.0) begun.stamps ∙ append_assoc a.streams.stamps (begun.first ∷ begun.rest) more.0) ∙ is))
    (calm a.faults begun.first.faults begun.calm)
