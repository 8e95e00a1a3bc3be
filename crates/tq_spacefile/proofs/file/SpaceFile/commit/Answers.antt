use Rattle.std.proofs.Common.{◌≡◌, ◌+◌, ◌-◌, List, ℕ, length, refl, sym, ap, subst, ◌∙◌}
use Rattle.tq_host.specs.Within.{KeepsRest}
use Rattle.tq_gate.specs.declared.layout.Layout.{Layout}
use Rattle.tq_gate.specs.Layout.{clusters_of}
use Rattle.tq_gate.specs.Frame.{payload_in}
use Rattle.tq_gate.specs.Log.{free_in}
use Rattle.tq_model.specs.declared.record.SpaceRecord.{SpaceRecord}
use Rattle.tq_model.specs.Plain.{IsOwn, KeepsAllAtCrash}
use Rattle.tq_model.specs.SpaceForm.{log_bytes, spelt}
use Rattle.tq_model.proofs.RecordMoves.{moved_plain}
use Rattle.tq_space.specs.Applied.{plan_applied}
use Rattle.tq_spacefile.specs.declared.fault.CommitError.TheVariants as commit_error
use Rattle.tq_spacefile.specs.Payload.{IsPayloadOf}
use Rattle.tq_spacefile.specs.Place.{IsPlace, log_layout}
use Rattle.tq_spacefile.specs.Record.{with_record}
use Rattle.tq_spacefile.specs.File.{clusters_in, held_in, logged_in, IsSameButSpace}
use Rattle.tq_spacefile.proofs.Commits.{moved_own, recorded_applied, own_dev, space_frame, have_log, stops, logged_more, logged_read, logged_files}
use Rattle.tq_spacefile.proofs.PlanRecordLemmas.{said, ready_for, leaves_done, not_begun, has_room, not_prepared, same_file, at_error}
use Rattle.tq_spacefile.proofs.file.SpaceFile.commit.Goals as goal

spells_in : (r : SpaceRecord) (frame items : List ℕ) → frame ≡ items → IsPayloadOf r (payload_in items) → IsPayloadOf r (payload_in frame)
spells_in r frame items same is = subst (λ (l : List ℕ). IsPayloadOf r (payload_in l)) (sym same) is

pub prepare-requires : goal.prepare-requires
prepare-requires g c = let is = said (held_in c.args.self.now) c.args.plan c.requires.loggable in (is.r, is.is)

pub returns-in_err-frame-clause-stop : goal.returns-in_err-frame-clause-stop
returns-in_err-frame-clause-stop g c = λ epoch ready.
    not_begun c.args.self.now c.args.plan (said (held_in c.args.self.now) c.args.plan c.requires.loggable) epoch (g.H.Host.view c.args.host.now) ready

pub returns-in_err-frame-clause-failed : goal.returns-in_err-frame-clause-failed
returns-in_err-frame-clause-failed g c =
    let f = c.args.self.now in
    let is = said (held_in f) c.args.plan c.requires.loggable in
    at_error c.from_residual.result c.in_err-frame.field-0.0 _ c.from_residual.ensures.1
    (not_prepared f c.args.plan is _ _ refl (g.H.Host.view c.args.host.now) c.in_err-frame.field-0.0 (same_file f _ refl c.prepare.ensures.held (record { layout = refl; area = refl; end = refl })) (c.in_err-frame.ensures.failed is.r is.is))

pub returns-in_err-append-clause-stop : goal.returns-in_err-append-clause-stop
returns-in_err-append-clause-stop g c = λ epoch ready.
    let f = c.args.self.now in
    let plan = c.args.plan in
    let is = said (held_in f) plan c.requires.loggable in
    let before = g.H.Host.view c.args.host.now in
    let after = g.H.Host.view c.append.new.host in
    let spells = spells_in is.r _ _ c.deref_mut.ensures.value (c.in_ok-frame.ensures.payload is.r is.is) in
    leaves_done f plan is epoch before after
    (stops f epoch is.r (payload_in c.deref_mut.result.now) before after (g.met.H.Host.lawful c.args.host.now) spells (λ image may. ready_for f plan is epoch image (ready image may))
    (c.append.ensures.stop (have_log f epoch before (λ image may. (ready image may).0))))

pub returns-in_err-append-clause-failed : goal.returns-in_err-append-clause-failed
returns-in_err-append-clause-failed g c =
    let f = c.args.self.now in
    let is = said (held_in f) c.args.plan c.requires.loggable in
    let spelt_there = c.in_ok-frame.ensures.payload is.r is.is in
    let before = g.H.Host.view c.args.host.now in
    let after = g.H.Host.view c.append.new.host in
    at_error c.from_residual-in_err-append.result commit_error.Device _ c.from_residual-in_err-append.ensures.1
    (record {
      cause = (
        c.in_err-append.ensures.cause.later,
        c.in_err-append.ensures.cause.failed,
        has_room f c.args.plan is (length (payload_in c.in_ok-frame.frame.items)) c.in_ok-frame.ensures.fits (is.size ∙ sym (ap length spelt_there.spells)),
      );
      same = same_file f _ refl c.prepare.ensures.held c.in_err-append.ensures.same;
      rest = subst (λ n. KeepsRest n before after) (own_dev f) c.append.ensures.rest;
    })

pub invariant_of-self-2 : goal.invariant_of-self-2
invariant_of-self-2 g c =
    let f = c.args.self.now in
    let is = said (held_in f) c.args.plan c.requires.loggable in
    let held : c.apply.new.self.held ≡ with_record is.r (held_in f) = c.apply.ensures.held ∙ ap (plan_applied c.args.plan) c.prepare.ensures.held ∙ recorded_applied (held_in f) c.args.plan is.r is.is in
    record {
      own = subst IsOwn (sym held) (moved_own (held_in f) is.r f.own);
      plain = subst KeepsAllAtCrash (sym held) (moved_plain (held_in f) is.r f.plain);
      placed = subst (λ (l : Layout). IsPlace f.place (clusters_of l)) (sym c.append.ensures.layout) f.placed;
      layout = c.append.ensures.layout ∙ f.layout ∙ ap (λ (l : Layout). log_layout f.place (clusters_of l)) (sym c.append.ensures.layout);
    }

pub returns-clause-done : goal.returns-clause-done
returns-clause-done g c =
    let f = c.args.self.now in
    let plan = c.args.plan in
    let is = said (held_in f) plan c.requires.loggable in
    let r = is.r in
    let payload = payload_in c.deref_mut.result.now in
    let before = g.H.Host.view c.args.host.now in
    let after = g.H.Host.view c.append.new.host in
    let spelt_there = c.in_ok-frame.ensures.payload r is.is in
    let spells = spells_in r _ _ c.deref_mut.ensures.value spelt_there in
    let applied = c.apply.ensures.held ∙ ap (plan_applied plan) c.prepare.ensures.held in
    let held : c.apply.new.self.held ≡ with_record r (held_in f) = applied ∙ recorded_applied (held_in f) plan r is.is in
    let logged : log_bytes f.place.pages - free_in c.append.new.self ≡ logged_in f + (5 + length (spelt r)) =
    logged_more f c.append.new.self (5 + length payload) c.in_ok-append.ensures.free ∙ ap (λ (l : List ℕ). logged_in f + (5 + length l)) spells.spells in
    record {
      place = refl;
      clusters = ap (λ (l : Layout). clusters_of l) c.append.ensures.layout;
      space = applied;
      logged = logged ∙ ap (λ (n : ℕ). logged_in f + (5 + n)) (sym is.size);
      fits = has_room f plan is _ c.in_ok-frame.ensures.fits (is.size ∙ sym (ap length spelt_there.spells));
      images = λ epoch ready.
          logged_files f _ refl c.append.ensures.layout r payload spells held logged epoch before after (g.met.H.Host.lawful c.args.host.now) (g.met.H.Host.lawful c.append.new.host) c.in_ok-append.ensures.settled
          (λ told at. logged_read f _ refl c.append.ensures.layout r payload spells held logged epoch before after at.1 (c.append.ensures.outside told) (c.in_ok-append.ensures.added told) at.0)
          (λ image may. ready_for f plan is epoch image (ready image may));
      read = λ told epoch ready.
          logged_read f _ refl c.append.ensures.layout r payload spells held logged epoch before after (is.follows epoch ready.1) (c.append.ensures.outside told) (c.in_ok-append.ensures.added told) ready.0;
      rest = subst (λ n. KeepsRest n before after) (own_dev f) c.append.ensures.rest;
      count = c.in_ok-append.ensures.cause.ok;
    }

pub returns-clause-stop : goal.returns-clause-stop
returns-clause-stop g c = λ epoch ready.
    let f = c.args.self.now in
    let plan = c.args.plan in
    let is = said (held_in f) plan c.requires.loggable in
    let before = g.H.Host.view c.args.host.now in
    let after = g.H.Host.view c.append.new.host in
    let spells = spells_in is.r _ _ c.deref_mut.ensures.value (c.in_ok-frame.ensures.payload is.r is.is) in
    leaves_done f plan is epoch before after
    (stops f epoch is.r (payload_in c.deref_mut.result.now) before after (g.met.H.Host.lawful c.args.host.now) spells (λ image may. ready_for f plan is epoch image (ready image may))
    (c.append.ensures.stop (have_log f epoch before (λ image may. (ready image may).0))))

pub returns-in_err-append-clause-outside : goal.returns-in_err-append-clause-outside
returns-in_err-append-clause-outside g c = λ told.
    let f = c.args.self.now in
    let before = g.H.Host.view c.args.host.now in
    let after = g.H.Host.view c.append.new.host in
    subst (λ n. IsSameButSpace (clusters_in f) (before.reads n) (after.reads n)) (own_dev f) (space_frame f _ _ (c.append.ensures.outside told))

pub returns-clause-outside : goal.returns-clause-outside
returns-clause-outside g c = λ told.
    let f = c.args.self.now in
    let before = g.H.Host.view c.args.host.now in
    let after = g.H.Host.view c.append.new.host in
    subst (λ n. IsSameButSpace (clusters_in f) (before.reads n) (after.reads n)) (own_dev f) (space_frame f _ _ (c.append.ensures.outside told))
