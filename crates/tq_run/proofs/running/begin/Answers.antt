use Rattle.std.proofs.Common.{◌≡◌, ◌≢◌, ℕ, List, [], ◌∷◌, Option, Some, Err, length, refl, sym, ◌∙◌, ap, subst}
use Rattle.tq_host.specs.View.{Streams, TellsAll, AreSettled}
use Rattle.tq_host.specs.Calls.{IsGiven, IsGiving}
use Rattle.tq_host.specs.Within.{Ran}
use Rattle.tq_model.specs.Text.{line_text}
use Rattle.tq_model.specs.declared.answer.Answer.{Answer}
use Rattle.tq_coord.specs.declared.failure.BootFailure.{BootFailure}
use Rattle.tq_coord.specs.declared.failure.BootFailure.TheVariants as boots
use Rattle.tq_coord.specs.Counts.{CountsBoot}
use Rattle.tq_run.specs.Counts.{start_end_of_boot}
use Rattle.tq_coord.specs.declared.site.Manager.{Manager}
use Rattle.tq_coord.specs.Manager.{is_bootable}
use Rattle.tq_coord.proofs.ImageLemmas.{same_found, alone_on}
use Rattle.tq_model.proofs.LineText.{length-line_text}
use Rattle.tq_run.proofs.Line0Lemmas.{attach_over, boot_ended, first_over, first_started, calm_none, calm_given, begun_given}
use Rattle.tq_run.proofs.CountLemmas.{at_err, err_is, same_Err, damaged_boot, line_not_damaged}
use Rattle.tq_run.specs.Output.{AreAttached, TellsAttached}
use Rattle.tq_run.proofs.LeftAloneLemmas.{alone_attached, contradicts, was_bootable}
use Rattle.tq_run.proofs.AttachLemmas.{attached_none, attached_given, one_attached}
use Rattle.tq_model.specs.Site.{Site}
use Rattle.tq_model.specs.Reading.{site_found}
use Rattle.tq_model.specs.declared.request.Request.TheVariants.{Boot}
use Rattle.tq_run.specs.Turns.{RunsOver, origin_of, none_failed}
use Rattle.tq_coord.specs.Frame.{device_count, LeavesOthers}
use Rattle.tq_coord.proofs.FrameLemmas.{others_on}
use Rattle.tq_run.proofs.FrameLemmas.{others_attached}
use Rattle.tq_run.proofs.running.begin.Given.{Over}
use Rattle.tq_run.proofs.running.begin.Goals as goal
use Rattle.tq_run.proofs.running.begin.Goals.{After-give_answer}

quiet_boot : (failure : BootFailure) (before now : ℕ) → CountsBoot {T = Manager} (Err failure) before now → failure ≢ boots.Device → now ≡ before
quiet_boot boots.Damaged before now counts other = counts
quiet_boot boots.Memory before now counts other = counts
quiet_boot boots.Device before now counts other = absurd (other refl)

pub returns-in_err-attach-clause-stop : goal.returns-in_err-attach-clause-stop
returns-in_err-attach-clause-stop g c = λ t settled found is raisable.
    let a = g.H.Host.view c.args.host.now in
    let b = g.H.Host.view c.attach.new.self in
    attach_over found a b is c.attach.ensures.call c.attach.ensures.attached settled

pub returns-in_err-manager-clause-stop : goal.returns-in_err-manager-clause-stop
returns-in_err-manager-clause-stop g c = λ t settled found is raisable.
    let a = g.H.Host.view c.args.host.now in
    let b = g.H.Host.view c.attach.new.self in
    let d = g.H.Host.view c.boot.new.host in
    boot_ended found a b is c.attach.ensures.call c.attach.ensures.attached d c.boot.ensures.rest.streams (c.boot.ensures.stop t.reads) c.in_ok-attach.ensures.call.cause.ok Manager c.in_err-manager.field-0.0 c.in_err-manager.ensures.failed settled

-- line 0, of which some part is given
over_given : (g : Over) (c : After-give_answer g) → TellsAll g.H.Host.tells → AreSettled device_count (g.H.Host.view c.args.host.now) → (found : Site) → site_found device_count (g.H.Host.view c.args.host.now).reads ≡ Some found
    → RunsOver (origin_of (g.H.Host.view c.args.host.now)) found none_failed (Boot ∷ []) (g.H.Host.view c.args.host.now) (g.H.Host.view c.give_answer.new.host)
over_given g c t settled found is =
    let a = g.H.Host.view c.args.host.now in
    let b = g.H.Host.view c.attach.new.self in
    let d = g.H.Host.view c.boot.new.host in
    let e = g.H.Host.view c.give_answer.new.host in
    let some = c.give_answer.ensures.some t.output in
    first_over found a b is c.attach.ensures.call c.attach.ensures.attached d c.boot.ensures.rest.streams (c.boot.ensures.stop t.reads) (c.in_ok-manager.ensures.failed ∙ c.in_ok-attach.ensures.call.cause.ok) c.in_ok-manager.manager e (c.in_ok-manager.ensures.booted t.reads)
    c.in_ok-manager.ensures.on c.give_answer.ensures.faults c.give_answer.ensures.images some.0
    (subst (λ (ans : Answer). IsGiven some.0 (line_text 0 ans) d e) c.readiness.ensures some.1) (subst (λ (ans : Answer). Ran (IsGiving (line_text 0 ans) d e) d e) c.readiness.ensures c.give_answer.ensures.gives) settled

pub returns-in_err-give_answer-clause-stop : goal.returns-in_err-give_answer-clause-stop
returns-in_err-give_answer-clause-stop g c = λ t settled found is raisable. over_given g (goal.at.returns-in_err-give_answer-clause-stop g c).After-give_answer t settled found is

pub returns-clause-stop : goal.returns-clause-stop
returns-clause-stop g c = λ t settled found is raisable. over_given g (goal.at.returns-clause-stop g c).After-give_answer t settled found is

pub returns-clause-reached : goal.returns-clause-reached
returns-clause-reached g c = λ t found is.
    let a = g.H.Host.view c.args.host.now in
    let b = g.H.Host.view c.attach.new.self in
    let d = g.H.Host.view c.boot.new.host in
    let e = g.H.Host.view c.give_answer.new.host in
    first_started found a b is c.attach.ensures.call c.attach.ensures.attached d c.boot.ensures.rest.streams (c.boot.ensures.stop t.reads) (c.in_ok-manager.ensures.failed ∙ c.in_ok-attach.ensures.call.cause.ok) c.in_ok-manager.manager e (c.in_ok-manager.ensures.booted t.reads)
    c.in_ok-manager.ensures.on c.give_answer.ensures.faults c.give_answer.ensures.images _
    (subst (λ (ans : Answer). IsGiven (length (line_text 0 ans)) (line_text 0 ans) d e) c.readiness.ensures (c.in_ok-give_answer.ensures.gave t.output))
    (subst (λ (ans : Answer). Ran (IsGiving (line_text 0 ans) d e) d e) c.readiness.ensures c.give_answer.ensures.gives) refl (c.give_answer.ensures.still 0)

pub returns-in_err-manager-clause-damaged : goal.returns-in_err-manager-clause-damaged
returns-in_err-manager-clause-damaged g c = λ e t.
    let a = (g.H.Host.view c.args.host.now).reads in
    let b = (g.H.Host.view c.attach.new.self).reads in
    let ends : c.from_residual-in_err-manager.result ≡ Err (start_end_of_boot c.in_err-manager.field-0.0) = err_is _ _ c.from_residual-in_err-manager.ensures.1 in
    let failed : c.boot.result ≡ Err boots.Damaged = c.in_err-manager.was ∙ ap (λ (x : BootFailure). Err x) (damaged_boot c.in_err-manager.field-0.0 (same_Err _ _ (sym ends ∙ e))) in
    ap is_bootable (sym (same_found b a (c.attach.ensures.attached.reads 0))) ∙ c.boot.ensures.damaged failed t

pub returns-in_err-manager-clause-calm : goal.returns-in_err-manager-clause-calm
returns-in_err-manager-clause-calm g c =
    let a = g.H.Host.view c.args.host.now in
    let b = g.H.Host.view c.attach.new.self in
    let d = g.H.Host.view c.boot.new.host in
    let result = c.from_residual-in_err-manager.result in
    let failure = c.in_err-manager.field-0.0 in
    let same : result ≡ Err (start_end_of_boot failure) = err_is _ _ c.from_residual-in_err-manager.ensures.1 in
    at_err result _
    (λ no t. calm_none a d (ap (λ (s : Streams). s.stamps) (c.boot.ensures.rest.streams ∙ c.attach.ensures.call.streams))
    (quiet_boot failure _ _ c.in_err-manager.ensures.failed (λ e. no (same ∙ ap (λ (x : BootFailure). Err (start_end_of_boot x)) e)) ∙ c.in_ok-attach.ensures.call.cause.ok))

pub returns-in_err-give_answer-clause-calm : goal.returns-in_err-give_answer-clause-calm
returns-in_err-give_answer-clause-calm g c =
    let a = g.H.Host.view c.args.host.now in
    let b = g.H.Host.view c.attach.new.self in
    let d = g.H.Host.view c.boot.new.host in
    let e = g.H.Host.view c.give_answer.new.host in
    at_err c.from_residual-in_err-give_answer.result _
    (λ no t. let some = c.give_answer.ensures.some t in calm_given a d e some.0 _ (c.boot.ensures.rest.streams ∙ c.attach.ensures.call.streams) (c.in_ok-manager.ensures.failed ∙ c.in_ok-attach.ensures.call.cause.ok) c.give_answer.ensures.faults some.1)

pub returns-clause-begun : goal.returns-clause-begun
returns-clause-begun g c = λ t.
    let a = g.H.Host.view c.args.host.now in
    let b = g.H.Host.view c.attach.new.self in
    let d = g.H.Host.view c.boot.new.host in
    let e = g.H.Host.view c.give_answer.new.host in
    begun_given a d e _ (length-line_text 0 _) (c.boot.ensures.rest.streams ∙ c.attach.ensures.call.streams) (c.in_ok-manager.ensures.failed ∙ c.in_ok-attach.ensures.call.cause.ok) (c.in_ok-give_answer.ensures.gave t)

pub returns-in_err-manager-clause-left_alone : goal.returns-in_err-manager-clause-left_alone
returns-in_err-manager-clause-left_alone g c = λ t none.
    let a = g.H.Host.view c.args.host.now in
    let b = g.H.Host.view c.attach.new.self in
    alone_on a b (g.H.Host.view c.boot.new.host) (alone_attached a b c.attach.result c.attach.ensures.call c.attach.ensures.attached)
    (c.boot.ensures.left_alone t (ap is_bootable (same_found b.reads a.reads (c.attach.ensures.attached.reads 0)) ∙ none))

-- the device is attached by its word behind the boot
named : (g : Over) (c : After-give_answer g) → g.H.Host.tells.output → AreAttached (c.args.path.now ∷ []) (g.H.Host.view c.boot.new.host).attached
named g c t = one_attached c.args.path.now (g.H.Host.view c.boot.new.host).attached (ap (λ (f : ℕ → Option (List ℕ)). f 0) c.boot.ensures.rest.attached ∙ c.in_ok-attach.ensures.attached.own t)

attached : (g : Over) (c : After-give_answer g) → g.H.Host.tells.output → TellsAttached (c.args.path.now ∷ []) (g.H.Host.view c.args.host.now) (g.H.Host.view c.give_answer.new.host)
attached g c t =
    let same = ap (λ (s : Streams). s.stamps) (c.boot.ensures.rest.streams ∙ c.attach.ensures.call.streams) in
    attached_given (c.args.path.now ∷ []) (g.H.Host.view c.args.host.now) (g.H.Host.view c.boot.new.host) (g.H.Host.view c.give_answer.new.host) same (named g c t) (c.give_answer.ensures.attached t)

pub returns-in_err-give_answer-clause-attached : goal.returns-in_err-give_answer-clause-attached
returns-in_err-give_answer-clause-attached g c = attached g (goal.at.returns-in_err-give_answer-clause-attached g c).After-give_answer

pub returns-clause-attached : goal.returns-clause-attached
returns-clause-attached g c = attached g (goal.at.returns-clause-attached g c).After-give_answer

pub returns-clause-named : goal.returns-clause-named
returns-clause-named g c = λ t.
    subst (AreAttached (c.args.path.now ∷ [])) (sym (c.give_answer.ensures.attached t).attached) (named g (goal.at.returns-clause-named g c).After-give_answer t)

pub returns-in_err-attach-clause-attached : goal.returns-in_err-attach-clause-attached
returns-in_err-attach-clause-attached g c = λ t.
    attached_none (c.args.path.now ∷ []) (g.H.Host.view c.args.host.now) (g.H.Host.view c.attach.new.self) (ap (λ (s : Streams). s.stamps) c.attach.ensures.call.streams)

pub returns-in_err-manager-clause-attached : goal.returns-in_err-manager-clause-attached
returns-in_err-manager-clause-attached g c = λ t.
    attached_none (c.args.path.now ∷ []) (g.H.Host.view c.args.host.now) (g.H.Host.view c.boot.new.host) (ap (λ (s : Streams). s.stamps) (c.boot.ensures.rest.streams ∙ c.attach.ensures.call.streams))

beside : (g : Over) (c : After-give_answer g) → LeavesOthers (g.H.Host.view c.args.host.now) (g.H.Host.view c.give_answer.new.host)
beside g c = others_on _ _ _ (others_attached _ _ c.attach.result c.attach.ensures.call c.attach.ensures.attached) (others_on _ _ _ c.boot.ensures.others c.give_answer.ensures.others)

pub returns-in_err-give_answer-clause-others : goal.returns-in_err-give_answer-clause-others
returns-in_err-give_answer-clause-others g c = beside g (goal.at.returns-in_err-give_answer-clause-others g c).After-give_answer

pub returns-clause-others : goal.returns-clause-others
returns-clause-others g c = beside g (goal.at.returns-clause-others g c).After-give_answer

pub returns-in_err-give_answer-clause-damaged : goal.returns-in_err-give_answer-clause-damaged
returns-in_err-give_answer-clause-damaged g c = λ is t.
    let ends = err_is _ _ c.from_residual-in_err-give_answer.ensures.1 in
    absurd (line_not_damaged c.in_err-give_answer.field-0.0 (same_Err _ _ (sym ends ∙ is)))

pub returns-in_err-give_answer-clause-left_alone : goal.returns-in_err-give_answer-clause-left_alone
returns-in_err-give_answer-clause-left_alone g c = λ t none.
    let b = g.H.Host.view c.attach.new.self in
    contradicts _ (was_bootable c.in_ok-manager.manager (g.H.Host.view c.args.host.now) b (g.H.Host.view c.boot.new.host) (c.attach.ensures.attached.reads 0) (c.in_ok-manager.ensures.booted t)) none
