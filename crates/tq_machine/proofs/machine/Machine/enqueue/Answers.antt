use Rattle.std.proofs.Common.{◌≡◌, ◌∙◌, Bool, Ok, Err, ap, arith, length, subst, sym}
use Rattle.std.specs.Prelude.{OnOk, if◌then◌else◌}
use Rattle.std.proofs.lemmas.Bool.{le-ltb}
use Rattle.tq_model.specs.declared.calls.EnqueueCall.{EnqueueCall}
use Rattle.tq_model.specs.declared.calls.CallRefusal.TheVariants.{TooLarge}
use Rattle.tq_model.specs.CallChecks.{enqueue_call}
use Rattle.tq_model.specs.Site.{Site}
use Rattle.tq_model.specs.SpaceForm.{longest_body}
use Rattle.tq_model.specs.Step.{Outcome, enqueue_ask, enqueue_outcome, if_checked, on_space}
use Rattle.tq_machine.specs.SpaceCalls.{enqueue_asked}
use Rattle.tq_machine.proofs.machine.Machine.enqueue.Goals as goal

pub returns-clause-site : goal.returns-clause-site
returns-clause-site c =
    let w = c.args.words.now in
    let s = c.args.self.now in
    let clock_is = ap (λ (t : Site). t.clock) c.self.view_is in
    let asked : Outcome = on_space w.space (enqueue_outcome (enqueue_ask c.args.session (enqueue_call w s.clock) s)) s in
    let checked = λ (b : Bool). if_checked (if b then Err (TooLarge (length w.body)) else Ok (enqueue_call w s.clock)) s
    (λ (call : EnqueueCall). on_space call.space (enqueue_outcome (enqueue_ask c.args.session call s)) s) in
    let short = le-ltb longest_body (length w.body) (omega arith) in
    let same : on_space w.space (enqueue_outcome (enqueue_asked w c.self.inside.clock c.next_arrival.result)) s ≡ asked =
    λ i. on_space w.space (enqueue_outcome (enqueue_asked w (clock_is i) (c.next_arrival.ensures i))) s in
    subst (λ (o : Outcome). OnOk c.call.result (c.call.new.self ≡ o.site)) (same ∙ sym (ap checked short)) c.call.ensures.site
