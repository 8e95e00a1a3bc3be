use Rattle.std.proofs.Common.{◌≡◌, ℕ, ap, subst}
use Rattle.std.specs.Prelude.{OnOk}
use Rattle.tq_model.specs.Site.{Site}
use Rattle.tq_model.specs.Step.{dequeue_outcome, on_space}
use Rattle.tq_machine.specs.SpaceCalls.{dequeue_asked}
use Rattle.tq_machine.proofs.machine.Machine.dequeue.Goals as goal

pub returns-clause-site : goal.returns-clause-site
returns-clause-site c =
    let w = c.args.words.now in
    subst (λ (clock : ℕ). OnOk c.call.result (c.call.new.self ≡ (on_space w.space (dequeue_outcome (dequeue_asked w clock)) c.args.self.now).site))
    (ap (λ (s : Site). s.clock) c.self.view_is) c.call.ensures.site
