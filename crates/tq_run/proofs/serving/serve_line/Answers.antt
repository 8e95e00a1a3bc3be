use Rattle.std.proofs.Common.{◌≡◌, List, ◌∷◌, ◌++◌, [], ℕ, length, ap, subst, refl}
use Rattle.tq_host.specs.View.{TellsAll}
use Rattle.tq_host.specs.Within.{Ran}
use Rattle.tq_host.specs.Calls.{IsGiven, IsGiving}
use Rattle.tq_model.specs.declared.request.Request.{Request}
use Rattle.tq_model.specs.MachineWithFaults.{Failures}
use Rattle.tq_model.specs.Site.{Site}
use Rattle.tq_model.specs.Text.{line_text}
use Rattle.tq_model.specs.Grammar.{line_request}
use Rattle.tq_run.specs.Standing.{HasReached, HasRun, HasTurned, IsTurning, StateImagesMatch}
use Rattle.tq_run.specs.Turns.{Origin}
use Rattle.tq_run.proofs.CountLemmas.{on_ok, of_ok}
use Rattle.tq_run.proofs.RespondLemmas.{still_match}
use Rattle.tq_run.proofs.LineByLineLemmas.{done_line, given_line, line_run, over_waiting}
use Rattle.tq_run.proofs.serving.serve_line.Goals as goal

pub returns-in_err-request-clause-stop : goal.returns-in_err-request-clause-stop
returns-in_err-request-clause-stop g c = λ t o found failed done count reached. over_waiting o found failed done (line_request c.args.line.now ∷ []) c.args.state.now (g.H.Host.view c.args.host.now) reached

pub returns-in_err-answer-clause-stop : goal.returns-in_err-answer-clause-stop
returns-in_err-answer-clause-stop g c = λ t o found failed done count reached.
    let a = g.H.Host.view c.args.host.now in
    let b = g.H.Host.view c.respond.new.host in
    done_line o found failed done (line_request c.args.line.now) c.args.state.now a b reached c.respond.ensures.rest.streams
    (subst (λ (q : Request). IsTurning c.args.state.now q a b) c.in_ok-request.ensures (c.respond.ensures.stop t))

pub returns-clause-stop : goal.returns-clause-stop
returns-clause-stop g c = λ t o found failed done count reached.
    let a = g.H.Host.view c.args.host.now in
    let b = g.H.Host.view c.respond.new.host in
    let d = g.H.Host.view c.give_answer.new.host in
    let answer = c.in_ok-answer.answer in
    let line : line_text c.args.number answer ≡ line_text (length done) answer = ap (λ n. line_text n answer) count in
    let some = c.give_answer.ensures.some t.output in
    given_line o found failed done (line_request c.args.line.now) c.args.state.now a b reached c.respond.new.state answer d c.respond.ensures.rest.streams
    (subst (λ (q : Request). HasTurned c.args.state.now c.respond.new.state q answer a b) c.in_ok-request.ensures (c.in_ok-answer.ensures.turned t)) c.give_answer.ensures.faults c.give_answer.ensures.images some.0
    (subst (λ (l : List ℕ). IsGiven some.0 l b d) line some.1) (subst (λ (l : List ℕ). Ran (IsGiving l b d) b d) line c.give_answer.ensures.gives)

pub returns-clause-reached : goal.returns-clause-reached
returns-clause-reached g c =
    let a = g.H.Host.view c.args.host.now in
    let b = g.H.Host.view c.respond.new.host in
    let d = g.H.Host.view c.give_answer.new.host in
    let r = line_request c.args.line.now in
    on_ok c.give_answer.result (TellsAll g.H.Host.tells → (o : Origin) (found : Site) (failed : Failures) (done : List Request) → c.args.number ≡ length done → HasReached o found failed done c.args.state.now a → HasRun o found failed (done ++ r ∷ []) c.respond.new.state a d)
    (λ x ok. λ t o found failed done count reached.
    let answer = c.in_ok-answer.answer in
    let line : line_text c.args.number answer ≡ line_text (length done) answer = ap (λ n. line_text n answer) count in
    line_run o found failed done r c.args.state.now a b reached c.respond.new.state answer d c.respond.ensures.rest.streams
    (subst (λ (q : Request). HasTurned c.args.state.now c.respond.new.state q answer a b) c.in_ok-request.ensures (c.in_ok-answer.ensures.turned t)) c.give_answer.ensures.faults c.give_answer.ensures.images
    (length (line_text (length done) answer)) (subst (λ (l : List ℕ). IsGiven (length l) l b d) line (of_ok c.give_answer.result x _ ok c.give_answer.ensures.gave t.output))
    (subst (λ (l : List ℕ). Ran (IsGiving l b d) b d) line c.give_answer.ensures.gives) refl (c.give_answer.ensures.still 0) (of_ok c.give_answer.result x _ ok c.give_answer.ensures.clock))

pub returns-clause-on : goal.returns-clause-on
returns-clause-on g c =
    on_ok c.give_answer.result (StateImagesMatch c.respond.new.state (g.H.Host.view c.give_answer.new.host)) (λ x ok. still_match c.respond.new.state _ _ c.give_answer.ensures.images c.in_ok-answer.ensures.on)
