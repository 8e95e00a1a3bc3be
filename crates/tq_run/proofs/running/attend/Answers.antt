use Rattle.std.proofs.Common.{◌≡◌, ℕ, List, [], ◌∷◌, Result, Ok, Err, sym, ◌∙◌, ap, subst}
use Rattle.tq_model.specs.declared.request.Request.TheVariants.{Boot}
use Rattle.tq_model.specs.Grammar.{script_requests}
use Rattle.tq_run.specs.declared.status.RunEnd.{RunEnd}
use Rattle.tq_run.specs.declared.status.StartEnd.{StartEnd}
use Rattle.tq_run.specs.Counts.{HasRunCounts, itself, run_end_of_start, run_end_of_script}
use Rattle.tq_run.specs.Turns.{origin_of, none_failed, RunsOver}
use Rattle.tq_run.specs.Standing.{HasRun, HasStarted}
use Rattle.tq_run.proofs.CountLemmas.{err_is, same_Err, quiet_calm, stop_counts, run_counts_on}
use Rattle.tq_run.proofs.LineByLineLemmas.{over_front, then_over, run_started, is_done}
use Rattle.tq_run.proofs.StatusLemmas.{line_0_ended, line_0_begun}
use Rattle.tq_run.proofs.TakeLemmas.{taken_behind}
use Rattle.tq_run.proofs.AttachLemmas.{attached_on}
use Rattle.tq_coord.proofs.FrameLemmas.{others_on}
use Rattle.tq_run.proofs.running.attend.Goals as goal

not_ok : {T E : Type 0} (r : Result T E) (x : T) (end : E) → r ≡ Ok x → r ≡ Err end → ⊥
not_ok r x end ok err = cc

pub returns-in_err-state-clause-stop : goal.returns-in_err-state-clause-stop
returns-in_err-state-clause-stop g c = λ t settled found is raisable.
    let a = g.H.Host.view c.args.host.now in
    over_front (origin_of a) found none_failed (Boot ∷ []) (script_requests a.streams.script) a (g.H.Host.view c.begin.new.host) (c.begin.ensures.stop t settled found is raisable)

pub returns-in_err-answer_script-clause-stop : goal.returns-in_err-answer_script-clause-stop
returns-in_err-answer_script-clause-stop g c = λ t settled found is raisable.
    let a = g.H.Host.view c.args.host.now in
    let b = g.H.Host.view c.begin.new.host in
    let d = g.H.Host.view c.answer_script.new.host in
    let script : b.streams.script ≡ a.streams.script = c.begin.ensures.input.script in
    let started : HasStarted found c.in_ok-state.state a b = c.in_ok-state.ensures.reached t found is in
    let run = run_started a b found c.in_ok-state.state settled started in
    then_over (origin_of a) found none_failed (Boot ∷ []) (script_requests a.streams.script) c.in_ok-state.state a b d run (c.answer_script.ensures.told t.output) (c.begin.ensures.told t.output)
    (subst (λ (l : List ℕ). RunsOver (origin_of a) found run.since (Boot ∷ script_requests l) b d) script (c.answer_script.ensures.stop t (origin_of a) found run.since Boot run.reached))

pub returns-clause-stop : goal.returns-clause-stop
returns-clause-stop g c = λ t settled found is raisable.
    let a = g.H.Host.view c.args.host.now in
    let b = g.H.Host.view c.begin.new.host in
    let d = g.H.Host.view c.answer_script.new.host in
    let script : b.streams.script ≡ a.streams.script = c.begin.ensures.input.script in
    let started : HasStarted found c.in_ok-state.state a b = c.in_ok-state.ensures.reached t found is in
    let run = run_started a b found c.in_ok-state.state settled started in
    then_over (origin_of a) found none_failed (Boot ∷ []) (script_requests a.streams.script) c.in_ok-state.state a b d run (c.answer_script.ensures.told t.output) (c.begin.ensures.told t.output)
    (subst (λ (l : List ℕ). RunsOver (origin_of a) found run.since (Boot ∷ script_requests l) b d) script (c.answer_script.ensures.stop t (origin_of a) found run.since Boot run.reached))

pub returns-clause-done : goal.returns-clause-done
returns-clause-done g c = λ t found is.
    let a = g.H.Host.view c.args.host.now in
    let b = g.H.Host.view c.begin.new.host in
    let d = g.H.Host.view c.answer_script.new.host in
    let started : HasStarted found c.in_ok-state.state a b = c.in_ok-state.ensures.reached t found is in
    let all = subst (λ (l : List ℕ). HasRun (origin_of a) found started.failed (Boot ∷ script_requests l) c.answer_script.new.state b d) c.begin.ensures.input.script
    (c.in_ok-answer_script.ensures.reached t (origin_of a) found started.failed Boot started.reached) in
    is_done a d found all.since c.answer_script.new.state (g.met.H.Host.lawful c.answer_script.new.host) t (c.in_ok-answer_script.ensures.left t.script) all.reached

pub returns-in_err-state-clause-line_0 : goal.returns-in_err-state-clause-line_0
returns-in_err-state-clause-line_0 g c = λ t added is rose.
    let end = c.in_err-state.field-0.0 in
    let same : c.from_residual.result ≡ Err (run_end_of_start end) = err_is _ _ c.from_residual.ensures.1 in
    let ended = line_0_ended end (g.H.Host.view c.args.host.now) (g.H.Host.view c.begin.new.host) (λ e. c.begin.ensures.silent (c.in_err-state.was ∙ ap (λ (x : StartEnd). Err x) e)) (λ other. c.in_err-state.ensures.calm (λ e. other (same_Err _ _ e)) t) added is rose in
    (same ∙ ap (λ (x : StartEnd). Err (run_end_of_start x)) ended.0, ended.1)

pub returns-in_err-state-clause-counts : goal.returns-in_err-state-clause-counts
returns-in_err-state-clause-counts g c =
    let end = c.in_err-state.field-0.0 in
    let same : c.from_residual.result ≡ Err (run_end_of_start end) = err_is _ _ c.from_residual.ensures.1 in
    subst (λ (r : Result (Unit {0}) RunEnd). HasRunCounts itself r (g.H.Host.view c.args.host.now) (g.H.Host.view c.begin.new.host)) (sym same) (stop_counts (run_end_of_start end) _ _ c.in_err-state.ensures.counts)

pub returns-in_err-answer_script-clause-counts : goal.returns-in_err-answer_script-clause-counts
returns-in_err-answer_script-clause-counts g c =
    let end = c.in_err-answer_script.field-0.0 in
    let same : c.from_residual-in_err-answer_script.result ≡ Err (run_end_of_script end) = err_is _ _ c.from_residual-in_err-answer_script.ensures.1 in
    subst (λ (r : Result (Unit {0}) RunEnd). HasRunCounts itself r (g.H.Host.view c.args.host.now) (g.H.Host.view c.answer_script.new.host)) (sym same)
    (run_counts_on {T = Unit {0}} (Err end) _ _ _ (quiet_calm _ _ c.in_ok-state.ensures.counts) c.in_err-answer_script.ensures.counts)

pub returns-in_err-answer_script-clause-attached : goal.returns-in_err-answer_script-clause-attached
returns-in_err-answer_script-clause-attached g c = λ t.
    attached_on (c.args.path.now ∷ []) (g.H.Host.view c.args.host.now) (g.H.Host.view c.begin.new.host) (g.H.Host.view c.answer_script.new.host) (c.begin.ensures.told t) (c.begin.ensures.attached t) (c.in_ok-state.ensures.named t) (c.answer_script.ensures.attached t)

pub returns-in_err-answer_script-clause-others : goal.returns-in_err-answer_script-clause-others
returns-in_err-answer_script-clause-others g c = others_on _ _ _ c.begin.ensures.others c.answer_script.ensures.others

pub returns-clause-attached : goal.returns-clause-attached
returns-clause-attached g c = λ t.
    attached_on (c.args.path.now ∷ []) (g.H.Host.view c.args.host.now) (g.H.Host.view c.begin.new.host) (g.H.Host.view c.answer_script.new.host) (c.begin.ensures.told t) (c.begin.ensures.attached t) (c.in_ok-state.ensures.named t) (c.answer_script.ensures.attached t)

pub returns-in_err-answer_script-clause-line_0 : goal.returns-in_err-answer_script-clause-line_0
returns-in_err-answer_script-clause-line_0 g c = λ t.
    line_0_begun _ (g.H.Host.view c.args.host.now) (g.H.Host.view c.begin.new.host) (g.H.Host.view c.answer_script.new.host) (c.in_ok-state.ensures.begun t) (c.answer_script.ensures.told t)

pub returns-clause-line_0 : goal.returns-clause-line_0
returns-clause-line_0 g c = λ t.
    line_0_begun _ (g.H.Host.view c.args.host.now) (g.H.Host.view c.begin.new.host) (g.H.Host.view c.answer_script.new.host) (c.in_ok-state.ensures.begun t) (c.answer_script.ensures.told t)

pub returns-in_err-answer_script-clause-ready_first : goal.returns-in_err-answer_script-clause-ready_first
returns-in_err-answer_script-clause-ready_first g c = λ t.
    taken_behind (g.H.Host.view c.args.host.now).streams (g.H.Host.view c.begin.new.host).streams (g.H.Host.view c.answer_script.new.host).streams (c.in_ok-state.ensures.begun t).output c.begin.ensures.input.takes (c.answer_script.ensures.takes t)

pub returns-clause-ready_first : goal.returns-clause-ready_first
returns-clause-ready_first g c = λ t.
    taken_behind (g.H.Host.view c.args.host.now).streams (g.H.Host.view c.begin.new.host).streams (g.H.Host.view c.answer_script.new.host).streams (c.in_ok-state.ensures.begun t).output c.begin.ensures.input.takes (c.answer_script.ensures.takes t)

pub returns-clause-others : goal.returns-clause-others
returns-clause-others g c =
    others_on (g.H.Host.view c.args.host.now) (g.H.Host.view c.begin.new.host) (g.H.Host.view c.answer_script.new.host) c.begin.ensures.others c.answer_script.ensures.others
