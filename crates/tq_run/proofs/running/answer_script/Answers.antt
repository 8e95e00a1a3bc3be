use Rattle.std.proofs.Common.{◌≡◌, List, [], ◌∷◌, ◌∙◌, ℕ, subst}
use Rattle.tq_host.specs.View.{View}
use Rattle.tq_model.specs.Grammar.{script_requests}
use Rattle.tq_run.specs.declared.status.ReadEnd.{ReadEnd}
use Rattle.tq_run.specs.declared.status.ReadEnd.TheVariants.{Memory, Input, TooMuchInput}
use Rattle.tq_run.specs.Counts.{StopCounts, run_end_of_read}
use Rattle.tq_run.specs.Turns.{RunsOver}
use Rattle.tq_run.specs.Standing.{HasRun}
use Rattle.tq_run.proofs.LineByLineLemmas.{waiting_run, read_over, read_run, over_run, over_front}
use Rattle.tq_run.proofs.running.answer_script.Goals as goal

steady : (end : ReadEnd) (a b : View) → StopCounts (run_end_of_read end) a b → b.faults ≡ a.faults
steady Memory a b counts = counts.device
steady Input a b counts = counts.device
steady TooMuchInput a b counts = counts.device

pub returns-in_err-script-clause-stop : goal.returns-in_err-script-clause-stop
returns-in_err-script-clause-stop g c = λ t o found failed first reached.
    let a = g.H.Host.view c.args.host.now in
    let b = g.H.Host.view c.read_script.new.host in
    let does = c.read_script.ensures in
    over_front o found failed (first ∷ []) (script_requests a.streams.script) a b (over_run o found failed (first ∷ []) c.args.state.now a b
    (waiting_run o found failed first c.args.state.now a b reached does.images does.still (steady c.in_err-script.field-0.0 a b c.in_err-script.ensures.counts) does.waits))

pub returns-in_err-serve_lines-clause-stop : goal.returns-in_err-serve_lines-clause-stop
returns-in_err-serve_lines-clause-stop g c = λ t o found failed first reached.
    let a = g.H.Host.view c.args.host.now in
    let d = g.H.Host.view c.serve_lines.new.host in
    let does = c.read_script.ensures in
    subst (λ (l : List ℕ). RunsOver o found failed (first ∷ script_requests l) a d) (c.deref.ensures.value ∙ (c.in_ok-script.ensures.read t.script).bytes)
    (read_over o found failed first c.args.state.now a _ reached does.images does.still c.in_ok-script.ensures.counts.device does.waits d (c.serve_lines.ensures.told t.output) _ (λ since. c.serve_lines.ensures.stop t o found since first))

pub returns-clause-stop : goal.returns-clause-stop
returns-clause-stop g c = λ t o found failed first reached.
    let a = g.H.Host.view c.args.host.now in
    let d = g.H.Host.view c.serve_lines.new.host in
    let does = c.read_script.ensures in
    subst (λ (l : List ℕ). RunsOver o found failed (first ∷ script_requests l) a d) (c.deref.ensures.value ∙ (c.in_ok-script.ensures.read t.script).bytes)
    (read_over o found failed first c.args.state.now a _ reached does.images does.still c.in_ok-script.ensures.counts.device does.waits d (c.serve_lines.ensures.told t.output) _ (λ since. c.serve_lines.ensures.stop t o found since first))

pub returns-clause-reached : goal.returns-clause-reached
returns-clause-reached g c = λ t o found failed first reached.
    let a = g.H.Host.view c.args.host.now in
    let d = g.H.Host.view c.serve_lines.new.host in
    let does = c.read_script.ensures in
    subst (λ (l : List ℕ). HasRun o found failed (first ∷ script_requests l) c.serve_lines.new.state a d) (c.deref.ensures.value ∙ (c.in_ok-script.ensures.read t.script).bytes)
    (read_run o found failed first c.args.state.now a _ reached does.images does.still c.in_ok-script.ensures.counts.device does.waits d (c.serve_lines.ensures.told t.output) _ c.serve_lines.new.state
    (λ since. c.in_ok-serve_lines.ensures.reached t o found since first))
