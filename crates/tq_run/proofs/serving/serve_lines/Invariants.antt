use Rattle.std.proofs.Common.{◌≤◌, ◌+◌, ◌∷◌, [], length}
use Rattle.tq_host.specs.View.{TellsAll}
use Rattle.tq_model.specs.declared.request.Request.{Request}
use Rattle.tq_model.specs.MachineWithFaults.{Failures}
use Rattle.tq_model.specs.Site.{Site}
use Rattle.tq_model.specs.Grammar.{script_requests}
use Rattle.tq_coord.specs.Frame.{LeavesOthers}
use Rattle.tq_run.specs.Counts.{IsCalm}
use Rattle.tq_run.specs.Output.{TellsMore, StaysAttached, KeepsInput}
use Rattle.tq_run.specs.Turns.{Origin}
use Rattle.tq_run.specs.Standing.{next_in, StateImagesMatch, HasReached}
use Rattle.tq_run.proofs.LineByLineLemmas.{IsSoFar}
use Rattle.tq_run.proofs.serving.serve_lines.Given as goal

abbrev pub invariant-loop-line : goal.invariant-loop-line
invariant-loop-line g l =
    let start = g.H.Host.view l.fn.host in
    let now = g.H.Host.view l.host in
    record {
      count : l.number + length l.rest ≤ length l.script + 1;
      numbers : next_in l.state + length l.rest ≤ 4294967295;
      on : StateImagesMatch l.state now;
      input : KeepsInput start now;
      calm : IsCalm start now;
      told : g.H.Host.tells.output → TellsMore start now;
      attached : g.H.Host.tells.output → StaysAttached start now;
      others : LeavesOthers start now;
      so_far : TellsAll g.H.Host.tells → (o : Origin) (found : Site) (failed : Failures) (first : Request) → HasReached o found failed (first ∷ []) l.fn.state start
          → IsSoFar o found failed first (script_requests l.script) (script_requests l.rest) l.number l.state start now;
    }

abbrev pub decreases-loop-line : goal.decreases-loop-line
decreases-loop-line g l = length l.rest
