use Rattle.std.proofs.Common.{◌≡◌, ◌+◌, ◌++◌, length}
use Rattle.tq_host.specs.Within.{Ran}
use Rattle.tq_coord.specs.Frame.{LeavesOthers}
use Rattle.tq_run.specs.Counts.{IsQuiet}
use Rattle.tq_coord.specs.Images.{HasNoNewImage}
use Rattle.tq_run.specs.Stops.{IsWaiting}
use Rattle.tq_run.specs.Input.{TakesOnly, TakesWith}
use Rattle.tq_run.proofs.script.read_script.Given as goal

abbrev pub invariant-loop-left : goal.invariant-loop-left
invariant-loop-left g l =
    let start = g.H.Host.view l.fn.host in
    let now = g.H.Host.view l.host in
    record {
      bytes : g.H.Host.tells.script → l.script.items ++ now.streams.script ≡ start.streams.script;
      taken : g.H.Host.tells.output → now.streams.taken + l.left ≡ start.streams.taken + l.fn.limit;
      short : length l.script.items + l.left ≡ l.fn.limit;
      still : TakesOnly start now;
      takes : g.H.Host.tells.output → TakesWith (length start.streams.output) start.streams now.streams;
      others : LeavesOthers start now;
      waits : Ran (IsWaiting start) start now;
      images : HasNoNewImage start now;
      quiet : IsQuiet start now;
    }

abbrev pub decreases-loop-left : goal.decreases-loop-left
decreases-loop-left g l = l.left
