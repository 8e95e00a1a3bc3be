use Rattle.std.proofs.Common.{◌-◌, ◌≡◌, ◌+◌, ◌≤◌, length}
use Rattle.tq_extent.specs.Bytes.{owned_bytes, IsQuiet}
use Rattle.tq_extent.proofs.RunLemmas.{HasFirstAt}
use Rattle.tq_extent.proofs.pages.PageMap.read_at.Given as goal

abbrev pub invariant-loop-done : goal.invariant-loop-done
invariant-loop-done g l =
    let start = g.H.Host.view l.fn.host in
    let now = g.H.Host.view l.host in
    record {
      range : l.done ≤ length l.into;
      kept : length l.into ≡ length l.fn.into;
      place : l.place ≡ l.at + l.done;
      bytes : g.H.Host.tells.reads → HasFirstAt l.at l.done l.into (owned_bytes l.self (start.reads l.dev));
      quiet : IsQuiet l.dev start now;
      faults : now.faults ≡ start.faults;
    }

abbrev pub decreases-loop-done : goal.decreases-loop-done
decreases-loop-done g l = length l.into - l.done
