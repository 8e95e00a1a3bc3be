use Rattle.std.proofs.Common.{◌-◌, ◌≡◌, ◌+◌, ◌≤◌, length}
use Rattle.tq_host.specs.Calls.{IsSameBut}
use Rattle.tq_host.specs.Within.{Within, KeepsRest}
use Rattle.tq_extent.specs.Bytes.{owned_bytes, OnBytes, AllReach}
use Rattle.tq_extent.proofs.RunLemmas.{HasReach, HasFirstAt}
use Rattle.tq_extent.proofs.pages.PageMap.write_at.Given as goal

abbrev pub invariant-loop-done : goal.invariant-loop-done
invariant-loop-done g l =
    let start = g.H.Host.view l.fn.host in
    let now = g.H.Host.view l.host in
    let told = g.H.Host.tells.reads in
    record {
      range : l.done ≤ length l.from;
      place : l.place ≡ l.at + l.done;
      bytes : told → HasFirstAt l.at l.done l.from (owned_bytes l.self (now.reads l.dev));
      beside : told → OnBytes l.self (IsSameBut l.at (length l.from)) (start.reads l.dev) (now.reads l.dev);
      stop : AllReach l.dev l.self start → Within l.dev (OnBytes l.self (IsSameBut l.at (length l.from))) (HasReach l.self) start now;
      rest : KeepsRest l.dev start now;
      faults : now.faults ≡ start.faults;
    }

abbrev pub decreases-loop-done : goal.decreases-loop-done
decreases-loop-done g l = length l.from - l.done
