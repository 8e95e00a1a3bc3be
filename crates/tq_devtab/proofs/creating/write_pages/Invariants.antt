use Rattle.std.proofs.Common.{◌≡◌, ◌*◌, List, ℕ, length}
use Rattle.std.specs.Prelude.{min}
use Rattle.tq_host.specs.Within.{KeepsRest, Within}
use Rattle.tq_devtab.specs.Device.{IsAnyStep, IsBlank}
use Rattle.tq_devtab.specs.Made.{IsMadeTo}
use Rattle.tq_devtab.proofs.creating.write_pages.Given as goal

abbrev pub invariant-loop-number : goal.invariant-loop-number
invariant-loop-number g l =
    let start = g.H.Host.view l.fn.host in
    let now = g.H.Host.view l.host in
    record {
      made : g.H.Host.tells.reads → IsMadeTo l.header l.table l.journal (min (1024 * l.number) 131071) (now.reads l.dev);
      size : g.H.Host.tells.reads → length (now.reads l.dev) ≡ 131071;
      stop : ((c : List ℕ) → start.may_leave l.dev c → IsBlank c) → Within l.dev IsAnyStep IsBlank start now;
      rest : KeepsRest l.dev start now;
      faults : now.faults ≡ start.faults;
    }
