use Rattle.std.proofs.Common.{◌≡◌, ◌++◌, map, take, drop}
use Rattle.tq_model.specs.Site.{entry_beside}
use Rattle.tq_machine.proofs.device.remove_all.Given as goal

abbrev pub invariant-loop-at : goal.invariant-loop-at
invariant-loop-at l = l.entries ≡ map (entry_beside l.name) (take l.at l.initial.entries) ++ drop l.at l.initial.entries
