use Rattle.std.proofs.Common.{◌≡◌, ◌++◌, map, take, drop, option_map}
use Rattle.tq_model.specs.Site.{durable_space}
use Rattle.tq_machine.proofs.device.crash_all.Given as goal

abbrev pub invariant-loop-at : goal.invariant-loop-at
invariant-loop-at l = l.entries ≡ map (option_map durable_space) (take l.at l.initial.entries) ++ drop l.at l.initial.entries
