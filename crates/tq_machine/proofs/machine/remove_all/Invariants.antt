use Rattle.std.proofs.Common.{◌≡◌, ◌++◌, map, take, drop, option_map}
use Rattle.tq_machine.specs.Tables.{without_named}
use Rattle.tq_machine.proofs.machine.remove_all.Given as goal

abbrev pub invariant-loop-at : goal.invariant-loop-at
invariant-loop-at l = l.devices ≡ map (option_map (without_named l.name)) (take l.at l.initial.devices) ++ drop l.at l.initial.devices
