use Rattle.std.proofs.Common.{◌≡◌, ◌++◌, map, take, drop, option_map}
use Rattle.tq_model.specs.Site.{durable_space, on_spaces}
use Rattle.tq_machine.proofs.machine.crash_all.Given as goal

abbrev pub invariant-loop-at : goal.invariant-loop-at
invariant-loop-at l = l.devices ≡ map (option_map (on_spaces durable_space)) (take l.at l.initial.devices) ++ drop l.at l.initial.devices
