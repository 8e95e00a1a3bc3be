use Rattle.std.proofs.Common.{◌≡◌, ◌≤◌, ◌*◌, take, length}
use Rattle.std.specs.List.{flat_map}
use Rattle.tq_model.specs.Site.{present, spaces_on}
use Rattle.tq_machine.proofs.machine.count_spaces.Given as goal

abbrev pub invariant-loop-device : goal.invariant-loop-device
invariant-loop-device l =
    (l.count ≡ length (flat_map spaces_on (present (take l.device-index l.devices)))) × (l.count ≤ 16 * l.device-index)
