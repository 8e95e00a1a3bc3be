use Rattle.std.proofs.Common.{◌≡◌, drop}
use Rattle.std.specs.List.{find, flat_map}
use Rattle.tq_model.specs.Site.{present, spaces_on, has_name}
use Rattle.tq_machine.proofs.machine.place_in.Given as goal

abbrev pub invariant-loop-dev : goal.invariant-loop-dev
invariant-loop-dev l =
    find (has_name l.name) (flat_map spaces_on (present (drop l.dev l.devices))) ≡ find (has_name l.name) (flat_map spaces_on (present l.devices))
