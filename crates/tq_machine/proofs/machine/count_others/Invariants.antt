use Rattle.std.proofs.Common.{◌≡◌, ◌≤◌, take, set, length, None}
use Rattle.tq_model.specs.Site.{present}
use Rattle.tq_machine.proofs.machine.count_others.Given as goal

abbrev pub invariant-loop-at : goal.invariant-loop-at
invariant-loop-at l = (l.count ≡ length (present (take l.at (set l.devices l.dev None)))) × (l.count ≤ l.at)
