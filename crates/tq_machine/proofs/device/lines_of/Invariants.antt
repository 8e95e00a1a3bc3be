use Rattle.std.proofs.Common.{◌≡◌, take, map}
use Rattle.tq_model.specs.Site.{present}
use Rattle.tq_model.specs.Step.{space_line}
use Rattle.tq_machine.proofs.device.lines_of.Given as goal

abbrev pub invariant-loop-entry : goal.invariant-loop-entry
invariant-loop-entry l = l.lines ≡ map space_line (present (take l.entry-index l.entries))
