use Rattle.std.proofs.Common.{◌≡◌, ◌-◌, take}
use Rattle.std.specs.List.{sum_by}
use Rattle.tq_model.specs.Site.{present}
use Rattle.tq_machine.specs.Tables.{space_clusters}
use Rattle.tq_machine.proofs.device.left_of.Given as goal

abbrev pub invariant-loop-entry : goal.invariant-loop-entry
invariant-loop-entry l = l.left ≡ l.clusters - sum_by space_clusters (present (take l.entry-index l.entries))
