use Rattle.std.proofs.Common.{◌≡◌, take, map}
use Rattle.tq_model.specs.Site.{present}
use Rattle.tq_model.specs.Step.{space_line}
use Rattle.tq_coord.specs.Manager.{volume_in}
use Rattle.tq_coord.proofs.site.Disk.lines.Given as goal

abbrev pub invariant-loop-index : goal.invariant-loop-index
invariant-loop-index l = l.lines ≡ map space_line (present (take l.index (volume_in l.self).entries))
