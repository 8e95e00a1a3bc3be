use Rattle.std.proofs.Common.{◌≡◌, take, None}
use Rattle.std.specs.List.{find}
use Rattle.tq_model.specs.Site.{present, has_name}
use Rattle.tq_coord.specs.Manager.{volume_in}
use Rattle.tq_coord.proofs.site.Disk.entry_named.Given as goal

abbrev pub invariant-loop-index : goal.invariant-loop-index
invariant-loop-index l = find (has_name l.name) (present (take l.index (volume_in l.self).entries)) ≡ None
