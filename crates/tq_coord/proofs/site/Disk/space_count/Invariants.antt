use Rattle.std.proofs.Common.{◌≡◌, ◌≤◌, take, length}
use Rattle.tq_model.specs.Site.{present}
use Rattle.tq_coord.proofs.site.Disk.space_count.Given as goal

abbrev pub invariant-loop-entry : goal.invariant-loop-entry
invariant-loop-entry l = (l.count ≡ length (present (take l.entry-index l.entry-items))) × (l.count ≤ l.entry-index)
