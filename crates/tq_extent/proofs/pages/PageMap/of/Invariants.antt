use Rattle.std.proofs.Common.{◌≡◌, take}
use Rattle.tq_extent.specs.Clusters.{clusters_of}
use Rattle.tq_extent.proofs.pages.PageMap.of.Given as goal

abbrev pub invariant-loop-extent : goal.invariant-loop-extent
invariant-loop-extent l = l.clusters.items ≡ clusters_of (take l.extent-index l.extents)
