use Rattle.std.proofs.Common.{◌≡◌, take}
use Rattle.tq_extent.specs.Clusters.{clusters_of, with_mark}
use Rattle.tq_extent.proofs.clusters.ExtentList.mark.Given as goal

abbrev pub invariant-loop-extent : goal.invariant-loop-extent
invariant-loop-extent l = l.self ≡ with_mark l.owned (clusters_of (take l.extent-index l.extents)) l.initial.self
