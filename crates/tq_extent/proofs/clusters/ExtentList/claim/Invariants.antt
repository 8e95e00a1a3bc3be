use Rattle.std.proofs.Common.{◌≡◌, true, take}
use Rattle.tq_extent.specs.Clusters.{clusters_of, can_claim, with_mark}
use Rattle.tq_extent.specs.Pages.{AreMappable}
use Rattle.tq_extent.proofs.clusters.ExtentList.claim.Given as goal

abbrev pub invariant-loop-at : goal.invariant-loop-at
invariant-loop-at l = record {
  marked : l.self ≡ with_mark true (clusters_of (take l.at l.extents)) l.initial.self;
  claimed : can_claim (clusters_of (take l.at l.extents)) l.initial.self ≡ true;
  mappable : AreMappable (take l.at l.extents);
}
