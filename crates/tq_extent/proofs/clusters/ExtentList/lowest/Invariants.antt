use Rattle.std.proofs.Common.{◌≡◌, ◌≤◌, ◌+◌, ◌++◌, take}
use Rattle.tq_model.specs.Site.{numbers_from, as_extents}
use Rattle.tq_extent.specs.Clusters.{free_from, free_in}
use Rattle.tq_extent.proofs.clusters.ExtentList.lowest.Given as goal

-- the run and the clusters to come make of the extents what is to come
abbrev pub invariant-loop-cluster : goal.invariant-loop-cluster
invariant-loop-cluster l = record {
  joined : l.extents ++ as_extents (numbers_from l.run.first l.run.count ++ take l.left (free_from l.cluster l.self)) ≡ as_extents (take l.fn.n (free_in l.self));
  before : l.run.first + l.run.count ≤ l.cluster;
}
