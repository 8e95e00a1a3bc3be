use Rattle.std.proofs.Common.{◌≡◌, ◌≤◌, ◌+◌, length}
use Rattle.tq_extent.specs.Clusters.{free_from, free_in}
use Rattle.tq_extent.proofs.clusters.ExtentList.free.Given as goal

abbrev pub invariant-loop-cluster : goal.invariant-loop-cluster
invariant-loop-cluster l = record {
  counted : l.free + length (free_from l.cluster l.self) ≡ length (free_in l.self);
  within : l.free + 4 ≤ l.cluster;
}
