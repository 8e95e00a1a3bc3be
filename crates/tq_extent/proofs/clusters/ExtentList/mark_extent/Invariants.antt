use Rattle.std.proofs.Common.{◌≡◌, ◌-◌, length}
use Rattle.tq_model.specs.Site.{numbers_from}
use Rattle.tq_extent.specs.Clusters.{with_mark}
use Rattle.tq_extent.proofs.clusters.ExtentList.mark_extent.Given as goal

-- the rest makes of it what is to come
abbrev pub invariant-loop-cluster : goal.invariant-loop-cluster
invariant-loop-cluster l = record {
  marked : with_mark l.owned (numbers_from l.cluster (l.cluster-end - l.cluster)) l.self-inside.owned.items ≡ with_mark l.owned (numbers_from l.fn.extent.first l.fn.extent.count) l.fn.self;
  same : length l.self-inside.owned.items ≡ length l.fn.self;
}
