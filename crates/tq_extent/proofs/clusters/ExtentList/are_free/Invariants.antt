use Rattle.std.proofs.Common.{◌≡◌, ◌-◌}
use Rattle.std.specs.List.{list_all}
use Rattle.tq_model.specs.Site.{numbers_from}
use Rattle.tq_extent.specs.Clusters.{is_free}
use Rattle.tq_extent.proofs.clusters.ExtentList.are_free.Given as goal

-- the rest says it
abbrev pub invariant-loop-cluster : goal.invariant-loop-cluster
invariant-loop-cluster l =
    list_all (λ cluster. is_free cluster l.self) (numbers_from l.cluster (l.cluster-end - l.cluster))
    ≡ list_all (λ cluster. is_free cluster l.self) (numbers_from l.fn.extent.first l.fn.extent.count)
