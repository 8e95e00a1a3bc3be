use Rattle.std.proofs.Common.{◌≡◌, ◌++◌}
use Rattle.tq_model.specs.Site.{numbers_from}
use Rattle.tq_extent.proofs.pages.push_clusters.Given as goal

abbrev pub invariant-loop-at : goal.invariant-loop-at
invariant-loop-at l = l.clusters.items ≡ l.fn.clusters.items ++ numbers_from l.fn.extent.first l.at
