use Rattle.std.proofs.Common.{length}
use Rattle.std.specs.Prelude.{nat_lt}
use Rattle.tq_extent.specs.Clusters.{is_given, clusters_of}
use Rattle.tq_extent.proofs.ClusterLemmas.{all-weaker, given-within}
use Rattle.tq_extent.proofs.clusters.ExtentList.give_back.Goals as goal

pub mark-requires : goal.mark-requires
mark-requires c =
    let old = c.args.self.now in
    all-weaker (λ k. is_given k old) (λ k. nat_lt k (length old)) (clusters_of c.args.extents.now) (λ k given. given-within k old given) c.requires
