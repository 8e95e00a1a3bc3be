use Rattle.std.proofs.Common.{◌≡◌, ◌<◌, ◌∙◌, length, List, ℕ, ap, sym, arith}
use Rattle.tq_extent.specs.Clusters.{is_free, free_in}
use Rattle.tq_extent.proofs.ClusterLemmas.{free_from-free, free_from-not, free_from-end}
use Rattle.tq_extent.proofs.CountLemmas.{free_count-is}
use Rattle.tq_extent.proofs.clusters.ExtentList.free.Goals as goal
use Rattle.tq_extent.proofs.clusters.ExtentList.free.Goals.{then-is_free, else-is_free}

pub loop-cluster-preserved : goal.loop-cluster-preserved
loop-cluster-preserved c =
    let owned = c.args.self.now in
    let at = c.loop-cluster.cluster in
    let within : at < length owned = omega (arith, c.clusters-cluster-end.ensures.all) in
    let tested = c.is_free.ensures ∙ ap (λ k. is_free k owned) c.into.ensures in
    elim c.if-is_free.branch [
      | then-is_free w ↦
          let size = ap (λ (l : List ℕ). length l) (free_from-free at owned within (sym tested ∙ w.if-is_free.true)) in
          record { counted = omega (arith, size, c.loop-cluster.invariant.counted); within = omega (arith, c.loop-cluster.invariant.within) }
      | else-is_free w ↦
          let size = ap (λ (l : List ℕ). length l) (free_from-not at owned within (sym tested ∙ w.if-is_free.false)) in
          record { counted = omega (arith, size, c.loop-cluster.invariant.counted); within = omega (arith, c.loop-cluster.invariant.within) }
    ]

pub returns : goal.returns
returns c =
    let owned = c.args.self.now in
    let size = ap (λ (l : List ℕ). length l) (free_from-end c.loop-cluster.cluster owned (omega (arith, c.clusters-cluster-end.ensures.all))) in
    let counted : c.loop-cluster.free ≡ length (free_in owned) = omega (arith, size, c.loop-cluster.invariant.counted) in
    record {
      free = counted;
      within = (omega (arith, c.clusters-cluster-end.ensures.all), omega (arith, c.clusters-cluster-end.ensures.all, c.clusters-cluster-end.ensures.most));
      capacity = λ v is claimed.
          let clusters = is.clusters in
          counted ∙ free_count-is v owned (omega (arith, c.clusters-cluster-end.ensures.all, c.clusters-cluster-end.ensures.least)) is claimed;
    }
