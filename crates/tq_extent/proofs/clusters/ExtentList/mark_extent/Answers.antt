use Rattle.std.proofs.Common.{◌≡◌, ◌∙◌, ◌+◌, ◌-◌, ℕ, Bool, List, length, ltb-true, sym, ap, arith}
use Rattle.std.specs.Prelude.{nat_lt}
use Rattle.std.proofs.lemmas.List.{length-set}
use Rattle.tq_model.specs.Site.{numbers_from}
use Rattle.tq_extent.specs.Clusters.{with_mark}
use Rattle.tq_extent.proofs.ClusterLemmas.{all-at-number, with_mark-next}
use Rattle.tq_extent.proofs.clusters.ExtentList.mark_extent.Goals as goal

pub loop-cluster-init : goal.loop-cluster-init
loop-cluster-init c =
    let extent = c.args.extent in
    let size : (extent.first + extent.count) - extent.first ≡ extent.count = omega arith in
    record {
      marked = λ i. with_mark c.args.owned (numbers_from extent.first (size i)) (c.self.view_is i);
      same = ap (λ (l : List Bool). length l) c.self.view_is;
    }

pub index_mut-requires : goal.index_mut-requires
index_mut-requires c =
    let extent = c.args.extent in
    let size = c.loop-cluster.invariant.same in
    let within = ltb-true c.loop-cluster.cluster (length c.args.self.now) (all-at-number (λ cluster. nat_lt cluster (length c.args.self.now)) extent.first extent.count c.loop-cluster.cluster c.requires (omega arith) (omega arith)) in
    omega (arith, c.loop-cluster.self-inside.owned.ok.0)

pub loop-cluster-preserved : goal.loop-cluster-preserved
loop-cluster-preserved c =
    let extent = c.args.extent in
    let owned = c.loop-cluster.self-inside.owned.items in
    record {
      marked = with_mark-next c.args.owned c.loop-cluster.cluster (extent.first + extent.count) owned c.loop-cluster-test.true ∙ c.loop-cluster.invariant.marked;
      same = length-set owned c.loop-cluster.cluster c.args.owned ∙ c.loop-cluster.invariant.same;
    }

pub returns-clause-marked : goal.returns-clause-marked
returns-clause-marked c =
    let extent = c.args.extent in
    let at = c.loop-cluster.cluster in
    let none : (extent.first + extent.count) - at ≡ 0 = omega arith in
    sym (ap (λ (n : ℕ). with_mark c.args.owned (numbers_from at n) c.loop-cluster.self-inside.owned.items) none) ∙ c.loop-cluster.invariant.marked

pub returns-clause-most : goal.returns-clause-most
returns-clause-most c = let size = ap (λ (l : List Bool). length l) c.self.view_is in omega (arith, c.self.invariant.most)
