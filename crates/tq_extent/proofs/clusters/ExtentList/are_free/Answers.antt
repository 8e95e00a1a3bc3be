use Rattle.std.proofs.Common.{◌≡◌, ◌∙◌, ◌+◌, ◌-◌, ℕ, sym, ap, arith}
use Rattle.std.specs.List.{list_all}
use Rattle.tq_model.specs.Site.{numbers_from}
use Rattle.tq_extent.specs.Clusters.{is_free}
use Rattle.tq_extent.proofs.ClusterLemmas.{all-passed, all-failed}
use Rattle.tq_extent.proofs.clusters.ExtentList.are_free.Goals as goal

pub loop-cluster-init : goal.loop-cluster-init
loop-cluster-init c =
    let size : (c.from-first.result + c.from.result) - c.from-first.result ≡ c.args.extent.count = omega (arith, c.from.ensures) in
    λ i. list_all (λ cluster. is_free cluster c.args.self.now) (numbers_from (c.from-first.ensures i) (size i))

pub loop-cluster-preserved : goal.loop-cluster-preserved
loop-cluster-preserved c =
    all-passed (λ cluster. is_free cluster c.args.self.now) c.loop-cluster.cluster (c.from-first.result + c.from.result) c.loop-cluster-test.true (sym c.is_free.ensures ∙ c.if-not-is_free.false)
    ∙ c.loop-cluster.invariant

pub returns-then-not-is_free : goal.returns-then-not-is_free
returns-then-not-is_free c =
    sym (all-failed (λ cluster. is_free cluster c.args.self.now) c.loop-cluster.cluster (c.from-first.result + c.from.result) c.loop-cluster-test.true (sym c.is_free.ensures ∙ c.if-not-is_free.true))
    ∙ c.loop-cluster.invariant

pub returns : goal.returns
returns c =
    let at = c.loop-cluster.cluster in
    let none : (c.from-first.result + c.from.result) - at ≡ 0 = omega arith in
    sym (ap (λ (n : ℕ). list_all (λ cluster. is_free cluster c.args.self.now) (numbers_from at n)) none) ∙ c.loop-cluster.invariant
