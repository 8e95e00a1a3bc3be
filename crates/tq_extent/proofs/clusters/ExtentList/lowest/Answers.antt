use Rattle.std.proofs.Common.{◌≡◌, ◌∙◌, ◌<◌, ◌+◌, ◌-◌, ◌++◌, ℕ, List, true, length, take, sym, ap, arith}
use Rattle.std.proofs.lemmas.List.{append-nil}
use Rattle.tq_model.specs.declared.answer.Extent.{Extent}
use Rattle.tq_model.specs.Site.{numbers_from, as_extents}
use Rattle.tq_extent.specs.Clusters.{is_free, free_from}
use Rattle.tq_extent.proofs.ClusterLemmas.{take-free, take-not, take-none, take-end}
use Rattle.tq_extent.proofs.clusters.ExtentList.lowest.Goals as goal
use Rattle.tq_extent.proofs.clusters.ExtentList.lowest.Goals.{then-left-gt0+then-is_free+in_ok-join, else-left-gt0, else-left-gt0-via-then-left-gt0+else-is_free, else-left-gt0-via-else-left-gt0}

pub loop-cluster-preserved : goal.loop-cluster-preserved
loop-cluster-preserved c =
    let owned = c.args.self.now in
    let at = c.loop-cluster.cluster in
    let left = c.loop-cluster.left in
    let run = c.loop-cluster.run in
    let within : at < length owned = omega (arith, c.clusters-cluster-end.ensures.all) in
    let to_come : List ℕ → List Extent = λ rest. c.loop-cluster.extents ++ as_extents (numbers_from run.first run.count ++ rest) in
    elim c.if-left-gt0.branch [
      | then-left-gt0+then-is_free+in_ok-join w ↦
          let free : is_free at owned ≡ true = sym (w.is_free.ensures ∙ ap (λ k. is_free k owned) w.into.ensures) ∙ w.if-is_free.true in
          let ends = w.in_ok-join.ensures.ends in
          let end = ap (λ (e : Extent). e.first + e.count) w.run-is in
          record {
            joined =
                (λ i. w.extents-is i ++ as_extents (numbers_from (w.run-is i).first (w.run-is i).count ++ take (w.left-is i) (free_from (at + 1) owned)))
                ∙ w.in_ok-join.ensures.joined (take (left - 1) (free_from (at + 1) owned))
                ∙ ap to_come (sym (take-free left at owned w.if-left-gt0.true within free)) ∙ c.loop-cluster.invariant.joined;
            before = omega (arith, ends, end);
          }
      | else-left-gt0 w ↦
          let same : take left (free_from at owned) ≡ take left (free_from (at + 1) owned) = elim w.else-left-gt0.branch [
            | else-left-gt0-via-then-left-gt0+else-is_free v ↦ take-not left at owned within (sym (v.is_free.ensures ∙ ap (λ k. is_free k owned) v.into.ensures) ∙ v.if-is_free.false)
            | else-left-gt0-via-else-left-gt0 v ↦ take-none left (free_from at owned) (free_from (at + 1) owned) v.if-left-gt0.false
          ] in
          let end = ap (λ (e : Extent). e.first + e.count) w.run-is in
          record {
            joined =
                (λ i. w.extents-is i ++ as_extents (numbers_from (w.run-is i).first (w.run-is i).count ++ take (w.left-is i) (free_from (at + 1) owned)))
                ∙ ap to_come (sym same) ∙ c.loop-cluster.invariant.joined;
            before = omega (arith, end, c.loop-cluster.invariant.before);
          }
    ]

pub returns : goal.returns
returns c =
    let run = c.loop-cluster.run in
    let numbers = numbers_from run.first run.count in
    let none = take-end c.loop-cluster.left c.loop-cluster.cluster c.args.self.now (omega (arith, c.clusters-cluster-end.ensures.all)) in
    c.in_ok-close.ensures
    ∙ ap (λ (l : List ℕ). c.loop-cluster.extents ++ as_extents l) (sym (ap (λ (l : List ℕ). numbers ++ l) none ∙ append-nil numbers))
    ∙ c.loop-cluster.invariant.joined
