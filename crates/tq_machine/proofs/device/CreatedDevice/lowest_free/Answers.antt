use Rattle.std.proofs.Common.{◌≡◌, ◌<◌, ◌∙◌, ◌+◌, ◌-◌, ◌++◌, ℕ, List, false, take, sym, ap, arith}
use Rattle.std.proofs.lemmas.List.{append-nil}
use Rattle.tq_model.specs.declared.answer.Extent.{Extent}
use Rattle.tq_model.specs.Site.{Volume, numbers_from, as_extents, is_taken}
use Rattle.tq_machine.specs.Tables.{free_from}
use Rattle.tq_machine.proofs.Extents.{take-free, take-taken, take-none, take-end}
use Rattle.tq_machine.proofs.device.CreatedDevice.lowest_free.Goals as goal
use Rattle.tq_machine.proofs.device.CreatedDevice.lowest_free.Goals.{then-left-gt0+then-not-is_taken+in_ok-join, else-left-gt0, else-left-gt0-via-then-left-gt0+else-not-is_taken, else-left-gt0-via-else-left-gt0}

pub loop-cluster-preserved : goal.loop-cluster-preserved
loop-cluster-preserved c =
    let v = c.args.self.now in
    let at = c.loop-cluster.cluster in
    let left = c.loop-cluster.left in
    let run = c.loop-cluster.run in
    let size = ap (λ (w : Volume). w.clusters) c.self.view_is in
    let within : at < v.clusters = omega arith in
    let to_come : List ℕ → List Extent = λ rest. c.loop-cluster.extents ++ as_extents (numbers_from run.first run.count ++ rest) in
    elim c.if-left-gt0.branch [
      | then-left-gt0+then-not-is_taken+in_ok-join w ↦
          let free : is_taken v at ≡ false = sym w.is_taken.ensures ∙ w.if-not-is_taken.true in
          let ends = w.in_ok-join.ensures.ends in
          let end = ap (λ (e : Extent). e.first + e.count) w.run-is in
          record {
            joined =
                (λ i. w.extents-is i ++ as_extents (numbers_from (w.run-is i).first (w.run-is i).count ++ take (w.left-is i) (free_from (at + 1) v)))
                ∙ w.in_ok-join.ensures.joined (take (left - 1) (free_from (at + 1) v))
                ∙ ap to_come (sym (take-free left at v w.if-left-gt0.true within free)) ∙ c.loop-cluster.invariant.joined;
            before = omega (arith, ends, end);
          }
      | else-left-gt0 w ↦
          let same : take left (free_from at v) ≡ take left (free_from (at + 1) v) = elim w.else-left-gt0.branch [
            | else-left-gt0-via-then-left-gt0+else-not-is_taken u ↦ take-taken left at v within (sym u.is_taken.ensures ∙ u.if-not-is_taken.false)
            | else-left-gt0-via-else-left-gt0 u ↦ take-none left (free_from at v) (free_from (at + 1) v) u.if-left-gt0.false
          ] in
          let end = ap (λ (e : Extent). e.first + e.count) w.run-is in
          record {
            joined =
                (λ i. w.extents-is i ++ as_extents (numbers_from (w.run-is i).first (w.run-is i).count ++ take (w.left-is i) (free_from (at + 1) v)))
                ∙ ap to_come (sym same) ∙ c.loop-cluster.invariant.joined;
            before = omega (arith, end, c.loop-cluster.invariant.before);
          }
    ]

pub returns : goal.returns
returns c =
    let v = c.args.self.now in
    let run = c.loop-cluster.run in
    let numbers = numbers_from run.first run.count in
    let size = ap (λ (w : Volume). w.clusters) c.self.view_is in
    let none = take-end c.loop-cluster.left c.loop-cluster.cluster v (omega arith) in
    c.in_ok-close.ensures
    ∙ ap (λ (l : List ℕ). c.loop-cluster.extents ++ as_extents l) (sym (ap (λ (l : List ℕ). numbers ++ l) none ∙ append-nil numbers))
    ∙ c.loop-cluster.invariant.joined
