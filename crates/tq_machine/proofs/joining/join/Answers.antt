use Rattle.std.proofs.Common.{◌≡◌, ◌∙◌, ◌<◌, ◌+◌, ◌++◌, ◌∷◌, List, ℕ, ap, sym, arith, append_assoc}
use Rattle.tq_model.specs.declared.answer.Extent.{Extent}
use Rattle.tq_model.specs.Site.{numbers_from, as_extents}
use Rattle.tq_machine.proofs.Extents.{numbers_from-more, as_extents-apart}
use Rattle.tq_machine.proofs.joining.join.Goals as goal
use Rattle.tq_machine.proofs.joining.join.Goals.{else-run-gt0-via-then-run-gt0+else-run-cluster, else-run-gt0-via-else-run-gt0}

pub returns-then-run-cluster-clause-joined : goal.returns-then-run-cluster-clause-joined
returns-then-run-cluster-clause-joined c = λ rest.
    let run = c.args.run.now in
    ap (λ (l : List ℕ). c.args.extents.now ++ as_extents l)
    (numbers_from-more run.first run.count rest ∙ ap (λ k. numbers_from run.first run.count ++ k ∷ rest) c.if-run-cluster.true)

pub returns-clause-joined : goal.returns-clause-joined
returns-clause-joined c = λ rest.
    let run = c.args.run.now in
    let apart : 0 < run.count → run.first + run.count ≡ c.args.cluster → ⊥ = elim c.else-run-gt0.branch [
      | else-run-gt0-via-then-run-gt0+else-run-cluster w ↦ λ some. w.if-run-cluster.false
      | else-run-gt0-via-else-run-gt0 w ↦ λ some. absurd (omega arith)
    ] in
    ap (λ (l : List Extent). l ++ as_extents (c.args.cluster ∷ rest)) c.in_ok-close.ensures
    ∙ append_assoc c.args.extents.now (as_extents (numbers_from run.first run.count)) (as_extents (c.args.cluster ∷ rest))
    ∙ ap (λ (l : List Extent). c.args.extents.now ++ l) (sym (as_extents-apart run.first run.count c.args.cluster rest apart))
