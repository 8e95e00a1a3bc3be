use Rattle.std.proofs.Common.{◌++◌, ◌∷◌, [], ℕ, List, sym, ap, ◌∙◌, append_assoc}
use Rattle.std.proofs.lemmas.List.{append-nil}
use Rattle.tq_field.specs.Digits.{digits}
use Rattle.tq_moves.proofs.ByteLemmas.{zeros_more}
use Rattle.tq_moves.proofs.bytes.push_zeros.Goals as goal

pub loop-init : goal.loop-init
unfolding digits
loop-init c = sym (append-nil c.args.out.now.items)

pub loop-preserved : goal.loop-preserved
loop-preserved c =
    let before = c.args.out.now.items in
    c.in_ok-push.ensures.items ∙ ap (λ (front : List ℕ). front ++ 0 ∷ []) c.loop.invariant ∙ append_assoc before (digits c.loop.counter 0) (0 ∷ [])
    ∙ ap (λ (end : List ℕ). before ++ end) (zeros_more c.loop.counter)
