use Rattle.std.proofs.Common.{◌≡◌, ◌+◌, ◌-◌, ◌++◌, ℕ, Bool, true, false, List, length, set, replicate, ap, ◌∙◌, arith}
use Rattle.tq_pages.proofs.FreeLemmas.{give_step}
use Rattle.tq_pages.proofs.free.FreePages.add_free.Goals as goal

pub loop-left-preserved : goal.loop-left-preserved
loop-left-preserved c =
    let left = c.loop-left.left in
    let pages = c.args.pages in
    let old = c.args.self.now in
    let size = ap (λ (l : List Bool). length l) c.self.view_is in
    let at : c.len-first.result + (left - 1) ≡ length old + (left - 1) = omega (arith, c.len-first.ensures) in
    record {
      left = omega arith;
      free = c.give.ensures.pages ∙ ap (λ (l : List Bool). set l (c.len-first.result + (left - 1)) true) c.loop-left.invariant.free
          ∙ ap (λ (k : ℕ). set (old ++ (replicate left false ++ replicate (pages - left) true)) k true) at ∙ give_step old left pages (omega arith) c.loop-left.invariant.left;
    }
