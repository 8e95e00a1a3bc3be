use Rattle.std.proofs.Common.{⊎_elim, inl, inr, ◌∙◌, refl, arith}
use Rattle.tq_devtab.proofs.SpellingLemmas.{extents-more, no-extents}
use Rattle.tq_devtab.proofs.encoding.set_extents.Goals as goal

pub loop-i-init : goal.loop-i-init
loop-i-init c = record { spelt = no-extents c.args.at c.args.base.now; outside = λ i apart. refl }

pub loop-i-preserved : goal.loop-i-preserved
loop-i-preserved c = record {
  spelt =
      extents-more c.loop-i.i c.args.at c.args.extents.now c.loop-i.base c.set_extent.new.base (record { first = 0; count = 0 })
      (omega arith) c.loop-i-test.true
      c.loop-i.invariant.spelt c.set_extent.ensures.first c.set_extent.ensures.count c.set_extent.ensures.outside;
  outside = λ i apart.
      c.set_extent.ensures.outside i (⊎_elim (λ before. inl (omega arith)) (λ behind. inr (omega arith)) apart)
      ∙ c.loop-i.invariant.outside i (⊎_elim (λ before. inl before) (λ behind. inr (omega arith)) apart);
}
