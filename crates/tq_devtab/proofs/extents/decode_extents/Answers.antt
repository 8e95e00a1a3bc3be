use Rattle.std.proofs.Common.{◌∙◌, ◌+◌, ◌-◌, ◌*◌, ◌++◌, List, sym, ap}
use Rattle.tq_model.specs.declared.answer.Extent.{Extent}
use Rattle.tq_model.specs.DeviceForm.{extents_at}
use Rattle.tq_devtab.proofs.TableReadLemmas.{extents_at-more, extents_at-all}
use Rattle.tq_devtab.proofs.extents.decode_extents.Goals as goal

pub loop-index-preserved : goal.loop-index-preserved
loop-index-preserved c =
    let n = c.args.count in
    let i = c.loop-index.index in
    let start = c.args.start in
    let base = c.args.base.now in
    ap (λ (l : List Extent). l ++ extents_at (n - (i + 1)) (start + 4 * (i + 1)) base) c.in_ok-push.ensures.ok
    ∙ extents_at-more n i start c.into.result c.into-in-loop-index.result base c.loop-index.extents c.loop-index-test.true
    (c.into.ensures ∙ c.short.ensures) (c.into-in-loop-index.ensures ∙ c.short-in-loop-index.ensures)
    ∙ c.loop-index.invariant

pub returns : goal.returns
returns c =
    sym (extents_at-all c.args.count c.loop-index.index c.args.start c.args.base.now c.loop-index.extents c.loop-index-test.false) ∙ c.loop-index.invariant
