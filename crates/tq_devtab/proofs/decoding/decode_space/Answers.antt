use Rattle.std.proofs.Common.{◌≡◌, ◌∙◌, List, length, sym, ap, arith}
use Rattle.tq_model.specs.declared.answer.Extent.{Extent}
use Rattle.tq_model.specs.DeviceForm.{raw_entry, extents_at}
use Rattle.tq_devtab.proofs.TableReadLemmas.{length-extents_at}
use Rattle.tq_devtab.proofs.TableTestLemmas.{entry_judged}
use Rattle.tq_devtab.proofs.decoding.decode_space.Goals as goal

pub has_clusters-requires : goal.has_clusters-requires
has_clusters-requires c =
    let size : length c.as_slice.result.now ≡ c.extent_count.result =
    ap (λ (l : List Extent). length l) (c.as_slice.ensures ∙ c.in_ok-extents.ensures) ∙ length-extents_at c.extent_count.result c.args.extents c.args.base.now in
    omega arith

pub returns-then-not-has_clusters-clause-damaged : goal.returns-then-not-has_clusters-clause-damaged
returns-then-not-has_clusters-clause-damaged c =
    entry_judged c.args.limits.next c.args.limits.clusters c.args.limits.size (raw_entry c.args.at c.args.extents c.args.base.now)
    c.in-Some.name c.number-ordinal.result c.number-pages.result c.as_slice.result.now c.in-Some.ensures c.number-ordinal.ensures c.number-pages.ensures
    (c.as_slice.ensures ∙ c.in_ok-extents.ensures ∙ ap (λ n. extents_at n c.args.extents c.args.base.now) c.extent_count.ensures)
    (sym c.is_numbered.ensures ∙ c.if-not-is_numbered.false)
    ∙ sym c.has_clusters.ensures ∙ c.if-not-has_clusters.true

pub returns-clause-holds : goal.returns-clause-holds
returns-clause-holds c =
    entry_judged c.args.limits.next c.args.limits.clusters c.args.limits.size (raw_entry c.args.at c.args.extents c.args.base.now)
    c.in-Some.name c.number-ordinal.result c.number-pages.result c.as_slice.result.now c.in-Some.ensures c.number-ordinal.ensures c.number-pages.ensures
    (c.as_slice.ensures ∙ c.in_ok-extents.ensures ∙ ap (λ n. extents_at n c.args.extents c.args.base.now) c.extent_count.ensures)
    (sym c.is_numbered.ensures ∙ c.if-not-is_numbered.false)
    ∙ sym c.has_clusters.ensures ∙ c.if-not-has_clusters.false

pub returns-clause-count : goal.returns-clause-count
returns-clause-count c =
    ap (λ (l : List Extent). length l) c.in_ok-extents.ensures ∙ length-extents_at c.extent_count.result c.args.extents c.args.base.now ∙ c.extent_count.ensures
