use Rattle.std.proofs.Common.{◌≡◌, ◌∙◌, ℕ, Bool, List, true, length, take, get_or, sym, ap, subst, arith}
use Rattle.std.specs.Prelude.{nat_lt}
use Rattle.std.specs.List.{list_all}
use Rattle.std.proofs.lemmas.List.{take_all}
use Rattle.tq_model.specs.declared.answer.Extent.{Extent}
use Rattle.tq_model.specs.Site.{numbers_from}
use Rattle.tq_extent.specs.Clusters.{clusters_of, with_mark}
use Rattle.tq_extent.proofs.ClusterLemmas.{all-at-extent, length-with_mark, with_mark-more}
use Rattle.tq_extent.proofs.clusters.ExtentList.mark.Goals as goal

pub mark_extent-requires : goal.mark_extent-requires
mark_extent-requires c =
    let old = c.args.self.now in
    let extents = c.args.extents.now in
    let at = c.loop-extent.extent-index in
    let none : Extent = record { first = 0; count = 0 } in
    let e = get_or extents at none in
    let size : length old ≡ length c.loop-extent.self =
    sym (ap (λ (l : List Bool). length l) c.loop-extent.invariant ∙ length-with_mark c.args.owned (clusters_of (take at extents)) old) in
    subst (λ (n : ℕ). list_all (λ cluster. nat_lt cluster n) (numbers_from e.first e.count) ≡ true) size
    (all-at-extent (λ cluster. nat_lt cluster (length old)) extents at none c.loop-extent-test.true c.requires)

pub loop-extent-preserved : goal.loop-extent-preserved
loop-extent-preserved c =
    let extents = c.args.extents.now in
    let at = c.loop-extent.extent-index in
    let none : Extent = record { first = 0; count = 0 } in
    let e = get_or extents at none in
    c.mark_extent.ensures.marked ∙ ap (λ (l : List Bool). with_mark c.args.owned (numbers_from e.first e.count) l) c.loop-extent.invariant
    ∙ sym (with_mark-more c.args.owned extents at none c.args.self.now c.loop-extent-test.true)

pub returns : goal.returns
returns c = c.loop-extent.invariant ∙ ap (λ (l : List Extent). with_mark c.args.owned (clusters_of l) c.args.self.now) (take_all c.loop-extent.extent-index c.args.extents.now (omega arith))
