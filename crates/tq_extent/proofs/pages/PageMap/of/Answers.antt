use Rattle.std.proofs.Common.{◌≡◌, ◌∙◌, ◌≤◌, ◌++◌, List, ℕ, length, take, get_or, sym, ap, subst}
use Rattle.std.specs.Prelude.{nat_lt}
use Rattle.std.proofs.lemmas.List.{take_all}
use Rattle.tq_model.specs.declared.answer.Extent.{Extent}
use Rattle.tq_model.specs.Site.{most_clusters, numbers_from}
use Rattle.tq_extent.specs.Clusters.{clusters_of}
use Rattle.tq_extent.specs.Pages.{HasPages}
use Rattle.tq_extent.proofs.ClusterLemmas.{all-at-extent, clusters_of-more}
use Rattle.tq_extent.proofs.pages.PageMap.of.Goals as goal

pub push_clusters-requires : goal.push_clusters-requires
push_clusters-requires c =
    all-at-extent (λ cluster. nat_lt cluster most_clusters) c.args.extents.now c.loop-extent.extent-index (record { first = 0; count = 0 }) c.loop-extent-test.true c.requires.within

pub loop-extent-preserved : goal.loop-extent-preserved
loop-extent-preserved c =
    let none : Extent = record { first = 0; count = 0 } in
    let e = get_or c.args.extents.now c.loop-extent.extent-index none in
    c.in_ok-push_clusters.ensures ∙ ap (λ (l : List ℕ). l ++ numbers_from e.first e.count) c.loop-extent.invariant
    ∙ sym (clusters_of-more c.args.extents.now c.loop-extent.extent-index none c.loop-extent-test.true)

all_clusters : (extents : List Extent) (i : ℕ) (clusters : List ℕ) → length extents ≤ i → clusters ≡ clusters_of (take i extents) → clusters ≡ clusters_of extents
all_clusters extents i clusters le is = is ∙ ap clusters_of (take_all i extents le)

pub invariant_of-result : goal.invariant_of-result
invariant_of-result c =
    let pages : HasPages (clusters_of c.args.extents.now) = record { within = c.requires.within; few = c.requires.few; distinct = c.requires.distinct } in
    subst HasPages (sym (all_clusters c.args.extents.now c.loop-extent.extent-index c.loop-extent.clusters.items c.loop-extent-test.false c.loop-extent.invariant)) pages

pub returns : goal.returns
returns c = all_clusters c.args.extents.now c.loop-extent.extent-index c.loop-extent.clusters.items c.loop-extent-test.false c.loop-extent.invariant
