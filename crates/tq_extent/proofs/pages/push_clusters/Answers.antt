use Rattle.std.proofs.Common.{◌∙◌, ◌+◌, ◌++◌, ◌∷◌, [], List, ℕ, ltb-true, sym, ap, arith, append_assoc}
use Rattle.std.specs.Prelude.{nat_lt}
use Rattle.std.proofs.lemmas.List.{append-nil}
use Rattle.tq_model.specs.Site.{most_clusters, numbers_from}
use Rattle.tq_extent.proofs.ExtentLemmas.{numbers_from-more}
use Rattle.tq_extent.proofs.ClusterLemmas.{all-at-number}
use Rattle.tq_extent.proofs.pages.push_clusters.Goals as goal

pub loop-at-preserved : goal.loop-at-preserved
loop-at-preserved c =
    let first = c.args.extent.first in
    let at = c.loop-at.at in
    let old = c.args.clusters.now.items in
    c.in_ok-push.ensures.items ∙ ap (λ (l : List ℕ). l ++ (first + at) ∷ []) c.loop-at.invariant ∙ append_assoc old (numbers_from first at) ((first + at) ∷ [])
    ∙ ap (λ (l : List ℕ). old ++ l) (sym (numbers_from-more first at []) ∙ append-nil (numbers_from first (at + 1)))

pub overflow_add-extent : goal.overflow_add-extent
overflow_add-extent c =
    let cluster = c.args.extent.first + c.loop-at.at in
    let below = ltb-true cluster most_clusters (all-at-number (λ k. nat_lt k most_clusters) c.args.extent.first c.args.extent.count cluster c.requires (omega arith) (omega arith)) in
    omega arith
