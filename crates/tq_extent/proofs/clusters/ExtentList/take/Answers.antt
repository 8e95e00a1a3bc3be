use Rattle.std.proofs.Common.{◌≡◌, ◌∙◌, ◌+◌, ℕ, Bool, List, true, length, take, ap}
use Rattle.std.specs.List.{list_all}
use Rattle.std.proofs.lemmas.Bool.{and_from}
use Rattle.tq_model.specs.declared.answer.Extent.{Extent}
use Rattle.tq_model.specs.Site.{as_extents}
use Rattle.tq_extent.specs.Clusters.{is_free, free_in, clusters_of, are_distinct, can_claim, with_mark}
use Rattle.tq_extent.proofs.ExtentLemmas.{clusters_of-as_extents}
use Rattle.tq_extent.proofs.ClusterLemmas.{all-free-within, lowest-free, lowest-distinct, lowest_free-is}
use Rattle.tq_extent.proofs.PageLemmas.{free_apart}
use Rattle.tq_extent.proofs.CountLemmas.{length-free_in, claimed_mappable}
use Rattle.tq_extent.proofs.OwnerLemmas.{free_shares_none}
use Rattle.tq_extent.proofs.clusters.ExtentList.take.Goals as goal

-- the clusters of the lowest free extents
lowest_clusters : (extents : List Extent) (n : ℕ) (owned : List Bool) → extents ≡ as_extents (take n (free_in owned)) → clusters_of extents ≡ take n (free_in owned)
lowest_clusters extents n owned is = ap clusters_of is ∙ clusters_of-as_extents (take n (free_in owned))

lowest_all_free : (extents : List Extent) (n : ℕ) (owned : List Bool) → extents ≡ as_extents (take n (free_in owned)) → list_all (λ k. is_free k owned) (clusters_of extents) ≡ true
lowest_all_free extents n owned is = ap (list_all (λ k. is_free k owned)) (lowest_clusters extents n owned is) ∙ lowest-free n owned

-- they may be claimed
lowest_claimed : (extents : List Extent) (n : ℕ) (owned : List Bool) → extents ≡ as_extents (take n (free_in owned)) → can_claim (clusters_of extents) owned ≡ true
lowest_claimed extents n owned is =
    and_from (list_all (λ k. is_free k owned) (clusters_of extents)) (are_distinct (clusters_of extents)) (lowest_all_free extents n owned is)
    (ap are_distinct (lowest_clusters extents n owned is) ∙ lowest-distinct n owned)

pub mark-requires : goal.mark-requires
mark-requires c =
    let old = c.args.self.now in
    all-free-within (clusters_of c.as_slice.result.now) old (lowest_all_free c.as_slice.result.now c.args.n old (c.as_slice.ensures ∙ c.in_ok-extents.ensures))

pub returns-clause-clusters : goal.returns-clause-clusters
returns-clause-clusters c = lowest_clusters c.in_ok-extents.extents c.args.n c.args.self.now c.in_ok-extents.ensures

pub returns-clause-lowest : goal.returns-clause-lowest
returns-clause-lowest c = λ v is. c.in_ok-extents.ensures ∙ ap as_extents (lowest_free-is c.args.n v c.args.self.now is)

pub returns-clause-apart : goal.returns-clause-apart
returns-clause-apart c = λ others none.
    let extents = c.in_ok-extents.extents in
    let old = c.args.self.now in
    free_apart (clusters_of extents) others old (lowest_all_free extents c.args.n old c.in_ok-extents.ensures) none

pub returns-clause-shares_none : goal.returns-clause-shares_none
returns-clause-shares_none c = λ others none.
    let extents = c.in_ok-extents.extents in
    let old = c.args.self.now in
    free_shares_none (clusters_of extents) others old (lowest_all_free extents c.args.n old c.in_ok-extents.ensures) none

pub returns-clause-mappable : goal.returns-clause-mappable
returns-clause-mappable c =
    claimed_mappable c.in_ok-extents.extents c.args.self.now c.free-free.ensures.within.1 (lowest_claimed c.in_ok-extents.extents c.args.n c.args.self.now c.in_ok-extents.ensures)

pub returns-clause-left : goal.returns-clause-left
returns-clause-left c =
    let extents = c.in_ok-extents.extents in
    let old = c.args.self.now in
    ap (λ (l : List Bool). length (clusters_of extents) + length (free_in l)) (c.mark.ensures ∙ ap (λ (l : List Extent). with_mark true (clusters_of l) old) c.as_slice.ensures)
    ∙ length-free_in (clusters_of extents) old (lowest_claimed extents c.args.n old c.in_ok-extents.ensures)
