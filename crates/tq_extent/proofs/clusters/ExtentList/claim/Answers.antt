use Rattle.std.proofs.Common.{◌≡◌, ◌∙◌, ◌+◌, ◌<◌, ◌≤◌, ℕ, Bool, List, true, false, length, take, get_or, sym, ap, subst, refl, arith}
use Rattle.std.specs.Prelude.{nat_lt}
use Rattle.std.specs.List.{list_all}
use Rattle.std.proofs.lemmas.Bool.{and_parts}
use Rattle.std.proofs.lemmas.List.{take_all}
use Rattle.tq_model.specs.declared.answer.Extent.{Extent}
use Rattle.tq_model.specs.Site.{numbers_from}
use Rattle.tq_extent.specs.Clusters.{is_free, free_in, clusters_of, are_distinct, can_claim, with_mark}
use Rattle.tq_extent.specs.Pages.{AreMappable}
use Rattle.tq_extent.proofs.ClusterLemmas.{all-free-within, length-with_mark, with_mark-more, with_mark-undone, claim-step, claim-failed}
use Rattle.tq_extent.proofs.PageLemmas.{free_apart}
use Rattle.tq_extent.proofs.CountLemmas.{length-free_in, claimed_mappable}
use Rattle.tq_extent.proofs.OwnerLemmas.{free_shares_none}
use Rattle.tq_extent.proofs.clusters.ExtentList.claim.Goals as goal

-- what was claimed so far was free
claimed_free : (clusters : List ℕ) (owned : List Bool) → can_claim clusters owned ≡ true → list_all (λ k. is_free k owned) clusters ≡ true
claimed_free clusters owned claimed = (and_parts (list_all (λ k. is_free k owned) clusters) (are_distinct clusters) claimed).0

pub mark-requires : goal.mark-requires
mark-requires c =
    let old = c.args.self.now in
    let clusters = clusters_of (take c.loop-at.at c.args.extents.now) in
    let size : length old ≡ length c.loop-at.self = sym (ap (λ (l : List Bool). length l) c.loop-at.invariant.marked ∙ length-with_mark true clusters old) in
    subst (λ (n : ℕ). list_all (λ cluster. nat_lt cluster n) clusters ≡ true) size (all-free-within clusters old (claimed_free clusters old c.loop-at.invariant.claimed))

-- the next extent is free as it was found
next_claimed : (extents : List Extent) (at : ℕ) (old now : List Bool) (b : Bool) → at < length extents → now ≡ with_mark true (clusters_of (take at extents)) old → can_claim (clusters_of (take at extents)) old ≡ true
    → b ≡ list_all (λ k. is_free k now) (numbers_from (get_or extents at (record { first = 0; count = 0 })).first (get_or extents at (record { first = 0; count = 0 })).count)
    → can_claim (clusters_of (take (at + 1) extents)) old ≡ b
next_claimed extents at old now b lt marked claimed found =
    let none : Extent = record { first = 0; count = 0 } in
    let e = get_or extents at none in
    claim-step extents at none old lt claimed ∙ ap (λ (l : List Bool). list_all (λ k. is_free k l) (numbers_from e.first e.count)) (sym marked) ∙ sym found

pub returns-then-not-are_free-clause-not_free : goal.returns-then-not-are_free-clause-not_free
returns-then-not-are_free-clause-not_free c =
    claim-failed c.args.extents.now (c.loop-at.at + 1) c.args.self.now
    (next_claimed c.args.extents.now c.loop-at.at c.args.self.now c.loop-at.self c.are_free.result c.loop-at-test.true c.loop-at.invariant.marked c.loop-at.invariant.claimed c.are_free.ensures
    ∙ c.if-not-are_free.true)

pub returns-then-not-are_free-clause-unchanged : goal.returns-then-not-are_free-clause-unchanged
returns-then-not-are_free-clause-unchanged c =
    let clusters = clusters_of (take c.loop-at.at c.args.extents.now) in
    c.mark.ensures ∙ ap (λ (l : List Bool). with_mark false clusters l) c.loop-at.invariant.marked
    ∙ with_mark-undone clusters c.args.self.now (claimed_free clusters c.args.self.now c.loop-at.invariant.claimed)

pub mark_extent-requires : goal.mark_extent-requires
mark_extent-requires c =
    let e = get_or c.args.extents.now c.loop-at.at (record { first = 0; count = 0 }) in
    all-free-within (numbers_from e.first e.count) c.loop-at.self (sym c.are_free.ensures ∙ c.if-not-are_free.false)

pub loop-at-init : goal.loop-at-init
loop-at-init c = record { marked = refl; claimed = refl; mappable = record { within = refl; few = omega arith; distinct = refl } }

pub loop-at-preserved : goal.loop-at-preserved
loop-at-preserved c =
    let extents = c.args.extents.now in
    let old = c.args.self.now in
    let none : Extent = record { first = 0; count = 0 } in
    let e = get_or extents c.loop-at.at none in
    let size : length c.loop-at.self ≡ length old = ap (λ (l : List Bool). length l) c.loop-at.invariant.marked ∙ length-with_mark true (clusters_of (take c.loop-at.at extents)) old in
    let claimed =
    next_claimed extents c.loop-at.at old c.loop-at.self c.are_free.result c.loop-at-test.true c.loop-at.invariant.marked c.loop-at.invariant.claimed c.are_free.ensures
    ∙ c.if-not-are_free.false in
    record {
      marked =
          c.mark_extent.ensures.marked ∙ ap (λ (l : List Bool). with_mark true (numbers_from e.first e.count) l) c.loop-at.invariant.marked
          ∙ sym (with_mark-more true extents c.loop-at.at none old c.loop-at-test.true);
      claimed = claimed;
      mappable = claimed_mappable (take (c.loop-at.at + 1) extents) old (omega (arith, size, c.mark_extent.ensures.most)) claimed;
    }

-- all extents are claimed at the end
all_claimed : (extents : List Extent) (at : ℕ) (owned : List Bool) → length extents ≤ at → can_claim (clusters_of (take at extents)) owned ≡ true → can_claim (clusters_of extents) owned ≡ true
all_claimed extents at owned le claimed = ap (λ (l : List Extent). can_claim (clusters_of l) owned) (sym (take_all at extents le)) ∙ claimed

pub returns-clause-apart : goal.returns-clause-apart
returns-clause-apart c = λ others none.
    let clusters = clusters_of c.args.extents.now in
    let claimed = all_claimed c.args.extents.now c.loop-at.at c.args.self.now c.loop-at-test.false c.loop-at.invariant.claimed in
    free_apart clusters others c.args.self.now (claimed_free clusters c.args.self.now claimed) none

pub returns-clause-shares_none : goal.returns-clause-shares_none
returns-clause-shares_none c = λ others none.
    let extents = c.args.extents.now in
    let claimed = all_claimed extents c.loop-at.at c.args.self.now c.loop-at-test.false c.loop-at.invariant.claimed in
    free_shares_none (clusters_of extents) others c.args.self.now (claimed_free (clusters_of extents) c.args.self.now claimed) none

pub returns-clause-mappable : goal.returns-clause-mappable
returns-clause-mappable c = subst AreMappable (take_all c.loop-at.at c.args.extents.now c.loop-at-test.false) c.loop-at.invariant.mappable

pub returns-clause-left : goal.returns-clause-left
returns-clause-left c =
    let extents = c.args.extents.now in
    let old = c.args.self.now in
    ap (λ (l : List Bool). length (clusters_of extents) + length (free_in l))
    (c.loop-at.invariant.marked ∙ ap (λ (l : List Extent). with_mark true (clusters_of l) old) (take_all c.loop-at.at extents c.loop-at-test.false))
    ∙ length-free_in (clusters_of extents) old (all_claimed extents c.loop-at.at old c.loop-at-test.false c.loop-at.invariant.claimed)
