use Rattle.std.proofs.Common.{◌≡◌, ◌∙◌, ◌+◌, List, Option, Bool, true, false, drop, sym, ap}
use Rattle.tq_model.specs.declared.answer.Extent.{Extent}
use Rattle.tq_extent.specs.Clusters.{clusters_of, can_claim, with_mark}
use Rattle.tq_devtab.specs.declared.entry.TableEntry.{TableEntry}
use Rattle.tq_devtab.proofs.SpaceLemmas.{known_err, known_ok, next-space, clusters_in, claim-more, claim-broken, mark-more}
use Rattle.tq_devtab.proofs.spaces.claim.Goals as goal

pub returns-then-is_err-clause-not_free : goal.returns-then-is_err-clause-not_free
returns-then-is_err-clause-not_free c =
    let entries = c.args.entries.now in
    let i = c.loop-entry.entry-index in
    let owned = c.loop-entry.owned in
    let e = c.in-Some.space in
    let failed = sym c.is_err.ensures.value ∙ c.if-is_err.true in
    let taken = known_err c.claim.result (can_claim (clusters_of c.as_slice.result.now) owned ≡ false) failed c.claim.ensures.not_free in
    let next = next-space entries i c.entry-item.result e c.loop-entry-test.true c.entry-item.is c.in-Some.is in
    sym c.loop-entry.invariant.claimed
    ∙ ap (λ (l : List (Option TableEntry)). can_claim (clusters_in l) owned) next
    ∙ claim-broken e (drop (i + 1) entries) owned (ap (λ (l : List Extent). can_claim (clusters_of l) owned) (sym c.as_slice.ensures) ∙ taken)

pub loop-entry-preserved : goal.loop-entry-preserved
loop-entry-preserved c =
    let entries = c.args.entries.now in
    let i = c.loop-entry.entry-index in
    let owned = c.loop-entry.owned in
    let e = c.in-Some.space in
    let passed = sym c.is_err.ensures.value ∙ c.if-is_err.false in
    let free = known_ok c.claim.result (can_claim (clusters_of c.as_slice.result.now) owned ≡ true) passed c.claim.ensures.free in
    let marked = known_ok c.claim.result (c.claim.new.self ≡ with_mark true (clusters_of c.as_slice.result.now) owned) passed c.claim.ensures.ok in
    let now : c.claim.new.self ≡ with_mark true (clusters_of e.extents) owned =
    marked ∙ ap (λ (l : List Extent). with_mark true (clusters_of l) owned) c.as_slice.ensures in
    let next = next-space entries i c.entry-item.result e c.loop-entry-test.true c.entry-item.is c.in-Some.is in
    record {
      claimed =
          ap (λ (l : List Bool). can_claim (clusters_in (drop (i + 1) entries)) l) now
          ∙ sym (claim-more e (drop (i + 1) entries) owned (ap (λ (l : List Extent). can_claim (clusters_of l) owned) (sym c.as_slice.ensures) ∙ free))
          ∙ sym (ap (λ (l : List (Option TableEntry)). can_claim (clusters_in l) owned) next) ∙ c.loop-entry.invariant.claimed;
      owned =
          ap (λ (l : List Bool). with_mark true (clusters_in (drop (i + 1) entries)) l) now ∙ sym (mark-more e (drop (i + 1) entries) owned)
          ∙ sym (ap (λ (l : List (Option TableEntry)). with_mark true (clusters_in l) owned) next) ∙ c.loop-entry.invariant.owned;
    }
