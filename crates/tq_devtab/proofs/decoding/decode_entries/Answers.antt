use Rattle.std.proofs.Common.{◌∙◌, ◌+◌, ◌*◌, List, Some, None, length, ap}
use Rattle.tq_model.specs.declared.answer.Extent.{Extent}
use Rattle.tq_devtab.specs.Table.{entry_view, entries_view}
use Rattle.tq_devtab.proofs.DecodedEntryLemmas.{entry-used, extents-fit, read-unused, read-used, read-broken, all-hold, all-named, view-more}
use Rattle.tq_devtab.proofs.decoding.decode_entries.Goals.{then-base-at-eq0+in_ok-push, else-base-at-eq0+in_ok-space+in-Some+in_ok-push-2}
use Rattle.tq_devtab.proofs.decoding.decode_entries.Goals as goal

pub decode_space-requires-clause-used : goal.decode_space-requires-clause-used
decode_space-requires-clause-used c = entry-used c.loop-index.invariant c.loop-index-test.true c.if-base-at-eq0.false

pub decode_space-requires-clause-extents : goal.decode_space-requires-clause-extents
decode_space-requires-clause-extents c = extents-fit c.loop-index.invariant c.loop-index-test.true

pub returns-in_default-clause-damaged : goal.returns-in_default-clause-damaged
returns-in_default-clause-damaged c =
    let damaged = rw c.in_default.is at c.in_ok-space.ensures.damaged in
    read-broken c.loop-index.invariant c.loop-index-test.true c.if-base-at-eq0.false damaged

pub loop-index-preserved : goal.loop-index-preserved
loop-index-preserved c =
    let read = c.loop-index.entries.items in
    let end = c.if-base-at-eq0.extents in
    let now = entries_view c.if-base-at-eq0.entries.items in
    elim c.if-base-at-eq0.branch [
      | then-base-at-eq0+in_ok-push w ↦
          read-unused end now c.loop-index.invariant c.loop-index-test.true w.if-base-at-eq0.true w.extents-is
          ((λ j. entries_view (w.entries-is j).items) ∙ ap entries_view w.in_ok-push.ensures.items ∙ view-more read None)
      | else-base-at-eq0+in_ok-space+in-Some+in_ok-push-2 w ↦
          let holds = rw w.in-Some.is at w.in_ok-space.ensures.holds in
          let space = rw w.in-Some.is at w.in_ok-space.ensures.space in
          let count = rw w.in-Some.is at w.in_ok-space.ensures.count in
          read-used end now (entry_view w.in-Some.space) c.loop-index.invariant c.loop-index-test.true w.if-base-at-eq0.false
          (w.extents-is ∙ ap (λ n. c.loop-index.extents + 4 * n) (ap (λ (l : List Extent). length l) w.as_slice.ensures ∙ count))
          ((λ j. entries_view (w.entries-is j).items) ∙ ap entries_view w.in_ok-push-2.ensures.items ∙ view-more read (Some w.in-Some.space))
          space holds
    ]

pub returns-clause-holds : goal.returns-clause-holds
returns-clause-holds c = all-hold c.loop-index.invariant c.loop-index-test.false

pub returns-clause-entries : goal.returns-clause-entries
returns-clause-entries c = all-named c.loop-index.invariant c.loop-index-test.false
