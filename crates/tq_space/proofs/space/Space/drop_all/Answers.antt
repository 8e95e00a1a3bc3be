use Rattle.std.proofs.Common.{◌+◌, List, drop, sym, ap, ◌∙◌}
use Rattle.std.proofs.lemmas.List.{at_drop_more}
use Rattle.tq_types.specs.declared.identifiers.MsgId.{MsgId}
use Rattle.tq_model.specs.Moves.{IndexedSpace, purged_of}
use Rattle.tq_space.proofs.space.Space.drop_all.Goals as goal

pub loop-id-preserved : goal.loop-id-preserved
loop-id-preserved c =
    let ids = c.as_slice-id-items.result.now in
    let at = c.loop-id.id-index in
    let old = c.loop-id.self.held in
    let step = ap (λ (s : IndexedSpace). purged_of (drop (at + 1) ids) s) c.remove.ensures.held in (
      step ∙ sym (at_drop_more (λ (l : List MsgId). purged_of l old) ids at _ c.loop-id-test.true) ∙ c.loop-id.invariant.0,
      c.remove.ensures.ready ∙ c.loop-id.invariant.1,
    )
