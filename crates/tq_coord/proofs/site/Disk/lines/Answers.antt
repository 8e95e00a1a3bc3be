use Rattle.std.proofs.Common.{◌∙◌, ◌++◌, ◌∷◌, [], List, Option, None, sym, ap, get_or, map, arith}
use Rattle.std.specs.Prelude.{option_map, option_to_list}
use Rattle.std.proofs.lemmas.List.{append-nil, get_or_default, take_all}
use Rattle.tq_model.specs.declared.answer.SpaceLine.{SpaceLine}
use Rattle.tq_model.specs.Site.{SpaceOnDevice, present}
use Rattle.tq_model.specs.Step.{space_line}
use Rattle.tq_devtab.specs.Table.{entry_view}
use Rattle.tq_coord.specs.Manager.{placed_in, files_of, volume_in}
use Rattle.tq_coord.proofs.PlacedLemmas.{lines-on, all-placed-long}
use Rattle.tq_coord.proofs.site.Disk.lines.Goals as goal

pub loop-index-preserved-in_default : goal.loop-index-preserved-in_default
loop-index-preserved-in_default c =
    let d = c.args.self.now in
    let lines = c.loop-index.lines in
    let i = c.loop-index.index in
    let f = get_or (files_of d) i None in
    sym
    (lines-on d lines i c.entries.result.now c.index-entries-index.result f c.entries.ensures c.loop-index-test.true c.index-entries-index.is
    (get_or_default (files_of d) i None f (omega (arith, d.fit.count, c.loop-index-test.true))) c.loop-index.invariant
    ∙ (λ k. lines ++ map space_line (option_to_list (placed_in (option_map entry_view (c.in_default.is k)) f))) ∙ append-nil lines)

pub loop-index-preserved : goal.loop-index-preserved
loop-index-preserved c =
    let d = c.args.self.now in
    let lines = c.loop-index.lines in
    c.in_ok-push.ensures.ok ∙ ap (λ (l : SpaceLine). lines ++ l ∷ []) c.in_ok-line_of.ensures
    ∙ sym
    (lines-on d lines c.loop-index.index c.entries.result.now c.index-entries-index.result c.index.result.now c.entries.ensures c.loop-index-test.true c.index-entries-index.is
    c.index.ensures c.loop-index.invariant
    ∙ (λ k. lines ++ map space_line (option_to_list (placed_in (option_map entry_view (c.in-Some.is k)) (c.in-Some-index.is k)))))

pub returns : goal.returns
returns c =
    let placed = (volume_in c.args.self.now).entries in
    c.loop-index.invariant
    ∙ ap (λ (l : List (Option SpaceOnDevice)). map space_line (present l))
    (take_all c.loop-index.index placed (omega (arith, all-placed-long c.args.self.now, c.loop-index-test.false)))
