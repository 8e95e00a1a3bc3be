use Rattle.std.proofs.Common.{◌&&◌, Option, None, sym, ap, ◌∙◌, arith}
use Rattle.std.specs.Prelude.{is_some, option_map}
use Rattle.std.specs.List.{list_all}
use Rattle.std.proofs.lemmas.List.{take_all}
use Rattle.std.proofs.lemmas.List.Folds.{list_all_more}
use Rattle.tq_model.specs.Reading.{NamedSpace}
use Rattle.tq_devtab.specs.Table.{entry_view, entries_view}
use Rattle.tq_devtab.proofs.PlaceLemmas.{all-used}
use Rattle.tq_devtab.proofs.SpellingLemmas.{length-views, view-of}
use Rattle.tq_devtab.proofs.TableLemmas.{with_entry-set}
use Rattle.tq_devtab.proofs.spaces.lowest_unused.Goals as goal

pub returns-in_default-clause-lowest : goal.returns-in_default-clause-lowest
returns-in_default-clause-lowest c = λ n.
    let views = entries_view c.args.entries.now in
    let i = c.loop-index.index in
    let long = length-views c.args.entries.now in
    let at = view-of c.args.entries.now i c.index-entries-index.result c.loop-index-test.true c.index-entries-index.is in
    with_entry-set n views i (omega (arith, long, c.loop-index-test.true)) (sym at ∙ ap (option_map entry_view) c.in_default.is) c.loop-index.invariant

pub loop-index-preserved : goal.loop-index-preserved
loop-index-preserved c =
    let views = entries_view c.args.entries.now in
    let i = c.loop-index.index in
    let long = length-views c.args.entries.now in
    let at = view-of c.args.entries.now i c.index-entries-index.result c.loop-index-test.true c.index-entries-index.is in
    let test = λ (o : Option NamedSpace). is_some o in
    let used = ap test (sym at ∙ ap (option_map entry_view) c.in-Some.is) in
    list_all_more test views i None (omega (arith, long, c.loop-index-test.true)) ∙ (λ k. c.loop-index.invariant k && used k)

pub returns-clause-lowest : goal.returns-clause-lowest
returns-clause-lowest c =
    let views = entries_view c.args.entries.now in
    let long = length-views c.args.entries.now in
    let test = λ (o : Option NamedSpace). is_some o in
    let all = sym (ap (list_all test) (take_all c.loop-index.index views (omega (arith, long, c.loop-index-test.false)))) ∙ c.loop-index.invariant in
    let full = all-used views all in
    absurd (omega (arith, full, long, c.requires.room))
