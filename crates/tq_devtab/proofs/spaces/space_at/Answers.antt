use Rattle.std.proofs.Common.{◌≡◌, ◌&&◌, not, Option, Some, None, set, sym, ap, ◌∙◌, arith}
use Rattle.std.specs.Prelude.{is_some, option_map}
use Rattle.std.specs.List.{list_all}
use Rattle.std.proofs.lemmas.Bool.{ne_eqb}
use Rattle.std.proofs.lemmas.List.{take_all}
use Rattle.std.proofs.lemmas.List.Folds.{list_all_more}
use Rattle.tq_model.specs.Reading.{NamedSpace}
use Rattle.tq_devtab.specs.Table.{entry_view, entries_view}
use Rattle.tq_devtab.proofs.PlaceLemmas.{is_other, first-space, no-space}
use Rattle.tq_devtab.proofs.SpellingLemmas.{length-views, view-of}
use Rattle.tq_devtab.proofs.spaces.space_at.Goals as goal

pub loop-index-preserved-in_default : goal.loop-index-preserved-in_default
loop-index-preserved-in_default c =
    let views = entries_view c.args.entries.now in
    let i = c.loop-index.index in
    let long = length-views c.args.entries.now in
    let at = view-of c.args.entries.now i c.index-entries-index.result c.loop-index-test.true c.index-entries-index.is in
    let other = ap (is_other c.args.ordinal) (sym at ∙ ap (option_map entry_view) c.in_default.is) in
    list_all_more (is_other c.args.ordinal) views i None (omega (arith, long, c.loop-index-test.true)) ∙ (λ k. c.loop-index.invariant k && other k)

pub returns-then-space-ordinal-clause-space : goal.returns-then-space-ordinal-clause-space
returns-then-space-ordinal-clause-space c =
    let views = entries_view c.args.entries.now in
    let i = c.loop-index.index in
    let n = entry_view c.in-Some.space in
    let at = sym (view-of c.args.entries.now i c.index-entries-index.result c.loop-index-test.true c.index-entries-index.is) ∙ ap (option_map entry_view) c.in-Some.is in
    at ∙ sym (first-space c.args.ordinal views i n at c.if-space-ordinal.true c.loop-index.invariant).0

pub returns-then-space-ordinal-clause-change : goal.returns-then-space-ordinal-clause-change
returns-then-space-ordinal-clause-change c = λ change m found.
    let views = entries_view c.args.entries.now in
    let i = c.loop-index.index in
    let n = entry_view c.in-Some.space in
    let at = sym (view-of c.args.entries.now i c.index-entries-index.result c.loop-index-test.true c.index-entries-index.is) ∙ ap (option_map entry_view) c.in-Some.is in
    let first = first-space c.args.ordinal views i n at c.if-space-ordinal.true c.loop-index.invariant in
    let same : ◌≡◌ {A = Option NamedSpace} (Some n) (Some m) = sym first.0 ∙ found in
    let one : n ≡ m = cc in
    first.1 change ∙ ap (λ (k : NamedSpace). set views i (change k)) one

pub loop-index-preserved : goal.loop-index-preserved
loop-index-preserved c =
    let views = entries_view c.args.entries.now in
    let i = c.loop-index.index in
    let long = length-views c.args.entries.now in
    let at = view-of c.args.entries.now i c.index-entries-index.result c.loop-index-test.true c.index-entries-index.is in
    let other = ap (is_other c.args.ordinal) (sym at ∙ ap (option_map entry_view) c.in-Some.is) ∙ ap not (ne_eqb c.in-Some.space.ordinal c.args.ordinal c.if-space-ordinal.false) in
    list_all_more (is_other c.args.ordinal) views i None (omega (arith, long, c.loop-index-test.true)) ∙ (λ k. c.loop-index.invariant k && other k)

pub returns-clause-space : goal.returns-clause-space
returns-clause-space c =
    let views = entries_view c.args.entries.now in
    let long = length-views c.args.entries.now in
    let all = sym (ap (list_all (is_other c.args.ordinal)) (take_all c.loop-index.index views (omega (arith, long, c.loop-index-test.false)))) ∙ c.loop-index.invariant in
    let none = no-space c.args.ordinal views all in
    let there = sym (ap (λ (o : Option NamedSpace). is_some o) none) ∙ c.requires.there in
    absurd (cc)

pub returns-clause-change : goal.returns-clause-change
returns-clause-change c = λ change m found.
    let views = entries_view c.args.entries.now in
    let long = length-views c.args.entries.now in
    let all = sym (ap (list_all (is_other c.args.ordinal)) (take_all c.loop-index.index views (omega (arith, long, c.loop-index-test.false)))) ∙ c.loop-index.invariant in
    let none = no-space c.args.ordinal views all in
    let there = sym (ap (λ (o : Option NamedSpace). is_some o) none) ∙ c.requires.there in
    absurd (cc)
