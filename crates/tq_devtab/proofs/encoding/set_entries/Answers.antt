use Rattle.std.proofs.Common.{◌≡◌, inl, inr, ◌+◌, ◌*◌, ◌<◌, List, None, length, get_or, map, Option, refl, sym, ap, subst, ◌∙◌, arith}
use Rattle.std.proofs.lemmas.Bool.{cases_lt}
use Rattle.std.proofs.lemmas.List.{take_all}
use Rattle.tq_model.specs.DeviceForm.{extents_start}
use Rattle.tq_model.specs.Reading.{NamedSpace}
use Rattle.tq_devtab.specs.Table.{entries_view, raw_of}
use Rattle.tq_devtab.specs.Spelling.{IsSameOutsideBoth, are_short, extent_total, names_byte}
use Rattle.tq_devtab.proofs.EntryLemmas.{total-extents}
use Rattle.tq_devtab.proofs.SpellingLemmas.{entries-more, length-views, no-entries, short-at, start-more, total-within, view-of}
use Rattle.tq_devtab.proofs.encoding.set_entries.Goals as goal

pub loop-i-init : goal.loop-i-init
loop-i-init c = record {
  spelt = no-entries 32 extents_start c.args.base.now;
  place = refl;
  zero = λ k from to. c.requires.zero k from (omega arith);
  between = λ i at lt. absurd (omega arith);
  behind = λ k from to. c.requires.zero k (omega arith) to;
  before = λ k lt. refl;
}

pub set_entry-extents-requires-clause-within : goal.set_entry-extents-requires-clause-within
set_entry-extents-requires-clause-within c =
    let views = entries_view c.args.entries.now in
    let lt = length-views c.args.entries.now in
    let within = total-within views c.loop-i.i (omega arith) in
    let same =
    ap (λ (o : Option NamedSpace). length (raw_of o).extents)
    (view-of c.args.entries.now c.loop-i.i c.index-entries-i.result c.loop-i-test.true c.index-entries-i.is) in
    let place = c.loop-i.invariant.place in
    let ends = c.requires.entries.ends in
    omega arith

pub set_entry-extents-requires-clause-short : goal.set_entry-extents-requires-clause-short
set_entry-extents-requires-clause-short c =
    let views = entries_view c.args.entries.now in
    let lt = length-views c.args.entries.now in
    ap (λ (o : Option NamedSpace). are_short (raw_of o).extents)
    (view-of c.args.entries.now c.loop-i.i c.index-entries-i.result c.loop-i-test.true c.index-entries-i.is)
    ∙ short-at views c.loop-i.i (omega arith) c.requires.entries

pub loop-i-preserved : goal.loop-i-preserved
loop-i-preserved c =
    let views = entries_view c.args.entries.now in
    let i = c.loop-i.i in
    let old = c.loop-i.base in
    let new = c.set_entry-extents.new.base in
    let lt = length-views c.args.entries.now in
    let few = c.requires.entries.count in
    let place = c.loop-i.invariant.place in
    let same = view-of c.args.entries.now i c.index-entries-i.result c.loop-i-test.true c.index-entries-i.is in
    let small : i < 16 = omega arith in
    let outside =
    subst
    (λ (o : Option NamedSpace). IsSameOutsideBoth (32 + 160 * i) 160 c.loop-i.extents (4 * length (raw_of o).extents) old new) same c.set_entry-extents.ensures.outside in
    record {
      spelt =
          entries-more views i c.loop-i.extents old new (omega arith) (omega arith) (omega arith) c.requires.entries c.loop-i.invariant.spelt place
          (c.set_entry-extents.ensures.spelt ∙ ap raw_of same) outside;
      place =
          c.set_entry-extents.ensures.behind ∙ ap (λ (o : Option NamedSpace). c.loop-i.extents + 4 * length (raw_of o).extents) same
          ∙ start-more views i c.loop-i.extents (omega arith) place;
      zero = λ k from to. outside k (inr (omega arith)) (inl (omega arith)) ∙ c.loop-i.invariant.zero k (omega arith) to;
      between = λ j at lt within none.
          elim (cases_lt j i) [
            | inl earlier ↦ outside (32 + 160 * j + at) (inl (omega arith)) (inl (omega arith)) ∙ c.loop-i.invariant.between j at earlier within none
            | inr from ↦
                let here : j ≡ i = omega arith in
                let own = ap (λ (o : Option NamedSpace). names_byte o at) same ∙ ap (λ k. names_byte (get_or views k None) at) (sym here) ∙ none in
                ap (λ k. get_or new (32 + 160 * k + at) 0) here ∙ c.set_entry-extents.ensures.between at within own
          ];
      behind = λ k from to.
          let end = c.set_entry-extents.ensures.behind in
          let size = ap (λ (o : Option NamedSpace). length (raw_of o).extents) same in
          outside k (inr (omega arith)) (inr (omega arith)) ∙ c.loop-i.invariant.behind k (omega arith) to;
      before = λ k below. outside k (inl (omega arith)) (inl (omega arith)) ∙ c.loop-i.invariant.before k below;
    }

pub returns-clause-behind : goal.returns-clause-behind
returns-clause-behind c = λ k from to.
    let views = entries_view c.args.entries.now in
    let lt = length-views c.args.entries.now in
    let end = c.loop-i-test.false in
    let all = ap (λ (l : List (Option NamedSpace)). extent_total (map raw_of l)) (take_all c.loop-i.i views (omega arith)) in
    let total = total-extents views in
    let place = c.loop-i.invariant.place in
    c.loop-i.invariant.behind k (omega arith) to

pub returns-clause-between : goal.returns-clause-between
returns-clause-between c = λ i at lt within none.
    let size = length-views c.args.entries.now in
    let end = c.loop-i-test.false in
    c.loop-i.invariant.between i at (omega arith) within none
