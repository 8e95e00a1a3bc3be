use Rattle.std.proofs.Common.{◌<◌, ◌≤◌, ℕ, List, None, length, set, AllPairs, sym, subst}
use Rattle.std.specs.List.{AllWithin}
use Rattle.tq_slottable.specs.Places.{IsAbove, AreEmptyPlaces}
use Rattle.tq_slottable.proofs.PlaceLemmas.{empty_entered}
use Rattle.tq_slottable.proofs.places.enter_empty.Goals as goal

pub returns-clause-entered : goal.returns-clause-entered
returns-clause-entered c slots u is some =
    let items = c.args.empty.now.items in
    let index = c.args.index in
    let at = c.place_for_empty-at.result in
    let value = c.deref.ensures.value in
    let within : at ≤ length items = subst (λ (l : List ℕ). at ≤ length l) value c.place_for_empty-at.ensures.within in
    let above = subst (λ (l : List ℕ). AllPairs IsAbove l → AllWithin (λ i. index < i) l 0 at) value c.place_for_empty-at.ensures.above is.descending in
    let below = subst (λ (l : List ℕ). AllPairs IsAbove l → AllWithin (λ i. i ≤ index) l at (length l)) value c.place_for_empty-at.ensures.below is.descending in
    subst (λ (l : List ℕ). AreEmptyPlaces (set slots index None) 0 l) (sym c.put.ensures.items) (empty_entered slots items index at u is some within above below)
