use Rattle.std.proofs.Common.{◌≢◌, List, Some, set, insert, All, AllPairs, sym, subst}
use Rattle.tq_types.specs.declared.identifiers.Arrival.{Arrival}
use Rattle.tq_slottable.specs.declared.places.UsedPlace.{UsedPlace}
use Rattle.tq_slottable.specs.Places.{IsOlder, IsGap, AreUsedPlaces}
use Rattle.tq_slottable.proofs.PlaceLemmas.{apart_from_new, used_entered}
use Rattle.tq_slottable.proofs.places.enter_used.Goals as goal

pub returns-clause-entered : goal.returns-clause-entered
returns-clause-entered c slots u is lt none same new =
    let items = c.args.used.now.items in
    let arrival = c.args.arrival in
    let index = c.args.index in
    let at = c.place_for_used-at.result in
    let gap = subst (λ (l : List UsedPlace). AllPairs IsOlder l → All (λ (p : UsedPlace). p.arrival ≢ arrival) l → IsGap l arrival at) c.deref.ensures.value c.place_for_used-at.ensures.gap
    is.ascending (apart_from_new slots items is arrival new) in
    let entered = used_entered slots items is index at u lt none (subst (λ (a : Arrival). IsGap items a at) (sym same) gap) in
    subst (λ (l : List UsedPlace). AreUsedPlaces (set slots index (Some u)) l) (sym c.put.ensures.items)
    (subst (λ (a : Arrival). AreUsedPlaces (set slots index (Some u)) (insert items at (record { arrival = a; index = index }))) same entered)
