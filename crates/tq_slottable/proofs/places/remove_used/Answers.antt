use Rattle.std.proofs.Common.{◌≡◌, ◌<◌, ◌∙◌, List, None, length, set, get_or, sym, subst}
use Rattle.tq_slottable.specs.declared.places.UsedPlace.{UsedPlace}
use Rattle.tq_slottable.specs.Places.{AreUsedPlaces}
use Rattle.tq_slottable.proofs.PlaceLemmas.{used_removed}
use Rattle.tq_slottable.proofs.places.remove_used.Goals as goal

pub returns-in-Ok-clause-removed : goal.returns-in-Ok-clause-removed
returns-in-Ok-clause-removed c slots index u is some same =
    let items = c.args.used.now.items in
    let at = c.in-Ok.at in
    let d : UsedPlace = record { arrival = c.args.arrival.now; index = 0 } in
    let within : at < length items = subst (λ (l : List UsedPlace). at < length l) c.deref.ensures.value c.in-Ok.ensures.within in
    let found : (get_or items at d).arrival ≡ c.args.arrival.now = subst (λ (l : List UsedPlace). (get_or l at d).arrival ≡ c.args.arrival.now) c.deref.ensures.value (c.in-Ok.ensures.found d) in
    subst (λ (l : List UsedPlace). AreUsedPlaces (set slots index None) l) (sym c.remove.ensures.items) (used_removed slots items is index at u d some within (found ∙ sym same))
