use Rattle.std.proofs.Common.{◌≡◌, ◌<◌, ◌∙◌, List, Some, length, map, get_or, AllPairs, position, ap, sym, subst}
use Rattle.tq_types.specs.Label.{arrival_cmp}
use Rattle.tq_slots.specs.MessageSlots.{slot_arrival}
use Rattle.tq_slots.specs.SlotImages.{RawSlots, slots_in, used_of}
use Rattle.tq_slots.specs.SlotTable.{has_key}
use Rattle.tq_slottable.specs.declared.places.UsedPlace.{UsedPlace}
use Rattle.tq_slottable.specs.Places.{IsOlder, IsGap}
use Rattle.tq_slottable.proofs.PlaceLemmas.{found_at, not_found}
use Rattle.tq_slottable.proofs.table.SlotTable.place.Goals as goal

pub returns-in-Ok : goal.returns-in-Ok
returns-in-Ok c =
    let items = c.self.inside.used.items in
    let arrival = c.args.arrival.now in
    let at = c.in-Ok.at in
    let d = c.index.result.now in
    let within : at < length items = subst (λ (l : List UsedPlace). at < length l) c.deref.ensures.value c.in-Ok.ensures.within in
    let found : (get_or items at d).arrival ≡ arrival = subst (λ (l : List UsedPlace). (get_or l at d).arrival ≡ arrival) c.deref.ensures.value (c.in-Ok.ensures.found d) in
    ap (λ (p : UsedPlace). Some p.index) c.index.ensures
    ∙ sym (found_at (map used_of c.self.inside.messages.items) items c.self.invariant.used at d arrival within found)
    ∙ ap (λ (v : RawSlots). position (has_key arrival_cmp slot_arrival arrival) (slots_in v)) c.self.view_is

pub returns-in-Err : goal.returns-in-Err
returns-in-Err c =
    let items = c.self.inside.used.items in
    let arrival = c.args.arrival.now in
    let at = c.in-Err.field-0 in
    let gap = subst (λ (l : List UsedPlace). AllPairs IsOlder l → IsGap l arrival at) c.deref.ensures.value c.in-Err.ensures.gap c.self.invariant.used.ascending in
    sym (not_found (map used_of c.self.inside.messages.items) items c.self.invariant.used at arrival gap)
    ∙ ap (λ (v : RawSlots). position (has_key arrival_cmp slot_arrival arrival) (slots_in v)) c.self.view_is
