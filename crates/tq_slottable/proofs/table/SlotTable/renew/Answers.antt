use Rattle.std.proofs.Common.{◌≡◌, ◌∙◌, Some, None, option_map, map, get_or, sym, subst, ap, arith}
use Rattle.std.proofs.lemmas.List.{length-set}
use Rattle.tq_slots.specs.MessageSlots.{Slots, slot_arrival}
use Rattle.tq_slots.specs.SlotImages.{RawSlots, slots_in, used_in, used_of}
use Rattle.tq_slottable.specs.Places.{AreUsedPlaces, AreEmptyPlaces}
use Rattle.tq_slottable.proofs.PlaceLemmas.{arrival_slot, used_renewed, empty_renewed}
use Rattle.tq_slottable.proofs.TableLemmas.{used_slot, said_set}
use Rattle.tq_slottable.proofs.table.SlotTable.renew.Goals as goal

pub invariant_of-self : goal.invariant_of-self
invariant_of-self c =
    let messages = c.self.inside.messages.items in
    let slots : Slots = map used_of messages in
    let index = c.args.index in
    let u = used_in c.args.slot in
    let is = c.self.invariant in
    let same : option_map slot_arrival (get_or slots index None) ≡ Some u.arrival =
    ap (λ (v : RawSlots). option_map slot_arrival (get_or (slots_in v) index None)) c.self.view_is ∙ c.requires.same in
    let old = arrival_slot (get_or slots index None) u.arrival same in
    let said = said_set messages index c.args.slot (Some u) (used_slot c.args.slot c.requires.used) in
    let long = length-set messages index c.args.slot in
    let few = is.few in
    let used_room = is.used_room in
    let empty_room = is.empty_room in
    record {
      few = omega arith;
      used = subst (λ (l : Slots). AreUsedPlaces l c.self.inside.used.items) (sym said) (used_renewed slots c.self.inside.used.items is.used index u same);
      empty = subst (λ (l : Slots). AreEmptyPlaces l 0 c.self.inside.empty.items) (sym said) (empty_renewed slots c.self.inside.empty.items index u old.0 is.empty old.1);
      used_room = omega arith;
      empty_room = omega arith;
    }
