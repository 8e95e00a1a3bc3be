use Rattle.std.proofs.Common.{◌≡◌, ◌∙◌, is_some, Some, None, map, get_or, sym, subst, ap, arith}
use Rattle.std.proofs.lemmas.List.{length-set, length-map, get_or_read}
use Rattle.tq_slots.specs.declared.record.MessageSlot.{MessageSlot}
use Rattle.tq_slots.specs.MessageSlots.{Slots}
use Rattle.tq_slots.specs.SlotImages.{RawSlots, slots_in, used_in, used_of, raw_of}
use Rattle.tq_slots.proofs.ListLemmas.{the_some}
use Rattle.tq_slottable.specs.Places.{AreUsedPlaces, AreEmptyPlaces}
use Rattle.tq_slottable.proofs.PlaceLemmas.{empty_fewer}
use Rattle.tq_slottable.proofs.TableLemmas.{used_at, within_said, said_set}
use Rattle.tq_slottable.proofs.table.SlotTable.clear.Goals as goal

pub enter_empty-requires : goal.enter_empty-requires
enter_empty-requires c =
    let messages = c.self.inside.messages.items in
    let slots : Slots = map used_of messages in
    let index = c.args.index in
    let there = the_some (get_or slots index None) (ap (λ (v : RawSlots). is_some (get_or (slots_in v) index None)) c.self.view_is ∙ c.requires) in
    let fewer = empty_fewer slots c.self.inside.empty.items index there.0 c.self.invariant.empty there.1 in
    let long = length-map messages used_of in
    let len = c.self.inside.empty.ok.0 in
    let room = c.self.invariant.empty_room in
    record { room = omega arith }

pub invariant_of-self : goal.invariant_of-self
invariant_of-self c =
    let messages = c.self.inside.messages.items in
    let slots : Slots = map used_of messages in
    let index = c.args.index in
    let is = c.self.invariant in
    let there = the_some (get_or slots index None) (ap (λ (v : RawSlots). is_some (get_or (slots_in v) index None)) c.self.view_is ∙ c.requires) in
    let u = used_in (get_or messages index (raw_of None)) in
    let some : get_or slots index None ≡ Some u = used_at messages index there.0 there.1 in
    let read = get_or_read messages index c.index.result.now (within_said messages index u some) c.index.ensures (raw_of None) in
    let arrival = ap (λ (m : MessageSlot). (used_in m).arrival) (sym read) ∙ sym c.arrival_of-arrival.ensures in
    let said = said_set messages index c.empty_slot.result None (ap used_of c.empty_slot.ensures) in
    let long = length-set messages index c.empty_slot.result in
    let few = is.few in
    let used_room = is.used_room in
    let empty_room = is.empty_room in
    let used_capacity = c.remove_used.ensures.capacity in
    let empty_capacity = c.enter_empty.ensures.capacity in
    record {
      few = omega arith;
      used = subst (λ (l : Slots). AreUsedPlaces l c.remove_used.new.used.items) (sym said) (c.remove_used.ensures.removed slots index u is.used some arrival);
      empty = subst (λ (l : Slots). AreEmptyPlaces l 0 c.enter_empty.new.empty.items) (sym said) (c.enter_empty.ensures.entered slots u is.empty some);
      used_room = omega arith;
      empty_room = omega arith;
    }
