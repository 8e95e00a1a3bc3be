use Rattle.std.proofs.Common.{◌≡◌, ◌<◌, ◌∙◌, position, Some, None, map, length, get_or, sym, subst, ap, arith}
use Rattle.std.proofs.lemmas.List.{length-set, length-map}
use Rattle.tq_types.specs.Label.{arrival_cmp}
use Rattle.tq_types.specs.declared.identifiers.Arrival.{Arrival}
use Rattle.tq_slots.specs.MessageSlots.{Slots, slot_arrival}
use Rattle.tq_slots.specs.SlotTable.{has_key, lowest_empty}
use Rattle.tq_slots.specs.SlotImages.{RawSlots, slots_in, used_in, used_of}
use Rattle.tq_slottable.specs.Places.{AreUsedPlaces, AreEmptyPlaces, IsNewIn}
use Rattle.tq_slottable.proofs.PlaceLemmas.{empty_some, used_fewer, lowest_none, new_from_position}
use Rattle.tq_slottable.proofs.TableLemmas.{used_slot, said_set}
use Rattle.tq_slottable.proofs.table.SlotTable.enter.Goals as goal

pub take_empty-lowest-requires : goal.take_empty-lowest-requires
take_empty-lowest-requires c =
    let messages = c.self.inside.messages.items in
    let slots : Slots = map used_of messages in
    let long = length-map messages used_of in
    let room : lowest_empty slots < length messages = subst (λ (v : RawSlots). lowest_empty (slots_in v) < length v.messages) (sym c.self.view_is) c.requires.room in
    let some = empty_some slots c.self.inside.empty.items c.self.invariant.empty (omega arith) in
    let len = c.self.inside.empty.ok.0 in
    omega arith

pub enter_used-requires : goal.enter_used-requires
enter_used-requires c =
    let messages = c.self.inside.messages.items in
    let slots : Slots = map used_of messages in
    let long = length-map messages used_of in
    let room : lowest_empty slots < length messages = subst (λ (v : RawSlots). lowest_empty (slots_in v) < length v.messages) (sym c.self.view_is) c.requires.room in
    let fewer = used_fewer slots c.self.inside.used.items c.self.invariant.used (used_in c.args.slot) (omega arith) in
    let len = c.self.inside.used.ok.0 in
    let used_room = c.self.invariant.used_room in
    record { room = omega arith }

pub invariant_of-self : goal.invariant_of-self
invariant_of-self c =
    let messages = c.self.inside.messages.items in
    let slots : Slots = map used_of messages in
    let is = c.self.invariant in
    let index = c.take_empty-lowest.result in
    let u = used_in c.args.slot in
    let count = length-map messages used_of in
    let room : lowest_empty slots < length messages = subst (λ (v : RawSlots). lowest_empty (slots_in v) < length v.messages) (sym c.self.view_is) c.requires.room in
    let lowest = c.take_empty-lowest.ensures.lowest slots is.empty in
    let none : get_or slots index None ≡ None = ap (λ n. get_or slots n None) lowest ∙ lowest_none slots (omega arith) in
    let unknown = ap (λ (v : RawSlots). position (has_key arrival_cmp slot_arrival u.arrival) (slots_in v)) c.self.view_is ∙ c.requires.new in
    let new = subst (λ (a : Arrival). IsNewIn slots a) (sym c.arrival_of.ensures) (new_from_position slots u.arrival unknown) in
    let said = said_set messages index c.args.slot (Some u) (used_slot c.args.slot c.requires.used) in
    let long = length-set messages index c.args.slot in
    let few = is.few in
    let used_room = is.used_room in
    let empty_room = is.empty_room in
    let used_capacity = c.enter_used.ensures.capacity in
    let empty_capacity = c.take_empty-lowest.ensures.capacity in
    record {
      few = omega arith;
      used = subst (λ (l : Slots). AreUsedPlaces l c.enter_used.new.used.items) (sym said)
          (c.enter_used.ensures.entered slots u is.used (omega arith) none (sym c.arrival_of.ensures) new);
      empty = subst (λ (l : Slots). AreEmptyPlaces l 0 c.take_empty-lowest.new.empty.items) (sym said) (c.take_empty-lowest.ensures.taken slots u is.empty);
      used_room = omega arith;
      empty_room = omega arith;
    }
