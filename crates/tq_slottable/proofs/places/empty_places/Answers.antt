use Rattle.std.proofs.Common.{◌≡◌, ◌<◌, ◌-◌, ◌∙◌, suc, ℕ, List, None, map, length, get_or, sym, subst, arith}
use Rattle.std.proofs.lemmas.List.{length-map}
use Rattle.tq_slots.specs.MessageSlots.{Slots}
use Rattle.tq_slots.specs.SlotImages.{used_in, used_of, raw_of}
use Rattle.tq_slottable.specs.Places.{AreEmptyPlaces}
use Rattle.tq_slottable.proofs.PlaceLemmas.{empty_pushed, empty_passed}
use Rattle.tq_slottable.proofs.TableLemmas.{said_at, used_slot, unused_slot}
use Rattle.tq_slottable.proofs.places.empty_places.Goals as goal

pub loop-from-preserved-in-Continue-branch-2 : goal.loop-from-preserved-in-Continue-branch-2
loop-from-preserved-in-Continue-branch-2 c =
    let messages = c.args.messages.now in
    let slots : Slots = map used_of messages in
    let from = c.loop-from.from - 1 in
    let within = c.loop-from.invariant.within in
    let inside : from < length messages = omega (arith, c.loop-from-test.true) in
    let next : c.loop-from.from ≡ suc from = omega (arith, c.loop-from-test.true) in
    let listed = subst (λ n. AreEmptyPlaces slots n c.loop-from.empty.items) next c.loop-from.invariant.listed in
    let none = said_at messages from inside ∙ unused_slot (get_or messages from (raw_of None)) c.if-messages-from-eq0.true in
    let capacity = c.in_ok-push.ensures.capacity in
    let room = c.loop-from.invariant.room in
    record {
      within = omega arith;
      listed = subst (λ (l : List ℕ). AreEmptyPlaces slots from l) (sym c.in_ok-push.ensures.items)
          (empty_pushed slots c.loop-from.empty.items from listed (omega (arith, inside, length-map messages used_of)) none);
      room = omega arith;
    }

pub loop-from-preserved : goal.loop-from-preserved
loop-from-preserved c =
    let messages = c.args.messages.now in
    let slots : Slots = map used_of messages in
    let from = c.loop-from.from - 1 in
    let m = get_or messages from (raw_of None) in
    let within = c.loop-from.invariant.within in
    let inside : from < length messages = omega (arith, c.loop-from-test.true) in
    let next : c.loop-from.from ≡ suc from = omega (arith, c.loop-from-test.true) in
    let listed = subst (λ n. AreEmptyPlaces slots n c.loop-from.empty.items) next c.loop-from.invariant.listed in
    record {
      within = omega arith;
      listed = empty_passed slots c.loop-from.empty.items from (used_in m) listed (said_at messages from inside ∙ used_slot m c.if-messages-from-eq0.false);
      room = c.loop-from.invariant.room;
    }
