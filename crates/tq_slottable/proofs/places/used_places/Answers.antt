use Rattle.std.proofs.Common.{◌≡◌, ◌≤◌, ◌<◌, ◌+◌, ◌∙◌, ◌++◌, ◌∷◌, [], List, None, map, take, length, get_or, vec_capacity, sym, subst, ap, arith, rules}
use Rattle.std.proofs.lemmas.List.{length-map, take_all}
use Rattle.std.proofs.lemmas.List.Sorted.{answers_always}
use Rattle.tq_types.specs.declared.identifiers.Arrival.{Arrival}
use Rattle.tq_slots.specs.MessageSlots.{Slots}
use Rattle.tq_slots.specs.SlotImages.{used_in, used_of, raw_of}
use Rattle.tq_slottable.specs.declared.places.UsedPlace.{UsedPlace}
use Rattle.tq_slottable.specs.Places.{AreListedPlaces}
use Rattle.tq_slottable.proofs.SortLemmas.{unused_next, used_next, sorted_used}
use Rattle.tq_slottable.proofs.TableLemmas.{said_at, used_slot, unused_slot}
use Rattle.tq_slottable.proofs.places.used_places.Goals as goal
use Rattle.tq_slottable.proofs.places.used_places.Goals.{then-slot-ne0+in_ok-push, else-slot-ne0}

pub loop-index-preserved : goal.loop-index-preserved
loop-index-preserved c =
    let messages = c.args.messages.now in
    let slots : Slots = map used_of messages in
    let i = c.loop-index.index in
    let m = get_or messages i (raw_of None) in
    let items = c.loop-index.used.items in
    let listed = c.loop-index.invariant.listed in
    let inside : i < length slots = omega (arith, c.loop-index-test.true, length-map messages used_of) in
    let says = said_at messages i c.loop-index-test.true in
    elim c.if-slot-ne0.branch [
      | then-slot-ne0+in_ok-push w ↦
          let capacity = w.in_ok-push.ensures.capacity in
          let room = c.loop-index.invariant.room in
          let next = used_next slots i items inside listed (used_in m) (says ∙ used_slot m w.if-slot-ne0.true) in
          let named = subst (λ (a : Arrival). AreListedPlaces (take (i + 1) slots) (items ++ record { arrival = a; index = i } ∷ [])) (sym w.arrival_of.ensures) next in
          record {
            listed = subst (λ (l : List UsedPlace). AreListedPlaces (take (i + 1) slots) l) (sym (ap (λ v. v.items) w.used-is ∙ w.in_ok-push.ensures.items)) named;
            room = subst (λ n. length messages ≤ n) (sym (ap vec_capacity w.used-is)) (omega arith);
          }
      | else-slot-ne0 w ↦ record {
        listed = subst (λ (l : List UsedPlace). AreListedPlaces (take (i + 1) slots) l) (sym (ap (λ v. v.items) w.used-is))
            (unused_next slots i items inside listed (says ∙ unused_slot m w.if-slot-ne0.false));
        room = subst (λ n. length messages ≤ n) (sym (ap vec_capacity w.used-is)) c.loop-index.invariant.room;
      }
    ]

pub returns-clause-listed : goal.returns-clause-listed
returns-clause-listed c =
    let slots : Slots = map used_of c.args.messages.now in
    let items = c.loop-index.used.items in
    let all : take c.loop-index.index slots ≡ slots = take_all c.loop-index.index slots (omega (arith, c.loop-index-test.false, length-map c.args.messages.now used_of)) in
    let listed = subst (λ (l : Slots). AreListedPlaces l items) all c.loop-index.invariant.listed in
    let sorted = c.sort_unstable_by_key.ensures.sorted (λ p. p.arrival) (answers_always _ _ _ (λ f a r g called. search rules)) in
    sorted_used slots items c.sort_unstable_by_key.new.self.items listed c.requires.once c.sort_unstable_by_key.ensures.permutation sorted
