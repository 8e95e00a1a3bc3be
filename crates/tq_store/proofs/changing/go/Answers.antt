use Rattle.std.proofs.Common.{◌≡◌, ◌<◌, ℕ, [], ◌∷◌, List, Option, Some, None, length, get_or, ap, subst, sym, ◌∙◌, arith}
use Rattle.std.proofs.lemmas.Bool.{lt-ltb}
use Rattle.tq_gate.specs.Frame.{payload_in}
use Rattle.tq_slots.specs.declared.record.MessageSlot.{MessageSlot}
use Rattle.tq_slots.specs.declared.record.Set.TheVariants as sets
use Rattle.tq_pages.specs.Store.{Store, HasAdded, size_of}
use Rattle.tq_slots.specs.SlotImages.{RawSlots, raw_of, slots_in}
use Rattle.tq_slots.proofs.ListLemmas.{some_injective}
use Rattle.tq_store.specs.Change.{IsRecordOf}
use Rattle.tq_store.specs.Draft.{with_message}
use Rattle.tq_store.proofs.DraftLemmas.{list_made, used_below, used_first}
use Rattle.tq_store.proofs.changing.go.Goals as goal

-- of one identifier there is one place
same_place : {X : Type 0} (o : Option X) (x y : X) → o ≡ Some x → o ≡ Some y → x ≡ y
same_place o x y one two = some_injective (sym one ∙ two)

-- the chain at a page that is that one
released_at : (old new : Store) (page first : ℕ) → page ≡ first → HasAdded new page (size_of old page) old → HasAdded new first (size_of old first) old
released_at old new page first same is = subst (λ p. HasAdded new p (size_of old p) old) same is

pub returns-clause-gone : goal.returns-clause-gone
returns-clause-gone c =
    let old = c.args.table.now in
    let there = c.requires.there in
    let at = there.2 in
    let index = c.in-Some.index in
    let payload = payload_in c.in_ok-_rec.change.frame.items in
    let s = sets.Message index (raw_of None) in
    let one = c.in_ok-_rec.ensures.sets ∙ ap (λ (m : MessageSlot). sets.Message index m ∷ []) c.empty_slot.ensures in
    let found = sym c.place.ensures ∙ c.in-Some.is in
    let same : there.0 ≡ index = same_place _ there.0 index at.place found in
    let used : get_or (slots_in old) index None ≡ Some there.1 = ap (λ (n : ℕ). get_or (slots_in old) n None) (sym same) ∙ at.at in
    let below : index < length old.messages = used_below old index there.1 used in
    let made = list_made c.in_ok-_rec._rec.kind _ s old payload one (omega arith) (lt-ltb index (length old.messages) below) c.in_ok-_rec.ensures.spells in
    let first : _ ≡ there.1.first = ap (λ (l : List MessageSlot). (get_or l index _).first) c.messages.ensures ∙ used_first old index there.1 _ used in
    record {
      index = there.0;
      slot = there.1;
      there = at;
      slots = c.clear.ensures ∙ ap (λ (n : ℕ). with_message n None old) (sym same);
      sound = c.free_count-left.ensures.store;
      released = released_at c.args.store.now c.release.new.self _ there.1.first first c.release.ensures.released;
      message = c.in_ok-_rec.ensures.message ∙ c.new.ensures.items;
      written = record {
        frame = c.in_ok-_rec.ensures.frame;
        fits = c.in_ok-_rec.ensures.fits;
        record_is = subst (λ (t : RawSlots). IsRecordOf old t payload) (sym c.clear.ensures) made;
      };
    }
