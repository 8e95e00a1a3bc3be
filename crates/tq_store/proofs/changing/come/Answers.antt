use Rattle.std.proofs.Common.{◌≡◌, ◌<◌, ◌≤◌, ◌+◌, ℕ, [], ◌∷◌, List, Some, length, ap, subst, sym, ◌∙◌, arith}
use Rattle.std.specs.List.{position}
use Rattle.std.specs.Vec.{with_items}
use Rattle.std.proofs.lemmas.Bool.{lt-ltb}
use Rattle.std.proofs.lemmas.List.{with_items_is}
use Rattle.tq_types.specs.Label.{arrival_cmp}
use Rattle.tq_types.specs.declared.identifiers.Arrival.{Arrival}
use Rattle.tq_gate.specs.Frame.{IsFrame, payload_in}
use Rattle.tq_gate.specs.Log.{FitsIn}
use Rattle.tq_model.specs.Moves.{session_owners}
use Rattle.tq_pages.specs.Store.{chain_pages, free_pages, HasAdded}
use Rattle.tq_slots.specs.declared.record.MessageSlot.{MessageSlot}
use Rattle.tq_slots.specs.declared.record.Set.TheVariants as sets
use Rattle.tq_slots.specs.MessageForm.{header_size}
use Rattle.tq_slots.specs.MessageSlots.{slot_arrival}
use Rattle.tq_slots.specs.RecordForm.{changed_at, with_first}
use Rattle.tq_slots.specs.SlotImages.{RawSlots, raw_of, slots_in, with_set}
use Rattle.tq_slots.specs.SlotTable.{has_key, lowest_empty}
use Rattle.tq_store.specs.Change.{IsRecordOf}
use Rattle.tq_store.specs.Draft.{entry_slot, slots_with_entry}
use Rattle.tq_store.proofs.MoveChangeLemmas.{message_long}
use Rattle.tq_store.proofs.DraftLemmas.{frame_of, list_arrival, list_long, list_made}
use Rattle.tq_store.proofs.changing.come.Goals as goal

pub overflow_cast-len : goal.overflow_cast-len
overflow_cast-len c =
    let can = c.requires.can in
    let arrival = list_arrival _ c.lowest_empty.result 0 c.message_slot.result c.args.entry.now c.in_ok-rec.ensures.sets c.in_ok-rec.ensures.ranges
    (c.message_slot.ensures session_owners) in
    let long = message_long c.args.entry.now can.0 can.1 arrival in
    let bytes = ap (λ (l : List ℕ). length l) (c.in_ok-rec.ensures.message ∙ c.in_ok-message.ensures) in
    let most = can.1.body in
    let len = c.in_ok-rec.change.message.ok.0 in
    let is = c.len.ensures in
    omega arith

pub take-first-requires-clause-some : goal.take-first-requires-clause-some
take-first-requires-clause-some c =
    let can = c.requires.can in
    let arrival = list_arrival _ c.lowest_empty.result 0 c.message_slot.result c.args.entry.now c.in_ok-rec.ensures.sets c.in_ok-rec.ensures.ranges
    (c.message_slot.ensures session_owners) in
    let long = message_long c.args.entry.now can.0 can.1 arrival in
    let bytes = ap (λ (l : List ℕ). length l) (c.in_ok-rec.ensures.message ∙ c.in_ok-message.ensures) in
    let len = c.in_ok-rec.change.message.ok.0 in
    let is = c.len.ensures in
    omega arith

pub take-first-requires-clause-room : goal.take-first-requires-clause-room
take-first-requires-clause-room c =
    let can = c.requires.can in
    let arrival = list_arrival _ c.lowest_empty.result 0 c.message_slot.result c.args.entry.now c.in_ok-rec.ensures.sets c.in_ok-rec.ensures.ranges
    (c.message_slot.ensures session_owners) in
    let long = message_long c.args.entry.now can.0 can.1 arrival in
    let bytes = ap (λ (l : List ℕ). length l) (c.in_ok-rec.ensures.message ∙ c.in_ok-message.ensures) in
    let len = c.in_ok-rec.change.message.ok.0 in
    let is = c.len.ensures in
    let size : header_size + length c.args.entry.now.message.body ≡ c.len.result = omega arith in
    subst (λ n. chain_pages n ≤ free_pages c.args.store.now) size c.requires.room

pub enter-requires-clause-used : goal.enter-requires-clause-used
enter-requires-clause-used c is =
    let one = ap (λ (m : MessageSlot). m.mark) (c.message_slot-2.ensures session_owners) in
    omega (arith, one, is)

pub enter-requires-clause-new : goal.enter-requires-clause-new
enter-requires-clause-new c =
    let same = ap (λ (m : MessageSlot). record { epoch = m.epoch; number = m.number }) (c.message_slot-2.ensures session_owners) in
    ap (λ (a : Arrival). position (has_key arrival_cmp slot_arrival a) (slots_in c.args.table.now)) same ∙ c.requires.new

pub returns-clause-come : goal.returns-clause-come
returns-clause-come c =
    let e = c.args.entry.now in
    let old = c.args.table.now in
    let index = c.lowest_empty.result in
    let first = c.take-first.result in
    let kind = c.set_first.new.rec.kind in
    let frame = c.set_first.new.frame in
    let can = c.requires.can in
    let slot = c.message_slot.ensures session_owners in
    let raw = raw_of (Some (entry_slot first e)) in
    let s = sets.Message index raw in
    let arrival = list_arrival _ index 0 c.message_slot.result e c.in_ok-rec.ensures.sets c.in_ok-rec.ensures.ranges slot in
    let long = message_long e can.0 can.1 arrival in
    let message = c.in_ok-rec.ensures.message ∙ c.in_ok-message.ensures in
    let bytes = ap (λ (l : List ℕ). length l) message in
    let len = c.in_ok-rec.change.message.ok.0 in
    let is_len = c.len.ensures in
    let size : c.len.result ≡ header_size + length e.message.body = omega arith in
    let one : c.set_first.new.rec.sets.items ≡ s ∷ [] =
    c.set_first.ensures.sets ∙ ap (changed_at 0 (with_first first)) c.in_ok-rec.ensures.sets
    ∙ ap (λ (m : MessageSlot). sets.Message index (record m { first = first }) ∷ []) slot in
    let ranges = c.set_first.ensures.ranges c.in_ok-rec.ensures.ranges in
    let new_long : length (payload_in frame) ≡ 70 = list_long kind _ index raw (payload_in frame) one ranges c.set_first.ensures.spelt in
    let old_long = list_long c.in_ok-rec.rec.kind _ index c.message_slot.result _ c.in_ok-rec.ensures.sets c.in_ok-rec.ensures.ranges c.in_ok-rec.ensures.spelt in
    let fits = c.in_ok-rec.ensures.fits in
    let stands : (with_items c.in_ok-rec.change.frame frame).items ≡ frame =
    with_items_is c.in_ok-rec.change.frame frame (omega (arith, c.set_first.auto.frame, c.deref_mut.ensures.len, c.in_ok-rec.change.frame.ok)) in
    let place = lt-ltb index (length old.messages) (subst (λ n. n < length old.messages) (sym c.lowest_empty.ensures) c.requires.empty) in
    let made = list_made kind _ s old (payload_in frame) one (omega arith) place (c.set_first.ensures.spells c.in_ok-rec.ensures.ranges) in
    let slots : c.enter.new.self ≡ slots_with_entry first e old =
    c.enter.ensures.table ∙ ap (λ n. with_set (sets.Message n c.message_slot-2.result) old) c.enter.ensures.index
    ∙ ap (λ (m : MessageSlot). with_set (sets.Message (lowest_empty (slots_in old)) m) old) (c.message_slot-2.ensures session_owners) in
    let same : with_set s old ≡ c.enter.new.self = ap (λ n. with_set (sets.Message n raw) old) c.lowest_empty.ensures ∙ sym slots in
    record {
      slots = slots;
      sound = c.free_count-left.ensures.store;
      added = subst (λ n. HasAdded c.args.store.now first n c.take-first.new.self) size c.take-first.ensures.added;
      message = message;
      arrival = arrival;
      written = record {
        frame = subst IsFrame (sym stands) (frame_of frame (omega (arith, new_long)));
        fits = record {
          small = subst (λ (l : List ℕ). length (payload_in l) ≤ 518) (sym stands) (omega (arith, new_long));
          room = λ none. subst (λ (l : List ℕ). FitsIn c.args.log.now (length (payload_in l))) (sym stands)
              (subst (FitsIn c.args.log.now) (old_long ∙ sym new_long) (fits.room none));
          base_size = fits.base_size;
          base = fits.base;
        };
        record_is = subst (λ (l : List ℕ). IsRecordOf old c.enter.new.self (payload_in l)) (sym stands)
            (subst (λ (t : RawSlots). IsRecordOf old t (payload_in frame)) same made);
      };
    }
