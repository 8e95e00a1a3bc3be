use Rattle.std.proofs.Common.{◌≡◌, ◌-◌, ◌==◌, ℕ, true, false, List, length, take, drop, Some, refl, sym, ap, ◌∙◌, arith}
use Rattle.std.specs.Prelude.{option_map}
use Rattle.std.proofs.lemmas.List.{length-drop, take_all}
use Rattle.tq_model.specs.Moves.{session_owners}
use Rattle.tq_store.specs.Filling.{is_said_bare}
use Rattle.tq_slots.specs.declared.message.Header.{Header}
use Rattle.tq_slots.specs.declared.record.MessageSlot.{MessageSlot}
use Rattle.tq_slots.specs.MessageForm.{header_read}
use Rattle.tq_slots.specs.MessageSlots.{said_with_chain}
use Rattle.tq_slots.specs.SlotImages.{used_in}
use Rattle.tq_slots.specs.SpaceReading.{message_in}
use Rattle.tq_store.proofs.SaidLemmas.{header_long, made_short, said_by, said_long, seen}
use Rattle.tq_store.proofs.filling.entry_of.Goals as goal

-- all behind the header
behind_header : (stored : List ℕ) → take (length stored - 256) (drop 256 stored) ≡ drop 256 stored
behind_header stored = take_all (length stored - 256) (drop 256 stored) (let size = length-drop 256 stored in omega arith)

pub slice_bounds-new-count : goal.slice_bounds-new-count
slice_bounds-new-count c = header_long (length c.args.stored.now) c.args.stored.now c.in-Some.header (sym c.decode_header.ensures.exact ∙ c.in-Some.is)

pub slice_bounds-new-start : goal.slice_bounds-new-start
slice_bounds-new-start c = header_long (length c.args.stored.now) c.args.stored.now c.in-Some.header (sym c.decode_header.ensures.exact ∙ c.in-Some.is)

module _ (site number : ℕ) (slot : MessageSlot) (stored : List ℕ) (h : Header) (read : header_read (length stored) stored ≡ Some h) where
  -- what is said is bare only where a slot has no path
  by_path : (said : (slot.numbers == 0) ≡ true → is_said_bare (said_with_chain site number (used_in slot) (message_in stored)) ≡ false)
      → is_said_bare (said_with_chain site number (used_in slot) (message_in stored)) ≡ false
  by_path said =
      (elim (slot.numbers == 0) as (λ b. (slot.numbers == 0) ≡ b → is_said_bare (said_with_chain site number (used_in slot) (message_in stored)) ≡ false) [
        | true ↦ λ none. said none
        | false ↦ λ long. said_long site number slot stored h long read
      ]) refl

pub returns-in_default-entry_in-clause-damaged : goal.returns-in_default-entry_in-clause-damaged
returns-in_default-entry_in-clause-damaged c = λ is.
    let place = c.args.place.now in
    let slot = c.args.slot.now in
    let stored = c.args.stored.now in
    let read = sym c.decode_header.ensures.exact ∙ c.in-Some.is in
    by_path place.site place.number slot stored c.in-Some.header read (λ none.
    ap is_said_bare (said_by place.site place.number slot stored c.in-Some.header none c.requires.free read c.in_ok-body.body c.entry_in.result
    (c.in_ok-body.ensures ∙ behind_header stored) c.entry_in.ensures
    ∙ ap (option_map (seen place.site place.number slot stored)) c.in_default-entry_in.is))

pub returns-then-not-is_bare_entry-clause-damaged : goal.returns-then-not-is_bare_entry-clause-damaged
returns-then-not-is_bare_entry-clause-damaged c = λ is.
    let place = c.args.place.now in
    let slot = c.args.slot.now in
    let stored = c.args.stored.now in
    let read = sym c.decode_header.ensures.exact ∙ c.in-Some.is in
    by_path place.site place.number slot stored c.in-Some.header read (λ none.
    ap is_said_bare (said_by place.site place.number slot stored c.in-Some.header none c.requires.free read c.in_ok-body.body c.entry_in.result
    (c.in_ok-body.ensures ∙ behind_header stored) c.entry_in.ensures
    ∙ ap (option_map (seen place.site place.number slot stored)) c.in-Some-entry_in.is)
    ∙ sym (c.is_bare_entry.ensures session_owners) ∙ c.if-not-is_bare_entry.true)

pub returns-clause-said : goal.returns-clause-said
returns-clause-said c =
    let place = c.args.place.now in
    let slot = c.args.slot.now in
    let stored = c.args.stored.now in
    let read = sym c.decode_header.ensures.exact ∙ c.in-Some.is in
    let bare = sym (c.is_bare_entry.ensures session_owners) ∙ c.if-not-is_bare_entry.false in
    let none : (slot.numbers == 0) ≡ true = made_short place.site place.number slot stored c.in-Some.header c.in_ok-body.body c.in-Some-entry_in.entry
    (sym c.entry_in.ensures ∙ c.in-Some-entry_in.is) bare in
    record {
      said = said_by place.site place.number slot stored c.in-Some.header none c.requires.free read c.in_ok-body.body c.entry_in.result
          (c.in_ok-body.ensures ∙ behind_header stored) c.entry_in.ensures
          ∙ ap (option_map (seen place.site place.number slot stored)) c.in-Some-entry_in.is;
      bare = bare;
    }
