-- What a slot and the bytes of its chain say, in memory and in the reading.
use Rattle.std.proofs.Common.{◌≡◌, ℕ, ◌≤◌, ◌==◌, ◌&&◌, ◌||◌, Bool, true, false, cond, List, [], length, drop, Option, Some, None, refl, sym, ap, ◌∙◌, arith}
use Rattle.std.specs.Prelude.{option_map, nat_le, if◌then◌else◌, not, is_some}
use Rattle.std.specs.List.{list_all}
use Rattle.std.proofs.lemmas.Bool.{and_parts, leb-true, false≢true}
use Rattle.std.proofs.lemmas.Bool.Decides.{nat_tests}
use Rattle.std.proofs.lemmas.Option.{none-some, same_Some}
use Rattle.tq_types.specs.declared.messages.Entry.{Entry as HeldEntry}
use Rattle.tq_types.specs.Placed.{own_arrival}
use Rattle.tq_model.specs.Moves.{entry_view, session_owners}
use Rattle.tq_model.specs.Space.{Entry}
use Rattle.tq_slots.specs.declared.message.Header.{Header}
use Rattle.tq_slots.specs.declared.record.MessageSlot.{MessageSlot}
use Rattle.tq_slots.specs.MessageForm as form
use Rattle.tq_slots.specs.MessageForm.{entry_of_slot, entry_with, go_together, header_read, header_at, header_size, held_entry, is_free_slot, is_header}
use Rattle.tq_slots.specs.MessageForm.{label_of, slot_path, has_epoch}
use Rattle.tq_slots.specs.MessageSlots.{IndexedEntry, same_arrival, said_with_chain, said_with_path, are_one_message, entry_joined}
use Rattle.tq_slots.specs.SlotImages.{used_in}
use Rattle.tq_slots.specs.SpaceReading.{chain_with, message_in, is_bare_entry, is_bare_message}
use Rattle.tq_store.specs.Filling.{is_said_bare}
use Rattle.tq_store.proofs.ReadSpaceLemmas.{some_where}

same_number : (m n : ℕ) → (m == n) ≡ (n == m)
same_number m n = grind (arith, nat_tests)

-- a header of so many bytes in all stands before its body
pub header_long : (joined : ℕ) (bytes : List ℕ) (h : Header) → header_read joined bytes ≡ Some h → 256 ≤ length bytes
unfolding header_read
header_long joined bytes h is =
    let t1 = (some_where (is_header joined bytes) (Some (header_at bytes)) h is).0 in
    let t2 = (and_parts _ _ t1).0 in
    let t3 = (and_parts _ _ t2).0 in
    let t4 = (and_parts _ _ t3).0 in
    let t5 = (and_parts _ _ t4).0 in
    let t6 = (and_parts _ _ t5).0 in
    let t7 = (and_parts _ _ t6).0 in
    leb-true 256 (length bytes) (and_parts (nat_le 256 (length bytes)) _ t7).0

-- ---- the entry

mapped : {X Y Z : Type 0} (f : Y → Z) (g : X → Y) (b : Bool) (x : X) → cond b (Some (f (g x))) None ≡ option_map f (option_map g (cond b (Some x) None))
mapped f g true x = refl
mapped f g false x = refl

-- where a slot has no path, and none is judged
chosen : {X Y Z : Type 0} (f : Y → Z) (g : X → Y) (x : Bool → X) (own epochs : Bool → Bool) (one none all : Bool) → none ≡ true → epochs true ≡ true
    → cond none (cond (one && own true) (Some (f (g (x true)))) None) (cond all (cond (one && own false) (Some (f (g (x false)))) None) None)
    ≡ option_map f (option_map g (cond (one && (none || all) && epochs none && own none) (Some (x none)) None))
chosen f g x own epochs true true all is e =
    mapped f g (own true) (x true) ∙ ap (λ (b : Bool). option_map f (option_map g (cond (b && own true) (Some (x true)) None))) (sym e)
chosen f g x own epochs false true all is e = refl
chosen f g x own epochs one false all is e = absurd (false≢true is)

-- ---- a path is not built

not_both : (x m : Bool) → ((x && false) && m) ≡ false
not_both true m = refl
not_both false m = refl

-- an entry with a path is not bare
pub not_bare : (e : Entry) → (length e.label.path == 0) ≡ false → is_bare_entry e ≡ false
not_bare e long =
    let root = e.label.root in
    let before = not root.top && (root.priority == 50 && root.available == 0) && not (is_some root.expiration) in
    ap (λ (b : Bool). (before && b) && is_bare_message e.message) long ∙ not_both before (is_bare_message e.message)

mapped_some : {X Y : Type 0} (f : X → Y) (b : Bool) (x : X) (y : Y) → option_map f (if b then Some x else None) ≡ Some y → (b ≡ true) × (f x ≡ y)
mapped_some f true x y is = (refl, same_Some (f x) y is)
mapped_some f false x y is = absurd (none-some y is)

true_unless : (b : Bool) → (b ≡ false → ⊥) → b ≡ true
true_unless true never = refl
true_unless false never = absurd (never refl)

-- as many as the path has, and not none
same_length : (n m : ℕ) (b : Bool) → (n == m) ≡ b → (n == 0) ≡ false → b ≡ true → (m == 0) ≡ false
same_length n m b same zero true_it = grind (arith, nat_tests)

path_said : (b n : Bool) (e : IndexedEntry) → (n ≡ true → (length e.entry.label.path == 0) ≡ false)
    → is_said_bare (if n then (if b then Some e else None) else None) ≡ false
path_said true true e long = not_bare e.entry (long refl)
path_said false true e long = refl
path_said b false e long = refl

module _ (site number : ℕ) (slot : MessageSlot) (stored : List ℕ) where
  -- an entry as it is held, and as the law of slots has it
  abbrev pub held : Entry → HeldEntry
  held e = held_entry slot.queue (drop 256 stored) e

  abbrev pub seen : HeldEntry → IndexedEntry
  seen e = record { queue = e.queue; entry = entry_view session_owners e }

  -- the entry with no path, or with the header's
  abbrev entry_by : Header → Bool → Entry
  entry_by h none = record (entry_with site number slot h) { label = record (label_of slot h) { path = if none then [] else h.path } }

  abbrev own_by : Header → Bool → Bool
  own_by h none = same_arrival (own_arrival (record (label_of slot h) { path = if none then [] else h.path })) (form.slot_arrival slot)

  -- the path's epochs are judged where there is one
  abbrev epochs_by : Header → Bool → Bool
  epochs_by h none = list_all has_epoch (if none then [] else h.path)

  said_together : (h : Header) → (slot.numbers == 0) ≡ true → said_with_chain site number (used_in slot) (Some (chain_with h (drop 256 stored)))
      ≡ option_map seen (option_map held (if go_together slot h then Some (entry_with site number slot h) else None))
  said_together h none =
      (λ i. cond (slot.numbers == 0)
      (cond ((same_number h.arrival.epoch slot.epoch i && same_number h.arrival.number slot.number i) && own_by h true)
      (Some (seen (held (entry_by h true)))) None)
      (cond (slot.numbers == length h.path)
      (cond ((same_number h.arrival.epoch slot.epoch i && same_number h.arrival.number slot.number i) && own_by h false)
      (Some (seen (held (entry_by h false)))) None)
      None))
      ∙ chosen seen held (entry_by h) (own_by h) (epochs_by h) (same_arrival (form.slot_arrival slot) h.arrival) (slot.numbers == 0) (slot.numbers == length h.path)
      none refl

  pub said_of_slot : (h : Header) → (slot.numbers == 0) ≡ true → is_free_slot slot ≡ true → header_read (length stored) stored ≡ Some h
      → said_with_chain site number (used_in slot) (message_in stored) ≡ option_map seen (option_map held (entry_of_slot site number slot h))
  unfolding entry_of_slot
  said_of_slot h none free read =
      ap (λ (o : Option Header). said_with_chain site number (used_in slot) (option_map (λ (x : Header). chain_with x (drop 256 stored)) o)) read
      ∙ said_together h none
      ∙ ap (λ (b : Bool). option_map seen (option_map held (if b && go_together slot h then Some (entry_with site number slot h) else None))) (sym free)

  -- the same of an entry that was made
  pub said_by : (h : Header) → (slot.numbers == 0) ≡ true → is_free_slot slot ≡ true → header_read (length stored) stored ≡ Some h → (body : List ℕ) (o : Option HeldEntry)
      → body ≡ drop 256 stored
      → o ≡ option_map (held_entry slot.queue body) (entry_of_slot site number slot h)
      → said_with_chain site number (used_in slot) (message_in stored) ≡ option_map seen o
  said_by h none free read body o body_is is =
      said_of_slot h none free read
      ∙ ap (λ (b : List ℕ). option_map seen (option_map (held_entry slot.queue b) (entry_of_slot site number slot h))) (sym body_is)
      ∙ ap (option_map seen) (sym is)

  -- What is said of a slot with a path is not bare.
  pub said_long : (h : Header) → (slot.numbers == 0) ≡ false → header_read (length stored) stored ≡ Some h
      → is_said_bare (said_with_chain site number (used_in slot) (message_in stored)) ≡ false
  said_long h long read =
      let c = chain_with h (drop 256 stored) in
      let named : (b n : Bool) → (slot.numbers == length h.path) ≡ n → slot.numbers == 0 ≡ false
      → is_said_bare (if n then (if b then Some (entry_joined site number (used_in slot) c h.path) else None) else None) ≡ false =
      λ b n same zero. path_said b n (entry_joined site number (used_in slot) c h.path) (same_length slot.numbers (length h.path) n same zero) in
      ap (λ (o : Option Header). is_said_bare (said_with_chain site number (used_in slot) (option_map (λ (x : Header). chain_with x (drop 256 stored)) o))) read
      ∙ ap (λ (b : Bool). is_said_bare (if b then said_with_path site number (used_in slot) c []
      else (if slot.numbers == length h.path then said_with_path site number (used_in slot) c h.path else None))) long
      ∙ named (are_one_message (used_in slot) c h.path) (slot.numbers == length h.path) refl long

  -- An entry that is made and bare has no path.
  pub made_short : (h : Header) (body : List ℕ) (e : HeldEntry) → option_map (held_entry slot.queue body) (entry_of_slot site number slot h) ≡ Some e
      → is_bare_entry (entry_view session_owners e) ≡ true → (slot.numbers == 0) ≡ true
  unfolding entry_of_slot
  made_short h body e is bare =
      let made = mapped_some (held_entry slot.queue body) (is_free_slot slot && go_together slot h) (entry_with site number slot h) e is in
      true_unless (slot.numbers == 0) (λ long.
      let together = (and_parts _ _ made.0).1 in
      let paths = (and_parts _ _ (and_parts _ _ (and_parts _ _ together).0).0).1 in
      let path : slot_path slot h ≡ h.path = ap (λ (b : Bool). if b then [] else h.path) long in
      let same : (slot.numbers == length h.path) ≡ true = ap (λ (b : Bool). b || slot.numbers == length h.path) (sym long) ∙ paths in
      let size : (length (slot_path slot h) == 0) ≡ false = ap (λ (l : _). length l == 0) path ∙ same_length slot.numbers (length h.path) true same long refl in
      let not_it = ap (λ (x : HeldEntry). is_bare_entry (entry_view session_owners x)) (sym made.1)
      ∙ not_bare (entry_view session_owners (held_entry slot.queue body (entry_with site number slot h))) size in
      absurd (false≢true (sym not_it ∙ bare)))
