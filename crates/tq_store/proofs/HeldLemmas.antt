-- What slots hold in memory, with one slot more.
use Rattle.std.proofs.Common.{◌≡◌, ℕ, ◌+◌, ◌≤◌, ◌==◌, Bool, true, false, cond, List, [], ◌∷◌, ◌++◌, map, length, drop, get_or, Option, Some, None, sym}
use Rattle.std.proofs.Common.{ap, ◌∙◌, arith, ⊎_elim}
use Rattle.std.specs.List.{list_any}
use Rattle.std.proofs.lemmas.Bool.{ne_eqb}
use Rattle.std.proofs.lemmas.List.{length-drop, map-append}
use Rattle.tq_types.specs.Label.{arrival_cmp}
use Rattle.tq_types.specs.declared.messages.Entry.{Entry as HeldEntry}
use Rattle.tq_model.specs.declared.space.Shape.{Shape}
use Rattle.tq_model.specs.declared.space.SpaceMove.TheVariants.{Insert}
use Rattle.tq_model.specs.Moves.{IndexedSpace, has_index, moved}
use Rattle.tq_model.specs.SpaceForm.{holds_arrival}
use Rattle.tq_pages.specs.Store.{HasAdded, IsStore, Store, size_of}
use Rattle.tq_space.proofs.OptionLemmas.{some_of}
use Rattle.tq_slots.specs.declared.message.Header.{Header}
use Rattle.tq_slots.specs.declared.record.BranchSlot.{BranchSlot}
use Rattle.tq_slots.specs.declared.record.MessageSlot.{MessageSlot}
use Rattle.tq_slots.specs.declared.record.QueueSlot.{QueueSlot}
use Rattle.tq_slots.specs.KeptEntries.{KeptEntries, kept_in}
use Rattle.tq_slots.specs.MessageForm as form
use Rattle.tq_slots.specs.MessageForm.{header_read, header_size}
use Rattle.tq_slots.specs.MessageSlots.{Chain, Chains, Slots, UsedSlot, says, slot_arrival}
use Rattle.tq_slots.specs.QueueForm.{queue_of_slot}
use Rattle.tq_slots.specs.SlotImages.{used_in, used_of}
use Rattle.tq_slots.specs.SlotTable.{table_of}
use Rattle.tq_slots.specs.SpaceReading.{chain_with, message_in}
use Rattle.tq_slots.proofs.LawLemmas.{chain_law}
use Rattle.tq_slots.proofs.ListLemmas.{eq_itself, some_injective, some_none}
use Rattle.tq_store.specs.File.{IsHeld}
use Rattle.tq_store.specs.Filling.{HasQueues, IsLoaded, IsMessage, slots_of}
use Rattle.tq_store.specs.Stored.{HasStore, IsUsedAt}
use Rattle.tq_store.proofs.MessageFillLemmas.{loaded_more, table_more}
use Rattle.tq_store.proofs.SaidLemmas.{header_long}
use Rattle.tq_store.proofs.SnocLemmas.{table-none}
use Rattle.tq_store.proofs.StoreFillLemmas.{size_kept, used_more}

pub slots-snoc : (messages : List MessageSlot) (slot : MessageSlot) (o : Option UsedSlot) → used_of slot ≡ o
    → map used_of (messages ++ slot ∷ []) ≡ map used_of messages ++ o ∷ []
slots-snoc messages slot o is = map-append used_of messages (slot ∷ []) ∙ ap (λ (x : Option UsedSlot). map used_of messages ++ x ∷ []) is

-- slots of branches hold nothing yet
pub held_of_slots : (site number : ℕ) (queues : List QueueSlot) (messages : List MessageSlot) (branches branches' : List BranchSlot) (store : Store)
    (s : IndexedSpace) → IsHeld site number (slots_of queues messages branches) store s → IsHeld site number (slots_of queues messages branches') store s
held_of_slots site number queues messages branches branches' store s held =
    record {
      chains = held.chains;
      holds = record { queues = held.holds.queues; kept = held.holds.kept; order = held.holds.order };
      sizes = λ i m c at is. held.sizes i m c at is;
    }

-- ---- no slots of messages

pub held_empty : (site number : ℕ) (shape : Shape) (queues : List QueueSlot) (store : Store) (s : IndexedSpace) → HasQueues site number shape queues s
    → IsHeld site number (slots_of queues [] []) store s
held_empty site number shape queues store s has =
    record {
      chains = λ page. None;
      holds = record { queues = has.loaded.have; kept = ap Some (sym has.kept); order = has.loaded.order };
      sizes = λ i m c at is. absurd (some_none (sym at));
    }

-- ---- an empty slot more

module _ (site number : ℕ) (messages : List MessageSlot) (slot : MessageSlot) (none : used_of slot ≡ None) where
  -- it says nothing
  pub table_empty : (chains : Chains) (kept : KeptEntries) → table_of arrival_cmp slot_arrival (says site number chains) (map used_of messages) ≡ Some kept
      → table_of arrival_cmp slot_arrival (says site number chains) (map used_of (messages ++ slot ∷ [])) ≡ Some kept
  table_empty chains kept t =
      ap (table_of arrival_cmp slot_arrival (says site number chains)) (slots-snoc messages slot None none) ∙ table-none slot_arrival (says site number chains) (map used_of messages) ∙ t

  -- each used slot is one of those before
  pub used_none_more : (i : ℕ) (m : UsedSlot) → IsUsedAt (slots_of [] (messages ++ slot ∷ []) []) i m → IsUsedAt (slots_of [] messages []) i m
  used_none_more i m at =
      ⊎_elim (λ before. before) (λ here. absurd (some_none (sym here)))
      (used_more (map used_of messages) None i m (sym (ap (λ (l : Slots). get_or l i None) (slots-snoc messages slot None none)) ∙ at))

  pub held_none : (queues : List QueueSlot) (store : Store) (s : IndexedSpace) → IsHeld site number (slots_of queues messages []) store s
      → IsHeld site number (slots_of queues (messages ++ slot ∷ []) []) store s
  held_none queues store s held =
      record {
        chains = held.chains;
        holds = record {
          queues = held.holds.queues;
          kept = table_empty held.chains (kept_in s) held.holds.kept;
          order = held.holds.order;
        };
        sizes = λ i m c at is. held.sizes i m c (used_none_more i m at) is;
      }

-- ---- a message more

-- with this one on the page
abbrev with_chain : ℕ → Option Chain → Chains → Chains
with_chain first c chains page = cond (page == first) c (chains page)

-- a chain is as long as its message
chain_size : (stored : List ℕ) (c : Chain) → message_in stored ≡ Some c → length stored ≡ header_size + length c.body
chain_size stored c is =
    let h = some_of (λ (x : Header). chain_with x (drop 256 stored)) (header_read (length stored) stored) c is in
    let long = header_long (length stored) stored h.0 h.1 in
    let body : length (drop 256 stored) ≡ length c.body = ap (λ (d : Chain). length d.body) h.2 in
    let rest = length-drop 256 stored in
    omega (arith, long, body, rest)

module _ (site number : ℕ) (shape : Shape) (queues : List QueueSlot) (messages : List MessageSlot) (slot : MessageSlot) (s : IndexedSpace)
    (loaded : IsLoaded site number shape queues s) (used : used_of slot ≡ Some (used_in slot)) (stored : List ℕ) (item : HeldEntry)
    (message : IsMessage site number slot stored item) (there : list_any (has_index slot.queue) s.queues ≡ true)
    (first_one : holds_arrival s (form.slot_arrival slot) ≡ false) where
  abbrev after : IndexedSpace
  after = moved (Insert item) s

  -- its chain says what came in
  pub table_full : (chains : Chains) → chains slot.first ≡ message_in stored
      → table_of arrival_cmp slot_arrival (says site number chains) (map used_of messages) ≡ Some (kept_in s)
      → table_of arrival_cmp slot_arrival (says site number chains) (map used_of (messages ++ slot ∷ [])) ≡ Some (kept_in after)
  table_full chains chain t =
      ap (table_of arrival_cmp slot_arrival (says site number chains)) (slots-snoc messages slot (Some (used_in slot)) used)
      ∙ table_more site number shape queues s loaded slot stored item message there first_one chains (map used_of messages) chain t

  module _ (clusters : List ℕ) (old new : Store) (has : HasStore shape clusters (slots_of queues messages []) old) (some : 1 ≤ length stored)
      (added : HasAdded old slot.first (length stored) new) (is : IsStore new) (held : IsHeld site number (slots_of queues messages []) old s) where
    abbrev chains_after : Chains
    chains_after = with_chain slot.first (message_in stored) held.chains

    chain_here : chains_after slot.first ≡ message_in stored
    chain_here = ap (λ (b : Bool). cond b (message_in stored) (held.chains slot.first)) (eq_itself slot.first)

    -- no used slot before it begins its chain
    chain_before : (i : ℕ) (m : UsedSlot) → IsUsedAt (slots_of queues messages []) i m → chains_after m.first ≡ held.chains m.first
    chain_before i m at =
        let some_there = (has.chains i m at).1 in
        ap (λ (b : Bool). cond b (message_in stored) (held.chains m.first))
        (ne_eqb m.first slot.first (λ e. (let none = ap (size_of old) e ∙ added.none in absurd (omega (arith, none, some_there)))))

    size_before : (i : ℕ) (m : UsedSlot) → IsUsedAt (slots_of queues messages []) i m → size_of new m.first ≡ size_of old m.first
    size_before i m at = size_kept shape clusters queues messages slot old new (length stored) has used some added is m.first (has.chains i m at).1

    size_here : (c : Chain) → chains_after slot.first ≡ Some c → size_of new slot.first ≡ header_size + length c.body
    size_here c at = added.is ∙ chain_size stored c (sym chain_here ∙ at)

    pub held_more : IsHeld site number (slots_of queues (messages ++ slot ∷ []) []) new after
    held_more =
        let more = loaded_more site number shape queues s loaded slot stored item message there first_one in
        let before = chain_law site number (map queue_of_slot queues) (map used_of messages) held.chains chains_after s held.holds chain_before in
        record {
          chains = chains_after;
          holds = record { queues = more.have; kept = table_full chains_after chain_here before.kept; order = more.order };
          sizes = λ i m c at is. ⊎_elim
              (λ old_one. size_before i m old_one ∙ held.sizes i m c old_one (sym (chain_before i m old_one) ∙ is))
              (λ new_one.
              let first : slot.first ≡ m.first = ap (λ (u : UsedSlot). u.first) (some_injective new_one) in
              ap (size_of new) (sym first) ∙ size_here c (ap chains_after first ∙ is))
              (used_more (map used_of messages) (Some (used_in slot)) i m (sym (ap (λ (l : Slots). get_or l i None) (slots-snoc messages slot (Some (used_in slot)) used)) ∙ at));
        }
