-- Slots of messages that are filled in one after another.
use Rattle.std.proofs.Common.{◌≡◌, ℕ, zero, suc, ◌+◌, ◌*◌, ◌≤◌, Bool, true, false, List, [], ◌∷◌, ◌++◌, map, length, get_or, Option, Some, None, refl, sym}
use Rattle.std.proofs.Common.{ap, ◌∙◌, subst, arith, ⊎_elim, inl, inr}
use Rattle.std.specs.Prelude.{is_some, nat_le}
use Rattle.std.specs.Option.{option_and_then}
use Rattle.std.specs.List.{All, find, list_all, list_any}
use Rattle.std.proofs.lemmas.Bool.{and_from, and_parts, false≢true, le-leb}
use Rattle.std.proofs.lemmas.List.{append_assoc, length-append, map-append}
use Rattle.std.proofs.lemmas.List.Elements.{All-head, All-tail, All-weaker, filter_map-append}
use Rattle.tq_types.specs.declared.messages.Qos.{Qos}
use Rattle.tq_types.specs.declared.messages.Qos.TheVariants.{Persistent, NonPersistent}
use Rattle.tq_types.proofs.LabelOrder.{arrival_total}
use Rattle.tq_model.specs.declared.space.Shape.{Shape}
use Rattle.tq_model.specs.Space.{Entry, Limits, limits_of, overhead_pages}
use Rattle.tq_model.specs.Moves.{IndexedQueue, IndexedSpace, has_index, space_of}
use Rattle.tq_model.specs.Plain.{HasOnlySurvivors, SurvivesCrash}
use Rattle.tq_model.specs.Reading.{no_two}
use Rattle.tq_model.specs.Room.{messages_held, pages_held}
use Rattle.tq_model.specs.SpaceForm.{holds_arrival}
use Rattle.tq_pages.specs.Content.{HasChain, IsBad, chain_bytes}
use Rattle.tq_pages.specs.Store.{IsStore, Store, new_store, size_of}
use Rattle.tq_space.proofs.Counts.{any-find}
use Rattle.tq_space.proofs.OptionLemmas.{some_mapped}
use Rattle.tq_slots.specs.declared.record.BranchSlot.{BranchSlot}
use Rattle.tq_slots.specs.declared.record.MessageSlot.{MessageSlot}
use Rattle.tq_slots.specs.declared.record.QueueSlot.{QueueSlot}
use Rattle.tq_slots.specs.KeptEntries.{kept_in}
use Rattle.tq_slots.specs.MessageForm as form
use Rattle.tq_slots.specs.MessageSlots.{IndexedEntry, Slots, UsedSlot, said_with_chain, says, slot_arrival}
use Rattle.tq_slots.specs.QueueForm.{are_one_number, queue_of_slot}
use Rattle.tq_slots.specs.QueueSlots.{have_one_arrival, names_used_queue, the_def, used_slots}
use Rattle.tq_slots.specs.SlotImages.{used_in, used_of}
use Rattle.tq_slots.specs.SpaceOrder.{IsOneOf}
use Rattle.tq_slots.specs.SpaceReading.{chain_in, is_bare_entry, is_bare_queue, is_persistent_queue, joined, message_at, message_in, pages_of_slots, space_by}
use Rattle.tq_slots.proofs.ListLemmas.{of_all, some_injective, some_none, the_some}
use Rattle.tq_slots.proofs.MessageSlotLemmas.{arrival_itself, exact_arrivals}
use Rattle.tq_slots.proofs.TableLemmas.{there_said}
use Rattle.tq_store.specs.declared.place.SpacePlace.{SpacePlace}
use Rattle.tq_store.specs.Filling.{HasEntered, HasFilled, HasQueues, HasRead, IsFilled, IsLoadedEntry, IsLoadedQueue, IsUnfit, IsUnsaid, is_said_bare, slots_of}
use Rattle.tq_store.specs.Stored.{HasStore, pages_in}
use Rattle.tq_store.proofs.BadChainLemmas.{in_right, no_two_across, not_bad}
use Rattle.tq_store.proofs.ChainReadingLemmas.{chain_read}
use Rattle.tq_store.proofs.StoreChangeLemmas.{added_message}
use Rattle.tq_store.proofs.HeldLemmas.{held_empty, held_more, held_none, slots-snoc, table_empty, table_full, used_none_more}
use Rattle.tq_store.proofs.MessageFillLemmas.{arrival_kept, loaded_more, messages_more, pages_more_by}
use Rattle.tq_store.proofs.ReadSpaceLemmas.{IsReadAs, bare_said, none_by, read_parts}
use Rattle.tq_store.proofs.StoreFillLemmas.{chains_more, covered_empty, covered_more, free_empty, store_empty, store_more, store_none, store_of_slots}

-- a chain of a store with these slots is read
module _ (shape : Shape) (clusters : List ℕ) (queues : List QueueSlot) (messages : List MessageSlot) (store : Store)
    (has : HasStore shape clusters (slots_of queues messages []) store) (bytes : List ℕ) (g : ℕ) (some : 1 ≤ size_of store g)
    (chain : HasChain store g bytes) where
  chain_there : chain_in shape bytes g ≡ Some (pages_in store g)
  chain_there = chain_read shape store has.is has.pages g (λ k lt. has.within g k lt) bytes chain some

-- ---- no slots of messages

module _ (place : SpacePlace) (shape : Shape) (clusters : List ℕ) (queues : List QueueSlot) (s : IndexedSpace)
    (has : HasQueues place.site place.number shape queues s)
    (first pages : ℕ) (overhead : first ≡ overhead_pages shape) (all : first + pages ≡ shape.pages)
    (is : IsStore (new_store place.dev clusters first pages)) where
  pub begun_filled : HasFilled place shape clusters queues [] s (new_store place.dev clusters first pages)
  begun_filled =
      let limits = ap (λ (t : IndexedSpace). t.limits.pages) has.loaded.is in
      let free = free_empty shape clusters queues place.dev first pages overhead all is in
      record {
        loaded = has.loaded;
        few = omega (arith, has.messages);
        store = store_empty shape clusters queues place.dev first pages overhead all is;
        dev = refl;
        room = omega (arith, has.pages, limits, free, overhead, all);
        covered = covered_empty shape clusters queues place.dev first pages overhead all is;
        held = held_empty place.site place.number shape queues (new_store place.dev clusters first pages) s has;
      }

  pub begun_read : (bytes : List ℕ) → HasRead place.site place.number shape [] s (new_store place.dev clusters first pages) bytes
  begun_read bytes = record { chains = λ i m at. absurd (some_none (sym at)); kept = ap Some (sym has.kept) }

module _ (place : SpacePlace) (shape : Shape) (clusters : List ℕ) (queues : List QueueSlot) (messages : List MessageSlot) (slot : MessageSlot)
    (s : IndexedSpace)
    (store : Store) (has : HasFilled place shape clusters queues messages s store) where
  -- ---- an empty slot more

  pub none_filled : used_of slot ≡ None → HasFilled place shape clusters queues (messages ++ slot ∷ []) s store
  none_filled none =
      let size = length-append messages (slot ∷ []) in
      record {
        loaded = has.loaded;
        few = omega (arith, has.few, size);
        store = store_none shape clusters queues messages slot store none has.store;
        dev = has.dev;
        room = has.room;
        covered = has.covered;
        held = held_none place.site place.number messages slot none queues store s has.held;
      }

  pub none_read : (bytes : List ℕ) → used_of slot ≡ None → HasRead place.site place.number shape messages s store bytes
      → HasRead place.site place.number shape (messages ++ slot ∷ []) s store bytes
  none_read bytes none read =
      record {
        chains = λ i m at. read.chains i m (used_none_more place.site place.number messages slot none i m at);
        kept = table_empty place.site place.number messages slot none (message_at shape bytes) (kept_in s) read.kept;
      }

  module _ (used : used_of slot ≡ Some (used_in slot)) (bytes : List ℕ) where
    -- ---- a message more

    module _ (s' : IndexedSpace) (new : Store) (told : Type 0) (e : HasEntered place.site place.number slot s s' store new told bytes) where
      pub message_filled : HasFilled place shape clusters queues (messages ++ slot ∷ []) s' new
      message_filled =
          let size = length-append messages (slot ∷ []) in
          let more = messages_more place.site place.number shape queues s has.loaded slot e.stored e.item e.message e.there e.first_one in
          let pages = pages_more_by place.site place.number shape queues s has.loaded slot e.stored e.item e.message e.there e.first_one in
          let count = e.added.pages.count in
          subst (λ (t : IndexedSpace). HasFilled place shape clusters queues (messages ++ slot ∷ []) t new) (sym e.space)
          (record {
            loaded = loaded_more place.site place.number shape queues s has.loaded slot e.stored e.item e.message e.there e.first_one;
            few = omega (arith, has.few, more, size);
            store = store_more shape clusters queues messages slot store new (length e.stored) has.store used e.some e.added e.sound;
            dev = e.added.pages.dev ∙ has.dev;
            room = omega (arith, has.room, pages, count);
            covered = covered_more shape clusters queues messages slot store new (length e.stored) has.store used e.some e.added e.sound has.covered;
            held = held_more place.site place.number shape queues messages slot s has.loaded used e.stored e.item e.message e.there e.first_one clusters store new
                has.store e.some e.added e.sound has.held;
          })

      pub message_filled_from : told → 1024 * shape.pages ≤ length bytes → HasRead place.site place.number shape messages s store bytes
          → HasRead place.site place.number shape (messages ++ slot ∷ []) s' new bytes
      message_filled_from t long read =
          let chain = added_message shape clusters (slots_of queues messages []) store new slot.first (length e.stored) has.store e.sound e.added bytes
          (e.chain t) e.some
          (subst (λ (n : ℕ). 1024 * n ≤ length bytes) (sym has.store.pages) long) ∙ ap message_in (sym (e.read t)) in
          subst (λ (x : IndexedSpace). HasRead place.site place.number shape (messages ++ slot ∷ []) x new bytes) (sym e.space)
          (record {
            chains = chains_more shape clusters queues messages slot store new (length e.stored) has.store used e.some e.added e.sound bytes read.chains
                (e.chain t);
            kept = table_full place.site place.number shape queues messages slot s has.loaded used e.stored e.item e.message e.there e.first_one
                (message_at shape bytes) chain read.kept;
          })

    -- ---- a slot that is not one more

    module _ (read : HasRead place.site place.number shape messages s store bytes) (long : 1024 * shape.pages ≤ length bytes)
        (all rest : List MessageSlot) (parts : all ≡ (messages ++ slot ∷ []) ++ rest) (branches : List BranchSlot) where
      abbrev u : UsedSlot
      u = used_in slot

      abbrev before : Slots
      before = map used_of messages

      abbrev behind : Slots
      behind = map used_of rest

      slots_are : map used_of all ≡ before ++ Some u ∷ behind
      slots_are =
          ap (map used_of) parts ∙ map-append used_of (messages ++ slot ∷ []) rest ∙ ap (λ (l : Slots). l ++ behind) (slots-snoc messages slot (Some u) used)
          ∙ append_assoc before (Some u ∷ []) behind

      used_are : used_slots (map used_of all) ≡ used_slots before ++ (u ∷ used_slots behind)
      used_are = ap (λ (l : Slots). used_slots l) slots_are ∙ filter_map-append (λ (o : Option UsedSlot). o) before (Some u ∷ behind)

      u_used : IsOneOf (used_slots (map used_of all)) u
      u_used = subst (λ (l : List UsedSlot). IsOneOf l u) (sym used_are) (in_right have_one_arrival (used_slots before) (u ∷ used_slots behind) u (inl refl))

      listed : (slots : Slots) (i : ℕ) (m : UsedSlot) → get_or slots i None ≡ Some m → IsOneOf (used_slots slots) m
      listed [] i m at = absurd (some_none (sym at))
      listed (None ∷ slots) zero m at = absurd (some_none (sym at))
      listed (None ∷ slots) (suc i) m at = listed slots i m at
      listed (Some r ∷ slots) zero m at = inl (some_injective at)
      listed (Some r ∷ slots) (suc i) m at = inr (listed slots i m at)

      module _ (t : IndexedSpace) (r : IsReadAs place.site place.number shape bytes (slots_of queues all branches) t) where
        said_there : (e : IndexedEntry) × (says place.site place.number (message_at shape bytes) u ≡ Some e)
        said_there = the_some (says place.site place.number (message_at shape bytes) u)
            (of_all (λ (m : UsedSlot). is_some (says place.site place.number (message_at shape bytes) m)) (used_slots (map used_of all)) u r.say u_used)

        queue_there : list_any (has_index slot.queue) s.queues ≡ false → ⊥
        queue_there none =
            let named = of_all (names_used_queue (map queue_of_slot queues)) (used_slots (map used_of all)) u r.queues_used u_used in
            let found = find (has_index slot.queue) s.queues in
            let there : list_any (has_index slot.queue) s.queues ≡ true =
            any-find (has_index slot.queue) s.queues ∙ sym (some_mapped the_def found) ∙ ap is_some (sym (has.loaded.have slot.queue)) ∙ named in
            false≢true (sym none ∙ there)

        arrival_once : holds_arrival s (form.slot_arrival slot) ≡ true → ⊥
        arrival_once some =
            let k = arrival_kept place.site place.number shape queues s has.loaded (form.slot_arrival slot) some in
            let m = there_said arrival_total exact_arrivals slot_arrival (says place.site place.number (message_at shape bytes)) before
            (form.slot_arrival slot) k.0
            (kept_in s) read.kept k.1 in
            no_two_across have_one_arrival (used_slots before) (u ∷ used_slots behind) m.0 u (ap (no_two have_one_arrival) (sym used_are) ∙ r.arrivals) m.1
            (inl refl)
            (arrival_itself m.0.arrival u.arrival m.3)

        chain_said : (o : Option (List ℕ)) → chain_in shape bytes u.first ≡ o → (pages : List ℕ) × (chain_in shape bytes u.first ≡ Some pages)
        chain_said None none =
            let nothing : message_at shape bytes u.first ≡ None = ap (option_and_then (λ (pages : List ℕ). message_in (joined bytes pages))) none in
            absurd (some_none (sym said_there.1 ∙ ap (said_with_chain place.site place.number u) nothing))
        chain_said (Some pages) some = (pages, some)

        chain_good : (page : ℕ) → IsBad store bytes slot.first page → ⊥
        chain_good page bad =
            let c = chain_said (chain_in shape bytes u.first) refl in
            not_bad shape bytes before behind u (ap (λ (l : Slots). no_two are_one_number (pages_of_slots shape bytes l)) (sym slots_are) ∙ r.apart) c.0 c.1
            store has.covered
            (λ g some.
            let m = has.store.slots g some in
            let chain : HasChain store g bytes = subst (λ (n : ℕ). HasChain store n bytes) m.3 (read.chains m.0 m.1 m.2) in
            (m.1, listed before m.0 m.1 m.2, m.3, chain_there shape clusters queues messages store has.store bytes g some chain))
            page bad

        said_well : IsUnsaid place.site place.number slot store bytes → ⊥
        said_well x =
            let chain = added_message shape clusters (slots_of queues messages []) store x.new slot.first x.size has.store x.sound x.added bytes x.chain x.some
            (subst (λ (n : ℕ). 1024 * n ≤ length bytes) (sym has.store.pages) long) in
            let e = said_there in
            let bare = bare_said place.site place.number shape bytes (slots_of queues all branches) t r u e.0 u_used e.1 in
            let said : said_with_chain place.site place.number u (message_in (chain_bytes x.new slot.first bytes)) ≡ Some e.0 =
            ap (said_with_chain place.site place.number u) (sym chain) ∙ e.1 in
            false≢true (sym x.unsaid ∙ ap is_said_bare said ∙ bare)

      pub unfit_unread : IsUnfit place.site place.number slot s store bytes
          → space_by place.site place.number shape bytes (slots_of queues all branches) ≡ None
      unfit_unread unfit =
          none_by (space_by place.site place.number shape bytes (slots_of queues all branches)) (λ t h.
          let r = read_parts place.site place.number shape bytes (slots_of queues all branches) t h in
          ⊎_elim (queue_there t r) (λ a. ⊎_elim (arrival_once t r) (λ b. ⊎_elim (λ bad. chain_good t r bad.0 bad.1) (said_well t r) b) a) unfit)

-- ---- all slots

persistent_is : (q : Qos) → is_persistent_queue q ≡ true → q ≡ Persistent
persistent_is Persistent h = refl
persistent_is NonPersistent h = absurd (false≢true h)

all_pass : {X : Type 0} (P : X → Type 0) (test : X → Bool) → ((x : X) → P x → test x ≡ true) → (xs : List X) → All P xs → list_all test xs ≡ true
all_pass P test pass [] all = refl
all_pass P test pass (x ∷ xs) all =
    and_from (test x) (list_all test xs) (pass x (All-head P x xs all)) (all_pass P test pass xs (All-tail P x xs all))

module _ (site number : ℕ) (q : IndexedQueue) (is : IsLoadedQueue site number q) where
  bare_whole : is_bare_queue q.queue ≡ true
  bare_whole =
      let items = all_pass (IsLoadedEntry site number) is_bare_entry (λ x l. l.bare) q.queue.items is.items in
      and_from _ (list_all is_bare_entry q.queue.items) (and_parts _ _ is.def).0 items

  only_survivors : HasOnlySurvivors q
  only_survivors = record {
    qos = persistent_is q.queue.qos (and_parts _ _ (and_parts _ _ (and_parts _ _ is.def).0).0).1;
    items = All-weaker (IsLoadedEntry site number) SurvivesCrash (λ x l. l.lasts) q.queue.items is.items;
  }

module _ (place : SpacePlace) (shape : Shape) (clusters : List ℕ) (queues : List QueueSlot) (messages : List MessageSlot) (s : IndexedSpace) (store : Store)
    (has : HasFilled place shape clusters queues messages s store) (size : length messages ≡ shape.messages) where
  limits_are : s.limits ≡ limits_of shape
  limits_are = ap (λ (t : IndexedSpace). t.limits) has.loaded.is

  pub whole_filled : IsFilled place shape clusters queues messages s store
  whole_filled =
      let site_is = ap (λ (t : IndexedSpace). t.site) has.loaded.is in
      let number_is = ap (λ (t : IndexedSpace). t.number) has.loaded.is in
      let most = ap (λ (l : Limits). l.messages) limits_are in
      let bare = all_pass (IsLoadedQueue place.site place.number) (λ (q : IndexedQueue). is_bare_queue q.queue) (bare_whole place.site place.number)
      s.queues has.loaded.each in
      record {
        is = has.loaded.is;
        space = record {
          site = site_is;
          number = number_is;
          limits = limits_are;
          error = ap (λ (t : IndexedSpace). t.error) has.loaded.is;
          own = All-weaker (IsLoadedQueue place.site place.number)
              (λ (q : IndexedQueue). All (λ (x : Entry). (x.message.id.site ≡ s.site) × (x.message.id.space ≡ s.number)) q.queue.items)
              (λ q is. All-weaker (IsLoadedEntry place.site place.number) (λ (x : Entry). (x.message.id.site ≡ s.site) × (x.message.id.space ≡ s.number))
              (λ x l. (l.own.0 ∙ sym site_is, l.own.1 ∙ sym number_is)) q.queue.items is.items)
              s.queues has.loaded.each;
          plain = All-weaker (IsLoadedQueue place.site place.number) HasOnlySurvivors (only_survivors place.site place.number) s.queues has.loaded.each;
          tests = and_from (nat_le (messages_held (space_of s)) s.limits.messages) _
              (le-leb (messages_held (space_of s)) s.limits.messages (omega (arith, has.few, size, most)))
              (and_from (nat_le (pages_held (space_of s)) s.limits.pages) _ (le-leb (pages_held (space_of s)) s.limits.pages (omega (arith, has.room)))
              (and_from (list_all (λ (q : IndexedQueue). is_bare_queue q.queue) s.queues) true bare refl));
        };
        store = λ branches. store_of_slots shape clusters queues queues messages [] branches store has.store;
        dev = has.dev;
        room = has.room;
      }
