-- No page is in two chains.
use Rattle.std.proofs.Common.{◌≡◌, ◌<◌, ◌≤◌, inl, inr, ℕ, zero, suc, ◌+◌, Bool, true, not, List, [], ◌∷◌, ◌++◌, map, Option, None, Some, refl, sym}
use Rattle.std.proofs.Common.{ap, subst, ◌∙◌, arith}
use Rattle.std.specs.Prelude.{slice_index_or, unwrap_or}
use Rattle.std.specs.List.{list_all}
use Rattle.std.proofs.lemmas.Bool.{and_from, and_parts, not_from_false}
use Rattle.std.proofs.lemmas.List.Folds.{list_all-append}
use Rattle.tq_model.specs.declared.space.Shape.{Shape}
use Rattle.tq_model.specs.Moves.{IndexedSpace}
use Rattle.tq_model.specs.Reading.{hold_all, no_two}
use Rattle.tq_model.specs.Site.{numbers_from}
use Rattle.tq_extent.specs.Bytes.{owned_bytes}
use Rattle.tq_pages.specs.Store.{Store, count_of, page_of}
use Rattle.tq_slots.specs.MessageSlots.{UsedSlot, Slots}
use Rattle.tq_slots.specs.QueueForm.{are_one_number}
use Rattle.tq_slots.specs.QueueSlots.{used_slots}
use Rattle.tq_slots.specs.SlotImages.{RawSlots, slots_in, queue_slots_in}
use Rattle.tq_slots.specs.SpaceOrder.{IsOneOf}
use Rattle.tq_slots.specs.SpaceReading.{are_sound, slot_tests, chain_in, message_at, pages_of_slot, pages_of_slots}
use Rattle.tq_slots.proofs.LawLemmas.{first_law}
use Rattle.tq_slots.proofs.ListLemmas.{eq_other, of_map, of_flat, to_all}
use Rattle.tq_store.specs.Stored.{HasStore, HasStored, HoldsSpace, pages_in}
use Rattle.tq_store.proofs.ChainReadingLemmas.{store_chain}

-- ---- lists without two alike

no_two_joined : (related : ℕ → ℕ → Bool) (xs ys : List ℕ) → no_two related xs ≡ true → no_two related ys ≡ true
    → ((x y : ℕ) → IsOneOf xs x → IsOneOf ys y → not (related x y) ≡ true) → no_two related (xs ++ ys) ≡ true
no_two_joined related [] ys one two cross = two
no_two_joined related (x ∷ xs) ys one two cross =
    let parts = and_parts (list_all (λ y. not (related x y)) xs) (no_two related xs) one in
    and_from (list_all (λ y. not (related x y)) (xs ++ ys)) (no_two related (xs ++ ys))
    (list_all-append (λ y. not (related x y)) xs ys
    ∙ and_from (list_all (λ y. not (related x y)) xs) (list_all (λ y. not (related x y)) ys) parts.0
    (to_all (λ y. not (related x y)) ys (λ y h. cross x y (inl refl) h)))
    (no_two_joined related xs ys parts.1 two (λ z y h k. cross z y (inr h) k))

not_alike : (x y : ℕ) → (x ≡ y → ⊥) → not (are_one_number x y) ≡ true
not_alike x y other = not_from_false (are_one_number x y) (eq_other x y other)

-- one of numbers that follow one another
one_from : (first n k : ℕ) → IsOneOf (numbers_from first n) k → (first ≤ k) × (k < first + n)
one_from first zero k h = absurd h
one_from first (suc n) k (inl e) = (omega (arith, e), omega (arith, e))
one_from first (suc n) k (inr h) = let rest = one_from (first + 1) n k h in (omega (arith, rest.0), omega (arith, rest.1))

no_two_pages : (f : ℕ → ℕ) (first n : ℕ) → ((j k : ℕ) → j < first + n → k < first + n → f j ≡ f k → j ≡ k)
    → no_two are_one_number (map f (numbers_from first n)) ≡ true
no_two_pages f first zero apart = refl
no_two_pages f first (suc n) apart =
    let rest = map f (numbers_from (first + 1) n) in
    and_from (list_all (λ y. not (are_one_number (f first) y)) rest) (no_two are_one_number rest)
    (to_all (λ y. not (are_one_number (f first) y)) rest (λ y h.
    let k = of_map f (numbers_from (first + 1) n) y h in
    let range = one_from (first + 1) n k.0 k.1 in
    not_alike (f first) y (λ same. let one = apart first k.0 (omega arith) (omega (arith, range.1)) (same ∙ sym k.2) in omega (arith, one, range.0))))
    (no_two_pages f (first + 1) n (λ j k lt_j lt_k same. apart j k (omega arith) (omega arith) same))

-- the index of a used slot
used_at : (slots : Slots) (m : UsedSlot) → IsOneOf (used_slots slots) m → (i : ℕ) × (slice_index_or slots i None ≡ Some m)
used_at [] m h = absurd h
used_at (None ∷ slots) m h = let rest = used_at slots m h in (suc rest.0, rest.1)
used_at (Some x ∷ slots) m (inl e) = (0, ap Some e)
used_at (Some x ∷ slots) m (inr h) = let rest = used_at slots m h in (suc rest.0, rest.1)

-- ---- the chains of slots

module _ (shape : Shape) (bytes : List ℕ) (raw : RawSlots) (clusters : List ℕ) (store : Store) (has : HasStore shape clusters raw store) where
  -- the slots have these chains, and no two the same one
  record HaveOwn (slots : Slots) : Type 0 where
    chains : (i : ℕ) (m : UsedSlot) → slice_index_or slots i None ≡ Some m → chain_in shape bytes m.first ≡ Some (pages_in store m.first)
    differ : (i j : ℕ) (m r : UsedSlot) → slice_index_or slots i None ≡ Some m → slice_index_or slots j None ≡ Some r → m.first ≡ r.first → i ≡ j

  tail_own : (x : Option UsedSlot) (slots : Slots) → HaveOwn (x ∷ slots) → HaveOwn slots
  tail_own x slots own = record {
    chains = λ i m at. own.chains (suc i) m at;
    differ = λ i j m r at_i at_j same. let one = own.differ (suc i) (suc j) m r at_i at_j same in omega arith;
  }

  -- a page of a slot is one of its chain
  of_slot : (m : UsedSlot) (page : ℕ) → chain_in shape bytes m.first ≡ Some (pages_in store m.first) → IsOneOf (pages_of_slot shape bytes m) page
      → (k : ℕ) × (k < count_of store m.first) × (page_of store m.first k ≡ page)
  of_slot m page is h =
      let here = subst (λ (o : Option (List ℕ)). IsOneOf (unwrap_or o []) page) is h in
      let k = of_map (page_of store m.first) (numbers_from 0 (count_of store m.first)) page here in
      let range = one_from 0 (count_of store m.first) k.0 k.1 in
      (k.0, omega (arith, range.1), k.2)

  no_two_of_slots : (slots : Slots) → HaveOwn slots → no_two are_one_number (pages_of_slots shape bytes slots) ≡ true
  no_two_of_slots [] own = refl
  no_two_of_slots (None ∷ slots) own = no_two_of_slots slots (tail_own None slots own)
  no_two_of_slots (Some m ∷ slots) own =
      let rest = tail_own (Some m) slots own in
      let here = own.chains 0 m refl in
      no_two_joined are_one_number (pages_of_slot shape bytes m) (pages_of_slots shape bytes slots)
      (ap (λ (o : Option (List ℕ)). no_two are_one_number (unwrap_or o [])) here
      ∙ no_two_pages (page_of store m.first) 0 (count_of store m.first)
      (λ j k lt_j lt_k same. has.is.distinct m.first j k (omega arith) (omega arith) same))
      (no_two_of_slots slots rest)
      (λ x y h g.
      let r = of_flat (pages_of_slot shape bytes) (used_slots slots) y g in
      let at = used_at slots r.0 r.1 in
      let a = of_slot m x here h in
      let b = of_slot r.0 y (rest.chains at.0 r.0 at.1) r.2 in
      not_alike x y (λ same.
      let one = has.is.apart m.first r.0.first a.0 b.0 a.1 b.1 (a.2 ∙ same ∙ sym b.2) in
      let index = own.differ 0 (suc at.0) m r.0 refl at.1 one in
      omega (arith, index)))

-- The slots and chains of an image that hold a space are sound.
pub stored_sound : (site number : ℕ) (shape : Shape) (clusters : List ℕ) (raw : RawSlots) (store : Store) (s : IndexedSpace) (image : List ℕ)
    → HasStore shape clusters raw store → HasStored shape clusters raw store image → HoldsSpace site number shape clusters raw s image
    → are_sound shape (owned_bytes clusters image) raw ≡ true
stored_sound site number shape clusters raw store s image has stored holds =
    let bytes = owned_bytes clusters image in
    and_from (hold_all (slot_tests raw)) (no_two are_one_number (pages_of_slots shape bytes (slots_in raw))) holds.slots
    (no_two_of_slots shape bytes raw clusters store has (slots_in raw) (record {
      chains = λ i m at. store_chain shape clusters raw store has image stored.reach m.first (has.chains i m at).1 (stored.chains i m at);
      differ = first_law site number (queue_slots_in raw) (slots_in raw) (message_at shape bytes) s holds.holds;
    }))
