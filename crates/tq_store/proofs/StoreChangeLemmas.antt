-- A store with a chain more, and with one less, is that of the slots then.
use Rattle.std.proofs.Common.{◌≡◌, ◌≢◌, ◌⊎◌, inl, inr, ◌<◌, ◌≤◌, ℕ, ◌*◌, false, List, length, Some, refl, sym, ap, subst, ◌∙◌, arith}
use Rattle.std.proofs.lemmas.Bool.{cases_Bool, cases_eq, cases_lt}
use Rattle.tq_model.specs.declared.space.Shape.{Shape}
use Rattle.tq_model.specs.Space.{overhead_pages}
use Rattle.tq_pages.specs.Store.{Store, IsStore, HasAdded, chain_pages, is_free, size_of, count_of, page_of}
use Rattle.tq_pages.specs.Content.{HasChain, chain_bytes}
use Rattle.tq_slots.specs.MessageSlots.{UsedSlot}
use Rattle.tq_slots.specs.SlotImages.{RawSlots}
use Rattle.tq_slots.specs.SpaceReading.{chain_in, message_in, message_at}
use Rattle.tq_store.specs.Stored.{HasStore, IsUsedAt, pages_in}
use Rattle.tq_store.proofs.ChainReadingLemmas.{chain_read, message_read}

-- a used slot has its chain at this page
abbrev pub IsFirst : RawSlots → ℕ → Type 0
IsFirst raw first = (i : ℕ) × (m : UsedSlot) × IsUsedAt raw i m × (m.first ≡ first)

-- ---- a chain more

module _ (shape : Shape) (clusters : List ℕ) (raw : RawSlots) (old new : Store) (first size : ℕ) (has : HasStore shape clusters raw old) (is : IsStore new)
    (added : HasAdded old first size new) where
  added_pages : length new.free ≡ shape.pages
  added_pages = added.pages.size ∙ has.pages

  -- the pages of the new chain are those of messages
  pub added_within : (k : ℕ) → k < count_of new first → overhead_pages shape ≤ page_of new first k
  added_within k lt = elim (cases_lt (page_of new first k) (overhead_pages shape)) [
    | inr from ↦ from
    | inl before ↦
        let free = added.pages.free k (subst (λ n. k < chain_pages n) added.is lt) in
        let used = has.overhead (page_of new first k) before in
        absurd (cc)
  ]

  all_within : (g k : ℕ) → k < count_of new g → overhead_pages shape ≤ page_of new g k
  all_within g k lt = elim (cases_eq g first) [
    | inl same ↦ subst (λ f. k < count_of new f → overhead_pages shape ≤ page_of new f k) (sym same) (added_within k) lt
    | inr other ↦
        let before : k < count_of old g = subst (λ n. k < chain_pages n) (added.chains g other) lt in
        subst (λ p. overhead_pages shape ≤ p) (sym (added.others g k before)) (has.within g k before)
  ]

  still_used : (page : ℕ) → is_free old page ≡ false → is_free new page ≡ false
  still_used page used = elim (cases_Bool (is_free new page)) [
    | inr is_so ↦ is_so
    | inl free ↦ let before = added.pages.left page free in absurd (cc)
  ]

  -- The slots then begin the chains of those before, and the new one.
  pub store_added : (raw' : RawSlots) → 1 ≤ size → ((g : ℕ) → IsFirst raw' g → (g ≡ first) ⊎ IsFirst raw g) → ((g : ℕ) → IsFirst raw g → IsFirst raw' g)
      → IsFirst raw' first → HasStore shape clusters raw' new
  store_added raw' some back forth own = record {
    is = is;
    clusters_are = added.pages.clusters ∙ has.clusters_are;
    pages = added_pages;
    overhead = λ page before. still_used page (has.overhead page before);
    chains = λ i m at. elim (back m.first (i, m, at, refl)) [
      | inl same ↦
          let long : 1 ≤ size_of new first = let size_is = added.is in omega arith in
          let from = added_within 0 (omega arith) in
          subst (λ f. (overhead_pages shape ≤ f) × (1 ≤ size_of new f)) (sym same) (from, long)
      | inr before ↦
          let r = has.chains before.0 before.1 before.2 in
          let long : 1 ≤ size_of old m.first = subst (λ f. 1 ≤ size_of old f) before.3 r.1 in
          let other : m.first ≢ first = λ same. (let none = added.none in let at_first = ap (size_of old) same in omega arith) in
          let size_same = added.chains m.first other in
          (subst (λ f. overhead_pages shape ≤ f) before.3 r.0, omega arith)
    ];
    within = all_within;
    slots = λ g long. elim (cases_eq g first) [
      | inl same ↦ subst (IsFirst raw') (sym same) own
      | inr other ↦ let size_same = added.chains g other in forth g (has.slots g (omega arith))
    ];
  }

  module _ (bytes : List ℕ) (chain : HasChain new first bytes) (some : 1 ≤ size) where
    -- the new chain is read
    pub added_chain : chain_in shape bytes first ≡ Some (pages_in new first)
    added_chain = chain_read shape new is added_pages first added_within bytes chain (let size_is = added.is in omega arith)

    pub added_message : 1024 * length old.free ≤ length bytes → message_at shape bytes first ≡ message_in (chain_bytes new first bytes)
    added_message long =
        let same = added.pages.size in
        let size_is = added.is in
        message_read shape new is added_pages first added_within bytes chain (omega arith) (omega arith)

-- ---- a chain less

module _ (shape : Shape) (clusters : List ℕ) (raw : RawSlots) (old new : Store) (first size : ℕ) (has : HasStore shape clusters raw old) (is : IsStore new)
    (removed : HasAdded new first size old) where
  -- no page before those of messages is free then
  head_used : (page : ℕ) → page < overhead_pages shape → is_free new page ≡ false
  head_used page before = elim (cases_Bool (is_free new page)) [
    | inr is_so ↦ is_so
    | inl free ↦ elim (removed.pages.others page free) [
      | inl was ↦ let used = has.overhead page before in absurd (cc)
      | inr among ↦
          let from = has.within first among.at (subst (λ n. among.at < chain_pages n) (sym removed.is) among.below) in
          let here = among.is in
          absurd (omega arith)
    ]
  ]

  other_chain : (g : ℕ) → 1 ≤ size_of new g → g ≢ first
  other_chain g some same = let none = removed.none in let at_first = ap (size_of new) same in omega arith

  -- The slots then begin the chains of those before, but of this one.
  pub store_removed : (raw' : RawSlots) → ((g : ℕ) → IsFirst raw' g → IsFirst raw g × (g ≢ first)) → ((g : ℕ) → IsFirst raw g → g ≢ first → IsFirst raw' g)
      → HasStore shape clusters raw' new
  store_removed raw' back forth = record {
    is = is;
    clusters_are = sym removed.pages.clusters ∙ has.clusters_are;
    pages = sym removed.pages.size ∙ has.pages;
    overhead = head_used;
    chains = λ i m at.
        let before = back m.first (i, m, at, refl) in
        let r = has.chains before.0.0 before.0.1 before.0.2 in
        let long : 1 ≤ size_of old m.first = subst (λ f. 1 ≤ size_of old f) before.0.3 r.1 in
        let size_same = removed.chains m.first before.1 in
        (subst (λ f. overhead_pages shape ≤ f) before.0.3 r.0, omega arith);
    within = λ g k lt.
        let other = other_chain g (omega arith) in
        let before : k < count_of old g = subst (λ n. k < chain_pages n) (sym (removed.chains g other)) lt in
        subst (λ p. overhead_pages shape ≤ p) (removed.others g k lt) (has.within g k before);
    slots = λ g some.
        let other = other_chain g some in
        let size_same = removed.chains g other in
        forth g (has.slots g (omega arith)) other;
  }
