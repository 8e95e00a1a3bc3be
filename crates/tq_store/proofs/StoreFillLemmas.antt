-- A store with the chain of one slot more.
use Rattle.std.proofs.Common.{◌≡◌, ◌⊎◌, ℕ, zero, suc, ◌+◌, ◌<◌, ◌≤◌, true, false, List, [], ◌∷◌, ◌++◌, map, length, get_or, replicate, Option, Some, None}
use Rattle.std.proofs.Common.{refl, sym, ap, ◌∙◌, subst, arith, ⊎_elim, inl, inr}
use Rattle.std.proofs.lemmas.Bool.{cases_eq}
use Rattle.std.proofs.lemmas.List.{map-append}
use Rattle.tq_model.specs.declared.space.Shape.{Shape}
use Rattle.tq_model.specs.Space.{overhead_pages}
use Rattle.tq_pages.specs.Content.{HasChain}
use Rattle.tq_pages.specs.Store.{Store, IsStore, HasAdded, chain_pages, free_pages, is_free, new_store, size_of}
use Rattle.tq_pages.proofs.FreeLemmas.{count-append, count-none, count-replicate}
use Rattle.tq_pages.proofs.NumberLemmas.{others_stay}
use Rattle.tq_slots.specs.declared.record.BranchSlot.{BranchSlot}
use Rattle.tq_slots.specs.declared.record.MessageSlot.{MessageSlot}
use Rattle.tq_slots.specs.declared.record.QueueSlot.{QueueSlot}
use Rattle.tq_slots.specs.MessageSlots.{UsedSlot, Slots}
use Rattle.tq_slots.specs.SlotImages.{used_in, used_of}
use Rattle.tq_slots.proofs.ListLemmas.{some_injective, some_none}
use Rattle.tq_store.specs.Filling.{IsOnChain, slots_of}
use Rattle.tq_store.specs.Stored.{HasStore, IsUsedAt}
use Rattle.tq_store.proofs.StoreChangeLemmas.{store_added}
use Rattle.tq_store.proofs.SnocLemmas.{snoc-at, snoc-other, snoc-none}

-- slots of queues and of branches say nothing of chains
pub store_of_slots : (shape : Shape) (clusters : List ℕ) (queues queues' : List QueueSlot) (messages : List MessageSlot)
    (branches branches' : List BranchSlot) (store : Store)
    → HasStore shape clusters (slots_of queues messages branches) store → HasStore shape clusters (slots_of queues' messages branches') store
store_of_slots shape clusters queues queues' messages branches branches' store has =
    record {
      is = has.is;
      clusters_are = has.clusters_are;
      pages = has.pages;
      overhead = has.overhead;
      chains = λ i m at. has.chains i m at;
      within = has.within;
      slots = λ g some. has.slots g some;
    }

-- ---- the slots

-- a used slot of a list with one more is one of the list, or the one more
pub used_more : (slots : Slots) (u : Option UsedSlot) (i : ℕ) (m : UsedSlot) → get_or (slots ++ u ∷ []) i None ≡ Some m
    → (get_or slots i None ≡ Some m) ⊎ (u ≡ Some m)
used_more slots u i m at = elim (cases_eq i (length slots)) [
  | inl last ↦ inr (sym (snoc-at slots u None) ∙ ap (λ (n : ℕ). get_or (slots ++ u ∷ []) n None) (sym last) ∙ at)
  | inr other ↦ inl (sym (snoc-other slots u None i other) ∙ at)
]

used_below : (slots : Slots) (i : ℕ) (m : UsedSlot) → get_or slots i None ≡ Some m → i < length slots
used_below [] i m at = absurd (some_none (sym at))
used_below (x ∷ slots) zero m at = omega arith
used_below (x ∷ slots) (suc i) m at = omega (arith, used_below slots i m at)

pub used_before : (slots : Slots) (u : Option UsedSlot) (i : ℕ) (m : UsedSlot) → get_or slots i None ≡ Some m → get_or (slots ++ u ∷ []) i None ≡ Some m
used_before slots u i m at = let below = used_below slots i m at in snoc-other slots u None i (λ e. absurd (omega (arith, e, below))) ∙ at

-- ---- an empty slot more

pub store_none : (shape : Shape) (clusters : List ℕ) (queues : List QueueSlot) (messages : List MessageSlot) (slot : MessageSlot) (store : Store)
    → used_of slot ≡ None
    → HasStore shape clusters (slots_of queues messages []) store → HasStore shape clusters (slots_of queues (messages ++ slot ∷ []) []) store
store_none shape clusters queues messages slot store none has =
    let all = map-append used_of messages (slot ∷ []) ∙ ap (λ (o : Option UsedSlot). map used_of messages ++ o ∷ []) none in
    let same : (i : ℕ) → get_or (map used_of (messages ++ slot ∷ [])) i None ≡ get_or (map used_of messages) i None =
    λ i. ap (λ (l : Slots). get_or l i None) all ∙ snoc-none (map used_of messages) i in
    record {
      is = has.is;
      clusters_are = has.clusters_are;
      pages = has.pages;
      overhead = has.overhead;
      chains = λ i m at. has.chains i m (sym (same i) ∙ at);
      within = has.within;
      slots = λ g some. let r = has.slots g some in (r.0, r.1, same r.0 ∙ r.2, r.3);
    }

-- ---- a chain more

module _ (shape : Shape) (clusters : List ℕ) (queues : List QueueSlot) (messages : List MessageSlot) (slot : MessageSlot) (old new : Store) (size : ℕ)
    (has : HasStore shape clusters (slots_of queues messages []) old) (used : used_of slot ≡ Some (used_in slot)) (some : 1 ≤ size)
    (added : HasAdded old slot.first size new) (is : IsStore new) where
  all_used : map used_of (messages ++ slot ∷ []) ≡ map used_of messages ++ Some (used_in slot) ∷ []
  all_used = map-append used_of messages (slot ∷ []) ∙ ap (λ (o : Option UsedSlot). map used_of messages ++ o ∷ []) used

  pub size_kept : (g : ℕ) → 1 ≤ size_of old g → size_of new g ≡ size_of old g
  size_kept g there = added.chains g (λ e. (let none = ap (size_of old) e ∙ added.none in absurd (omega (arith, none, there))))

  pub store_more : HasStore shape clusters (slots_of queues (messages ++ slot ∷ []) []) new
  store_more =
      let slots = map used_of messages in
      let here : Option UsedSlot = Some (used_in slot) in
      store_added shape clusters (slots_of queues messages []) old new slot.first size has is added (slots_of queues (messages ++ slot ∷ []) []) some
      (λ g f. ⊎_elim
      (λ before. inr (f.0, f.1, before, f.3))
      (λ own. inl (sym f.3 ∙ sym (ap (λ (u : UsedSlot). u.first) (some_injective own))))
      (used_more slots here f.0 f.1 (sym (ap (λ (l : Slots). get_or l f.0 None) all_used) ∙ f.2)))
      (λ g f. (f.0, f.1, ap (λ (l : Slots). get_or l f.0 None) all_used ∙ used_before slots here f.0 f.1 f.2, f.3))
      (length slots, used_in slot, ap (λ (l : Slots). get_or l (length slots) None) all_used ∙ snoc-at slots here None, refl)

  -- each page that is not free is of a chain
  pub covered_more : ((page : ℕ) → overhead_pages shape ≤ page → page < shape.pages → (is_free old page ≡ true) ⊎ IsOnChain old page)
      → (page : ℕ) → overhead_pages shape ≤ page → page < shape.pages → (is_free new page ≡ true) ⊎ IsOnChain new page
  covered_more covered page from to = elim (covered page from to) [
    | inl free ↦ elim (added.pages.others page free) [
      | inl still ↦ inl still
      | inr among ↦ inr (record {
        first = slot.first;
        at = among.at;
        below = subst (λ (n : ℕ). among.at < chain_pages n) (sym added.is) among.below;
        is = among.is;
      })
    ]
    | inr on ↦
        let there : 1 ≤ size_of old on.first = omega (arith, on.below) in
        inr (record {
          first = on.first;
          at = on.at;
          below = subst (λ (n : ℕ). on.at < chain_pages n) (sym (size_kept on.first there)) on.below;
          is = added.others on.first on.at on.below ∙ on.is;
        })
  ]

  -- what stands on the pages of the chains still does
  pub chains_more : (bytes : List ℕ) → ((i : ℕ) (m : UsedSlot) → IsUsedAt (slots_of [] messages []) i m → HasChain old m.first bytes)
      → HasChain new slot.first bytes
      → (i : ℕ) (m : UsedSlot) → IsUsedAt (slots_of [] (messages ++ slot ∷ []) []) i m → HasChain new m.first bytes
  chains_more bytes before here i m at =
      elim (used_more (map used_of messages) (Some (used_in slot)) i m (sym (ap (λ (l : Slots). get_or l i None) all_used) ∙ at)) [
        | inl old_one ↦ others_stay old new slot.first size m.first bytes added (has.chains i m old_one).1 (before i m old_one)
        | inr new_one ↦ subst (λ (n : ℕ). HasChain new n bytes) (ap (λ (u : UsedSlot). u.first) (some_injective new_one)) here
      ]

-- ---- no chains

module _ (shape : Shape) (clusters : List ℕ) (queues : List QueueSlot) (dev first pages : ℕ) (overhead : first ≡ overhead_pages shape)
    (all : first + pages ≡ shape.pages)
    (is : IsStore (new_store dev clusters first pages)) where
  no_size : (g : ℕ) → size_of (new_store dev clusters first pages) g ≡ 0
  no_size g = zeros (first + pages) g
    where
      zeros : (n i : ℕ) → ◌≡◌ {A = ℕ} (get_or (replicate n 0) i 0) 0
      zeros zero i = refl
      zeros (suc n) zero = refl
      zeros (suc n) (suc i) = zeros n i

  not_free : (n m i : ℕ) → i < n → get_or (replicate n false ++ replicate m true) i false ≡ false
  not_free zero m i below = absurd (omega (arith, below))
  not_free (suc n) m zero below = refl
  not_free (suc n) m (suc i) below = not_free n m i (omega (arith, below))

  is_one : (n m i : ℕ) → n ≤ i → i < n + m → get_or (replicate n false ++ replicate m true) i false ≡ true
  is_one zero zero i from below = absurd (omega (arith, from, below))
  is_one zero (suc m) zero from below = refl
  is_one zero (suc m) (suc i) from below = is_one zero m i (omega arith) (omega (arith, below))
  is_one (suc n) m zero from below = absurd (omega (arith, from))
  is_one (suc n) m (suc i) from below = is_one n m i (omega (arith, from)) (omega (arith, below))

  pub store_empty : HasStore shape clusters (slots_of queues [] []) (new_store dev clusters first pages)
  store_empty =
      record {
        is = is;
        clusters_are = refl;
        pages = long first pages ∙ all;
        overhead = λ page below. not_free first pages page (omega (arith, below, overhead));
        chains = λ i m at. absurd (some_none (sym at));
        within = λ g k below. let none = no_size g in absurd (omega (arith, none, below));
        slots = λ g some. let none = no_size g in absurd (omega (arith, none, some));
      }
    where
      long : (n m : ℕ) → length (replicate n false ++ replicate m true) ≡ n + m
      long zero zero = refl
      long zero (suc m) = let rest = long zero m in omega (arith, rest)
      long (suc n) m = let rest = long n m in omega (arith, rest)

  pub covered_empty : (page : ℕ) → overhead_pages shape ≤ page → page < shape.pages
      → (is_free (new_store dev clusters first pages) page ≡ true) ⊎ IsOnChain (new_store dev clusters first pages) page
  covered_empty page from to = inl (is_one first pages page (omega (arith, from, overhead)) (omega (arith, to, all)))

  pub free_empty : free_pages (new_store dev clusters first pages) ≡ pages
  free_empty =
      let a = count-append (replicate first false) (replicate pages true) in
      let b = count-none first in
      let c = count-replicate pages in
      omega (arith, a, b, c)
