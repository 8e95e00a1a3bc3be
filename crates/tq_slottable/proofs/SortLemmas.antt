-- Places in the order of their slots, one after another, and sorted by their arrivals.
use Rattle.std.proofs.Common.{◌≡◌, ◌≢◌, ◌⊎◌, inl, inr, ℕ, ◌+◌, ◌<◌, false, cond, List, [], ◌∷◌, ◌++◌, length, get_or, set, take, swap, Contains, count_by, is_some, Option, Some, None, option_map, IsPermutation, refl, sym, ap, subst, ◌∙◌, arith, Ordering, Less, Equal, Greater, is_lt, true≢false}
use Rattle.std.specs.List.Sorted.{IsSortedByKey}
use Rattle.std.proofs.lemmas.Bool.{cases_eq, cases_order}
use Rattle.std.proofs.lemmas.List.{get_or_past, get_or_push, get_or_append_left, get_or-set_same, get_or-set_other, length-set, length-take, length_push, take_more}
use Rattle.std.proofs.lemmas.List.Edits.{swap_is, length-swap}
use Rattle.std.proofs.lemmas.List.Elements.{All-push}
use Rattle.std.proofs.lemmas.List.Sums.{sum_by_push}
use Rattle.std.proofs.lemmas.List.Quantifiers.{all_pairs_push}
use Rattle.std.proofs.lemmas.List.Sorted.{IsPermutation-keeps, All-permutation, Contains-permutation, length_permutation, ranks_by, sorted_far}
use Rattle.tq_types.specs.Label.{arrival_cmp}
use Rattle.tq_types.specs.declared.identifiers.Arrival.{Arrival}
use Rattle.tq_types.proofs.LabelOrder.{arrival_total, arrival-equal}
use Rattle.tq_slots.specs.MessageSlots.{UsedSlot, Slots, slot_arrival}
use Rattle.tq_slottable.specs.declared.places.UsedPlace.{UsedPlace}
use Rattle.tq_slottable.specs.Places.{IsLower, AreUsedPlaces, AreListedPlaces, HasDistinctArrivals}
use Rattle.tq_slottable.proofs.PlaceLemmas.{arrival_slot, within_some, none_pushed, some_apart, the_same, turned_less}

-- ---- one slot after another

module _ (slots : Slots) (places : List UsedPlace) (is : AreListedPlaces slots places) where
  unused_pushed : AreListedPlaces (slots ++ None ∷ []) places
  unused_pushed =
      let more : count_by is_some (slots ++ None ∷ []) ≡ count_by is_some slots + 0 = sum_by_push (λ (o : Option UsedSlot). cond {A = ℕ} (is_some o) 1 0) slots None in
      let count = is.count in
      record {
        ascending = is.ascending;
        used = λ k d lt. ap (option_map slot_arrival) (none_pushed slots (get_or places k d).index) ∙ is.used k d lt;
        listed = λ i u some. is.listed i u (sym (none_pushed slots i) ∙ some);
        count = omega arith;
      }

  used_pushed : (u : UsedSlot) → AreListedPlaces (slots ++ Some u ∷ []) (places ++ record { arrival = u.arrival; index = length slots } ∷ [])
  used_pushed u =
      let own : UsedPlace = record { arrival = u.arrival; index = length slots } in
      let more : count_by is_some (slots ++ Some u ∷ []) ≡ count_by is_some slots + 1 = sum_by_push (λ (o : Option UsedSlot). cond {A = ℕ} (is_some o) 1 0) slots (Some u) in
      let count = is.count in
      let long = length_push places own in
      let longer = length_push slots (Some u) in
      let inside : (k : ℕ) (d : UsedPlace) → k < length places → (get_or places k d).index < length slots = λ k d lt.
      let has = arrival_slot (get_or slots (get_or places k d).index None) (get_or places k d).arrival (is.used k d lt) in
      within_some slots (get_or places k d).index has.0 has.1 in
      record {
        ascending = all_pairs_push IsLower places own is.ascending inside;
        used = All-push (λ (p : UsedPlace). option_map slot_arrival (get_or (slots ++ Some u ∷ []) p.index None) ≡ Some p.arrival) places own
            (λ k d lt. ap (option_map slot_arrival) (get_or_append_left slots (Some u ∷ []) None (get_or places k d).index (inside k d lt)) ∙ is.used k d lt)
            (ap (option_map slot_arrival) (get_or_push slots (Some u) None (length slots) refl));
        listed = λ i v some. elim (cases_order i (length slots)) [
          | inl same ↦
              let is_v = the_same u v (sym (get_or_push slots (Some u) None (length slots) refl) ∙ ap (λ n. get_or (slots ++ Some u ∷ []) n None) (sym same) ∙ some) in
              subst (λ (p : UsedPlace). Contains (places ++ own ∷ []) p) (λ k. record { arrival = (is_v k).arrival; index = sym same k })
              (length places, omega arith, get_or_push places own own (length places) refl)
          | inr (inl below) ↦
              let has = is.listed i v (sym (get_or_append_left slots (Some u ∷ []) None i below) ∙ some) in
              let has_lt = has.1 in
              (has.0, omega arith, get_or_append_left places (own ∷ []) (record { arrival = v.arrival; index = i }) has.0 has.1 ∙ has.2)
          | inr (inr past) ↦ absurd (some_apart (get_or (slots ++ Some u ∷ []) i None) v (get_or_past (slots ++ Some u ∷ []) i None (omega arith)) some)
        ];
        count = omega arith;
      }

module _ (slots : Slots) (i : ℕ) (places : List UsedPlace) (lt : i < length slots) (is : AreListedPlaces (take i slots) places) where
  pub unused_next : get_or slots i None ≡ None → AreListedPlaces (take (i + 1) slots) places
  unused_next none =
      subst (λ (l : Slots). AreListedPlaces l places) (sym (take_more slots i None lt ∙ ap (λ (o : Option UsedSlot). take i slots ++ o ∷ []) none)) (unused_pushed (take i slots) places is)

  pub used_next : (u : UsedSlot) → get_or slots i None ≡ Some u → AreListedPlaces (take (i + 1) slots) (places ++ record { arrival = u.arrival; index = i } ∷ [])
  used_next u some =
      let long : length (take i slots) ≡ i = let long = length-take i slots in omega arith in
      subst (λ (l : Slots). AreListedPlaces l (places ++ record { arrival = u.arrival; index = i } ∷ []))
      (sym (take_more slots i None lt ∙ ap (λ (o : Option UsedSlot). take i slots ++ o ∷ []) some))
      (subst (λ n. AreListedPlaces (take i slots ++ Some u ∷ []) (places ++ record { arrival = u.arrival; index = n } ∷ [])) long (used_pushed (take i slots) places is u))

-- ---- the places sorted

-- no two places are of one arrival
abbrev AreApart : List UsedPlace → Type 0
AreApart places = (i j : ℕ) (d : UsedPlace) → i < length places → j < length places → (get_or places i d).arrival ≡ (get_or places j d).arrival → i ≡ j

-- where what stands at k after an exchange of a and b has come from
abbrev IsFrom : ℕ → ℕ → ℕ → ℕ → Type 0
IsFrom a b k m = ((k ≡ a) × (m ≡ b)) ⊎ (((k ≡ b) × (m ≡ a)) ⊎ ((k ≢ a) × (k ≢ b) × (m ≡ k)))

one_from : (a b i m j n : ℕ) → IsFrom a b i m → IsFrom a b j n → m ≡ n → i ≡ j
one_from a b i m j n (inl p) (inl q) e = p.0 ∙ sym q.0
one_from a b i m j n (inl p) (inr (inl q)) e = p.0 ∙ sym q.1 ∙ sym e ∙ p.1 ∙ sym q.0
one_from a b i m j n (inl p) (inr (inr q)) e = absurd (q.1 (sym q.2 ∙ sym e ∙ p.1))
one_from a b i m j n (inr (inl p)) (inl q) e = p.0 ∙ sym q.1 ∙ sym e ∙ p.1 ∙ sym q.0
one_from a b i m j n (inr (inl p)) (inr (inl q)) e = p.0 ∙ sym q.0
one_from a b i m j n (inr (inl p)) (inr (inr q)) e = absurd (q.0 (sym q.2 ∙ sym e ∙ p.1))
one_from a b i m j n (inr (inr p)) (inl q) e = absurd (p.1 (sym p.2 ∙ e ∙ q.1))
one_from a b i m j n (inr (inr p)) (inr (inl q)) e = absurd (p.0 (sym p.2 ∙ e ∙ q.1))
one_from a b i m j n (inr (inr p)) (inr (inr q)) e = sym p.2 ∙ e ∙ q.2

from_within : (a b i m n : ℕ) → a < n → b < n → i < n → IsFrom a b i m → m < n
from_within a b i m n a_lt b_lt i_lt (inl p) = let is = p.1 in omega arith
from_within a b i m n a_lt b_lt i_lt (inr (inl p)) = let is = p.1 in omega arith
from_within a b i m n a_lt b_lt i_lt (inr (inr p)) = let is = p.2 in omega arith

module _ (l : List UsedPlace) (a b : ℕ) (a_lt : a < length l) (b_lt : b < length l) where
  came_from : (k : ℕ) (d : UsedPlace) → (m : ℕ) × IsFrom a b k m × (get_or (swap l a b) k d ≡ get_or l m d)
  came_from k d =
      let first = set l a (get_or l b d) in
      let long = length-set l a (get_or l b d) in
      let is : get_or (swap l a b) k d ≡ get_or (set first b (get_or l a d)) k d = ap (λ (xs : List UsedPlace). get_or xs k d) (sym (swap_is l a b d a_lt b_lt)) in
      elim (cases_eq k b) [
        | inl e ↦ (a, inr (inl (e, refl)), is ∙ ap (λ n. get_or (set first b (get_or l a d)) n d) e ∙ get_or-set_same first b (get_or l a d) d (omega arith))
        | inr other ↦
            let before : get_or (swap l a b) k d ≡ get_or first k d = is ∙ get_or-set_other first b k (get_or l a d) d other in
            elim (cases_eq k a) [
              | inl e ↦ (b, inl (e, refl), before ∙ ap (λ n. get_or first n d) e ∙ get_or-set_same l a (get_or l b d) d a_lt)
              | inr another ↦ (k, inr (inr (another, other, refl)), before ∙ get_or-set_other l a k (get_or l b d) d another)
            ]
      ]

  apart_exchanged : AreApart l → AreApart (swap l a b)
  apart_exchanged apart i j d i_lt j_lt same =
      let long = length-swap l a b in
      let x = came_from i d in
      let y = came_from j d in
      let x_lt = from_within a b i x.0 (length l) a_lt b_lt (omega arith) x.1 in
      let y_lt = from_within a b j y.0 (length l) a_lt b_lt (omega arith) y.1 in
      one_from a b i x.0 j y.0 x.1 y.1 (apart x.0 y.0 d x_lt y_lt (ap (λ (p : UsedPlace). p.arrival) (sym x.2) ∙ same ∙ ap (λ (p : UsedPlace). p.arrival) y.2))

-- places in the order of slots of which no two have one arrival
listed_apart : (slots : Slots) (places : List UsedPlace) → AreListedPlaces slots places → HasDistinctArrivals slots → AreApart places
listed_apart slots places is once i j d i_lt j_lt same =
    let p = get_or places i d in
    let q = get_or places j d in
    let has = arrival_slot (get_or slots p.index None) p.arrival (is.used i d i_lt) in
    let has' = arrival_slot (get_or slots q.index None) q.arrival (is.used j d j_lt) in
    let index = once p.index q.index has.0 has'.0 has.1 has'.1 (has.2 ∙ same ∙ sym has'.2) in
    elim (cases_order i j) [
      | inl e ↦ e
      | inr (inl below) ↦ let ascends : p.index < q.index = is.ascending i j d below j_lt in absurd (omega arith)
      | inr (inr above) ↦ let ascends : q.index < p.index = is.ascending j i d above i_lt in absurd (omega arith)
    ]

older_by : (a b : Arrival) (o : Ordering) → arrival_cmp a b ≡ o → is_lt (arrival_cmp b a) ≡ false → a ≢ b → arrival_cmp a b ≡ Less
older_by a b Less e not_before apart = e
older_by a b Equal e not_before apart = absurd (apart (arrival-equal a b e))
older_by a b Greater e not_before apart = absurd (true≢false (sym (ap is_lt (turned_less a b e)) ∙ not_before))

pub sorted_used : (slots : Slots) (places sorted : List UsedPlace) → AreListedPlaces slots places → HasDistinctArrivals slots → IsPermutation places sorted
    → IsSortedByKey (λ (p : UsedPlace). p.arrival) arrival_cmp sorted → AreUsedPlaces slots sorted
sorted_used slots places sorted is once permuted ordered =
    let apart = IsPermutation-keeps places AreApart (listed_apart slots places is once) (λ l a b a_lt b_lt h. apart_exchanged l a b a_lt b_lt h) sorted permuted in
    let long = length_permutation places sorted permuted in
    let count = is.count in
    record {
      ascending = λ i j d lt j_lt.
          older_by (get_or sorted i d).arrival (get_or sorted j d).arrival _ refl
          (sorted_far (λ p q. is_lt (arrival_cmp p.arrival q.arrival)) (ranks_by arrival_total (λ (p : UsedPlace). p.arrival)) sorted ordered i j d (omega arith) j_lt)
          (λ same. let one = apart i j d (omega arith) j_lt same in omega arith);
      used = All-permutation (λ (p : UsedPlace). option_map slot_arrival (get_or slots p.index None) ≡ Some p.arrival) places sorted permuted is.used;
      listed = λ i u some. Contains-permutation places sorted (record { arrival = u.arrival; index = i }) permuted (is.listed i u some);
      count = omega arith;
    }
