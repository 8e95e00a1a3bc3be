-- Places of slots, when a slot comes to be used, or to be empty.
use Rattle.std.proofs.Common.{◌≡◌, ◌≢◌, inl, inr, ⊎_elim, ℕ, zero, suc, ◌+◌, ◌-◌, ◌<◌, ◌≤◌, Bool, true, false, cond, List, [], ◌∷◌, ◌++◌, length, get_or, set, take, insert, remove, All, Contains, AllPairs, count_by, is_some, Option, Some, None, option_map, position, refl, sym, ap, subst, ◌∙◌, arith, Ordering, Less, Equal, Greater, is_eq, ltb, ltb-true, lt-ltb, le-ltb, true≢false, Result, Ok, Err, IfOk, IfErr, HoldsAt, le_of_eq}
use Rattle.std.specs.List.{AllWithin, position_or_len}
use Rattle.std.specs.List.Sorted.{IsSearchInRange, IsBinarySearchResult, IsPartitionedBy}
use Rattle.std.specs.Ordering.{eq_by_cmp, ordering_index, ordering_reverse}
use Rattle.std.proofs.lemmas.Cmp.{tied_itself}
use Rattle.std.proofs.lemmas.Bool.{cases_lt, cases_eq, cond-true, cond-false, false_from_ne_true}
use Rattle.std.proofs.Math.Seq.{take-suc}
use Rattle.std.proofs.lemmas.List.{take_all, length-set, set-set, get_or-set_same, get_or-set_other, get_or_default, get_or_past, get_or_push, get_or_append_left, length_push}
use Rattle.std.proofs.lemmas.List.Edits.{length-insert, length-remove}
use Rattle.std.proofs.lemmas.List.Sums.{sum_by-set, position_or_len_is, count_by-le-length, passes_at_first, fails_before_first}
use Rattle.std.proofs.lemmas.List.Quantifiers.{all_pairs_remove, all_pairs_push}
use Rattle.std.proofs.lemmas.List.Elements.{All-push}
use Rattle.tq_model.proofs.Places.{position-none}
use Rattle.tq_types.specs.Label.{arrival_cmp}
use Rattle.tq_types.specs.declared.identifiers.Arrival.{Arrival}
use Rattle.tq_types.proofs.LabelOrder.{arrival_total, arrival-equal}
use Rattle.tq_slots.specs.MessageSlots.{UsedSlot, Slots, slot_arrival}
use Rattle.tq_slots.specs.SlotTable.{has_key, is_empty, lowest_empty}
use Rattle.tq_slottable.specs.declared.places.UsedPlace.{UsedPlace}
use Rattle.tq_slottable.specs.Places.{IsOlder, IsAbove, AreUsedPlaces, AreEmptyPlaces, IsGap, IsNewIn}
use Rattle.tq_slottable.proofs.OrderedLists.{contains_inserted, contains_insert, all_insert, pairs_insert, contains_remove, all_remove}

-- ---- arrivals

pub arrival_itself : (a : Arrival) → arrival_cmp a a ≡ Equal
arrival_itself a = tied_itself arrival_total a

pub not_older : (a b : Arrival) → a ≡ b → arrival_cmp a b ≡ Less → ⊥
not_older a b same older = let itself = arrival_itself a in let moved : arrival_cmp a a ≡ Less = ap (arrival_cmp a) same ∙ older in absurd (cc)

pub turned_less : (a b : Arrival) → arrival_cmp a b ≡ Greater → arrival_cmp b a ≡ Less
turned_less a b e = arrival_total.antisymm b a ∙ ap ordering_reverse e

-- what a search finds among places that ascend
rises : (a x y : Arrival) → arrival_cmp x y ≡ Less → ordering_index (arrival_cmp x a) ≤ ordering_index (arrival_cmp y a)
rises a x y older = by (arrival_cmp y a) refl
  where
    less : arrival_cmp x a ≡ Less → (s : Ordering) → ordering_index (arrival_cmp x a) ≤ ordering_index s
    less e s = let low : ordering_index (arrival_cmp x a) ≡ 0 = ap ordering_index e in omega arith

    most : (r : Ordering) → ordering_index r ≤ 2
    most Less = omega arith
    most Equal = omega arith
    most Greater = omega arith

    by : (s : Ordering) → arrival_cmp y a ≡ s → ordering_index (arrival_cmp x a) ≤ ordering_index (arrival_cmp y a)
    by Less e = less (arrival_total.trans x y a older e) (arrival_cmp y a)
    by Equal e = less (ap (arrival_cmp x) (sym (arrival-equal y a e)) ∙ older) (arrival_cmp y a)
    by Greater e = let high : ordering_index (arrival_cmp y a) ≡ 2 = ap ordering_index e in let low = most (arrival_cmp x a) in omega arith

pub search_found : (places : List UsedPlace) (a : Arrival) (r : Result ℕ ℕ) → IsBinarySearchResult (λ p. arrival_cmp p.arrival a) places r → IfOk r (HoldsAt (λ p. p.arrival ≡ a) places)
search_found places a (Ok at) is = λ d. arrival-equal (get_or places at d).arrival a (is d)
search_found places a (Err at) is = tt

pub search_gap : (places : List UsedPlace) (a : Arrival) (r : Result ℕ ℕ) → IsSearchInRange r (length places) → IsBinarySearchResult (λ p. arrival_cmp p.arrival a) places r
    → AllPairs IsOlder places → IfErr r (IsGap places a)
search_gap places a (Ok at) range is ascending = tt
search_gap places a (Err at) range is ascending =
    let parts = is (λ i j d le lt. ⊎_elim
    (λ below. rises a _ _ (ascending i j d below lt))
    (λ from. let same : i ≡ j = omega arith in le_of_eq (ap (λ k. ordering_index (arrival_cmp (get_or places k d).arrival a)) same))
    (cases_lt i j)) in
    record { within = range; older = parts.0; newer = λ k d ge lt. turned_less _ a (parts.1 k d ge lt) }

-- ---- one slot

pub some_apart : {X : Type 0} (o : Option X) (x : X) → o ≡ None → o ≡ Some x → ⊥
some_apart o x none some = let both : Some x ≡ None = sym some ∙ none in cc

pub the_same : {X : Type 0} (x y : X) → Some x ≡ Some y → x ≡ y
the_same x y e = cc

-- a slot that has something is one of them
pub within_some : (slots : Slots) (i : ℕ) (u : UsedSlot) → get_or slots i None ≡ Some u → i < length slots
within_some slots i u e = ⊎_elim (λ lt. lt) (λ past. absurd (some_apart (get_or slots i None) u (get_or_past slots i None past) e)) (cases_lt i (length slots))

pub arrival_slot : (o : Option UsedSlot) (a : Arrival) → option_map slot_arrival o ≡ Some a → (u : UsedSlot) × (o ≡ Some u) × (u.arrival ≡ a)
arrival_slot None a e = absurd (cc)
arrival_slot (Some u) a e = (u, refl, the_same u.arrival a e)

used_more : (slots : Slots) (i : ℕ) (u : UsedSlot) → i < length slots → get_or slots i None ≡ None → count_by is_some (set slots i (Some u)) ≡ count_by is_some slots + 1
used_more slots i u lt none =
    let sum : count_by is_some (set slots i (Some u)) + cond {A = ℕ} (is_some (get_or slots i None)) 1 0 ≡ count_by is_some slots + 1 =
    sum_by-set (λ (o : Option UsedSlot). cond {A = ℕ} (is_some o) 1 0) slots i (Some u) None lt in
    let before : cond {A = ℕ} (is_some (get_or slots i None)) 1 0 ≡ 0 = ap (λ (o : Option UsedSlot). cond {A = ℕ} (is_some o) 1 0) none in
    omega arith

used_less : (slots : Slots) (i : ℕ) (u : UsedSlot) → get_or slots i None ≡ Some u → count_by is_some (set slots i None) + 1 ≡ count_by is_some slots
used_less slots i u some =
    let sum : count_by is_some (set slots i None) + cond {A = ℕ} (is_some (get_or slots i None)) 1 0 ≡ count_by is_some slots + 0 =
    sum_by-set (λ (o : Option UsedSlot). cond {A = ℕ} (is_some o) 1 0) slots i None None (within_some slots i u some) in
    let before : cond {A = ℕ} (is_some (get_or slots i None)) 1 0 ≡ 1 = ap (λ (o : Option UsedSlot). cond {A = ℕ} (is_some o) 1 0) some in
    omega arith

-- with one slot more that is empty
pub none_pushed : (slots : Slots) (i : ℕ) → get_or (slots ++ None ∷ []) i None ≡ get_or slots i None
none_pushed [] zero = refl
none_pushed [] (suc i) = refl
none_pushed (x ∷ slots) zero = refl
none_pushed (x ∷ slots) (suc i) = none_pushed slots i

-- ---- slots that are found

has_its_key : (o : Option UsedSlot) (u : UsedSlot) (a : Arrival) → o ≡ Some u → u.arrival ≡ a → has_key arrival_cmp slot_arrival a o ≡ true
has_its_key o u a some same = ap (has_key arrival_cmp slot_arrival a) some ∙ ap (eq_by_cmp arrival_cmp a) same ∙ ap is_eq (arrival_itself a)

equal_arrivals : (a b : Arrival) → eq_by_cmp arrival_cmp a b ≡ true → a ≡ b
equal_arrivals a b e = arrival-equal a b (equal (arrival_cmp a b) e)
  where
    equal : (o : Ordering) → is_eq o ≡ true → o ≡ Equal
    equal Less e = cc
    equal Equal e = refl
    equal Greater e = cc

not_key : (o : Option UsedSlot) (a : Arrival) → ((u : UsedSlot) → o ≡ Some u → u.arrival ≢ a) → has_key arrival_cmp slot_arrival a o ≡ false
not_key None a h = refl
not_key (Some u) a h = false_from_ne_true (eq_by_cmp arrival_cmp a u.arrival) (λ e. h u refl (sym (equal_arrivals a u.arrival e)))

full : (o : Option UsedSlot) → (o ≡ None → ⊥) → is_empty o ≡ false
full None h = absurd (h refl)
full (Some u) h = refl

none_from_empty : (o : Option UsedSlot) → is_empty o ≡ true → o ≡ None
none_from_empty None e = refl
none_from_empty (Some u) e = cc

pub lowest_none : (slots : Slots) → lowest_empty slots < length slots → get_or slots (lowest_empty slots) None ≡ None
lowest_none slots lt = none_from_empty (get_or slots (lowest_empty slots) None) (passes_at_first is_empty slots None lt)

place_some : {X : Type 0} (p : X → Bool) (xs : List X) (i : ℕ) → position_or_len p xs ≡ i → i < length xs → position p xs ≡ Some i
place_some p xs i first lt = cond-true (ltb (position_or_len p xs) (length xs)) (Some (position_or_len p xs)) None (lt-ltb (position_or_len p xs) (length xs) (omega arith)) ∙ ap Some first

place_none : {X : Type 0} (p : X → Bool) (xs : List X) (d : X) → ((k : ℕ) → k < length xs → p (get_or xs k d) ≡ false) → position p xs ≡ None
place_none p xs d fails =
    let past : position_or_len p xs ≡ length xs = position_or_len_is p xs (length xs) d (omega arith) fails (λ lt. absurd (omega arith)) in
    cond-false (ltb (position_or_len p xs) (length xs)) (Some (position_or_len p xs)) None (le-ltb (position_or_len p xs) (length xs) (omega arith))

-- ---- used places

module _ (slots : Slots) (places : List UsedPlace) (is : AreUsedPlaces slots places) where
  -- two places of one arrival are one
  pub one_place : (i j : ℕ) (d : UsedPlace) → i < length places → j < length places → (get_or places i d).arrival ≡ (get_or places j d).arrival → i ≡ j
  one_place i j d i_lt j_lt same = elim (cases_eq i j) [
    | inl e ↦ e
    | inr other ↦ ⊎_elim
        (λ lt. absurd (not_older _ _ same (is.ascending i j d lt j_lt)))
        (λ ge. absurd (not_older _ _ (sym same) (is.ascending j i d (omega (arith, other)) i_lt)))
        (cases_lt i j)
  ]

  -- the place of a used slot
  pub own_place : (at i : ℕ) (d : UsedPlace) (u : UsedSlot) → at < length places → (get_or places at d).arrival ≡ u.arrival → get_or slots i None ≡ Some u
      → get_or places at d ≡ record { arrival = u.arrival; index = i }
  own_place at i d u lt same some =
      let own : UsedPlace = record { arrival = u.arrival; index = i } in
      let has = is.listed i u some in
      let here : get_or places has.0 d ≡ own = get_or_default places has.0 d own has.1 ∙ has.2 in
      let one : at ≡ has.0 = one_place at has.0 d lt has.1 (same ∙ sym (ap (λ (p : UsedPlace). p.arrival) here)) in
      ap (λ k. get_or places k d) one ∙ here

  -- where no arrival is found, no slot has it
  pub new_in_gap : (a : Arrival) (at : ℕ) → IsGap places a at → IsNewIn slots a
  new_in_gap a at gap i u some same =
      let own : UsedPlace = record { arrival = u.arrival; index = i } in
      let has = is.listed i u some in
      let arrival : (get_or places has.0 own).arrival ≡ a = ap (λ (p : UsedPlace). p.arrival) has.2 ∙ same in
      ⊎_elim
      (λ lt. not_older _ _ arrival (gap.older has.0 own (omega arith) lt))
      (λ ge. not_older _ _ (sym arrival) (gap.newer has.0 own ge has.1))
      (cases_lt has.0 at)

  -- a new arrival is not among the places
  pub apart_from_new : (a : Arrival) → IsNewIn slots a → All (λ p. p.arrival ≢ a) places
  apart_from_new a new k d lt same =
      let p = get_or places k d in
      let has = arrival_slot (get_or slots p.index None) p.arrival (is.used k d lt) in
      new p.index has.0 has.1 (has.2 ∙ same)

  pub used_entered : (index at : ℕ) (u : UsedSlot) → index < length slots → get_or slots index None ≡ None → IsGap places u.arrival at
      → AreUsedPlaces (set slots index (Some u)) (insert places at (record { arrival = u.arrival; index = index }))
  used_entered index at u lt none gap =
      let own : UsedPlace = record { arrival = u.arrival; index = index } in
      let more = used_more slots index u lt none in
      let long = length-insert places at own gap.within in
      let count = is.count in
      record {
        ascending = pairs_insert places at IsOlder own gap.within is.ascending gap.older gap.newer;
        used = all_insert places at (λ (p : UsedPlace). option_map slot_arrival (get_or (set slots index (Some u)) p.index None) ≡ Some p.arrival) own gap.within
            (ap (option_map slot_arrival) (get_or-set_same slots index (Some u) None lt))
            (λ k d k_lt.
            let p = get_or places k d in
            let has = arrival_slot (get_or slots p.index None) p.arrival (is.used k d k_lt) in
            let other : p.index ≢ index = λ e. some_apart (get_or slots index None) has.0 none (ap (λ n. get_or slots n None) (sym e) ∙ has.1) in
            ap (option_map slot_arrival) (get_or-set_other slots index p.index (Some u) None other) ∙ is.used k d k_lt);
        listed = λ i v some. elim (cases_eq i index) [
          | inl same ↦
              let now : Some u ≡ Some v = sym (get_or-set_same slots index (Some u) None lt) ∙ ap (λ n. get_or (set slots index (Some u)) n None) (sym same) ∙ some in
              let is_v = the_same u v now in
              subst (λ (p : UsedPlace). Contains (insert places at own) p) (λ k. record { arrival = (is_v k).arrival; index = sym same k }) (contains_inserted places at own gap.within)
          | inr other ↦
              contains_insert places at (record { arrival = v.arrival; index = i }) own gap.within
              (is.listed i v (sym (get_or-set_other slots index i (Some u) None other) ∙ some))
        ];
        count = omega arith;
      }

  pub used_removed : (index at : ℕ) (u : UsedSlot) (d : UsedPlace) → get_or slots index None ≡ Some u → at < length places → (get_or places at d).arrival ≡ u.arrival
      → AreUsedPlaces (set slots index None) (remove places at)
  used_removed index at u d some lt arrival =
      let less = used_less slots index u some in
      let long = length-remove places at lt in
      let count = is.count in
      let inside = within_some slots index u some in
      record {
        ascending = all_pairs_remove IsOlder places at lt is.ascending;
        used = all_remove places at (λ (p : UsedPlace). option_map slot_arrival (get_or (set slots index None) p.index None) ≡ Some p.arrival) lt
            (λ k e k_lt apart.
            let p = get_or places k e in
            let has = arrival_slot (get_or slots p.index None) p.arrival (is.used k e k_lt) in
            let other : p.index ≢ index = λ same.
            let one : has.0 ≡ u = the_same has.0 u (sym has.1 ∙ ap (λ n. get_or slots n None) same ∙ some) in
            let here : (get_or places at e).arrival ≡ u.arrival = ap (λ (q : UsedPlace). q.arrival) (get_or_default places at e d lt) ∙ arrival in
            apart (one_place k at e k_lt lt (sym has.2 ∙ ap slot_arrival one ∙ sym here)) in
            ap (option_map slot_arrival) (get_or-set_other slots index p.index None None other) ∙ is.used k e k_lt);
        listed = λ i v at_i. elim (cases_eq i index) [
          | inl same ↦ absurd (some_apart (get_or (set slots index None) index None) v (get_or-set_same slots index None None inside) (ap (λ n. get_or (set slots index None) n None) (sym same) ∙ at_i))
          | inr other ↦
              let it : UsedPlace = record { arrival = v.arrival; index = i } in
              let own : get_or places at it ≡ record { arrival = u.arrival; index = index } = get_or_default places at it d lt ∙ own_place at index d u lt arrival some in
              contains_remove places at it lt (λ e. other (sym (ap (λ (q : UsedPlace). q.index) (sym own ∙ e))))
              (is.listed i v (sym (get_or-set_other slots index i None None other) ∙ at_i))
        ];
        count = omega arith;
      }

  -- the slot says something else of its message
  pub used_renewed : (index : ℕ) (u : UsedSlot) → option_map slot_arrival (get_or slots index None) ≡ Some u.arrival → AreUsedPlaces (set slots index (Some u)) places
  used_renewed index u same =
      let old = arrival_slot (get_or slots index None) u.arrival same in
      let inside = within_some slots index old.0 old.1 in
      let now : get_or (set slots index (Some u)) index None ≡ Some u = get_or-set_same slots index (Some u) None inside in
      let cleared = used_less slots index old.0 old.1 in
      let again = used_more (set slots index None) index u (omega (arith, length-set slots index None)) (get_or-set_same slots index None None inside) in
      let once : count_by is_some (set (set slots index None) index (Some u)) ≡ count_by is_some (set slots index (Some u)) = ap (count_by is_some) (set-set slots index None (Some u)) in
      let count = is.count in
      record {
        ascending = is.ascending;
        used = λ k d lt.
            let p = get_or places k d in
            elim (cases_eq p.index index) [
              | inl e ↦
                  let it : Some p.arrival ≡ Some u.arrival = sym (is.used k d lt) ∙ ap (λ n. option_map slot_arrival (get_or slots n None)) e ∙ same in
                  ap (λ n. option_map slot_arrival (get_or (set slots index (Some u)) n None)) e ∙ ap (option_map slot_arrival) now ∙ sym it
              | inr other ↦ ap (option_map slot_arrival) (get_or-set_other slots index p.index (Some u) None other) ∙ is.used k d lt
            ];
        listed = λ i v some. elim (cases_eq i index) [
          | inl e ↦
              let is_v = the_same u v (sym now ∙ ap (λ n. get_or (set slots index (Some u)) n None) (sym e) ∙ some) in
              let arrival : old.0.arrival ≡ v.arrival = old.2 ∙ ap slot_arrival is_v in
              subst (λ (p : UsedPlace). Contains places p) (λ k. record { arrival = arrival k; index = sym e k }) (is.listed index old.0 old.1)
          | inr other ↦ is.listed i v (sym (get_or-set_other slots index i (Some u) None other) ∙ some)
        ];
        count = omega arith;
      }

  -- where a slot is empty, there are fewer places than slots
  pub used_fewer : (u : UsedSlot) → lowest_empty slots < length slots → length places < length slots
  used_fewer u lt =
      let none = lowest_none slots lt in
      let more = used_more slots (lowest_empty slots) u lt none in
      let most = count_by-le-length is_some (set slots (lowest_empty slots) (Some u)) in
      let same_length = length-set slots (lowest_empty slots) (Some u) in
      let count = is.count in
      omega arith

  -- a slot is found by its arrival
  pub found_at : (at : ℕ) (d : UsedPlace) (a : Arrival) → at < length places → (get_or places at d).arrival ≡ a
      → position (has_key arrival_cmp slot_arrival a) slots ≡ Some (get_or places at d).index
  found_at at d a lt same =
      let p = get_or places at d in
      let has = arrival_slot (get_or slots p.index None) p.arrival (is.used at d lt) in
      let inside = within_some slots p.index has.0 has.1 in
      let first : position_or_len (has_key arrival_cmp slot_arrival a) slots ≡ p.index =
      position_or_len_is (has_key arrival_cmp slot_arrival a) slots p.index None (omega arith)
      (λ k k_lt. not_key (get_or slots k None) a (λ v some same_v.
      let one = own_place at k d v lt (same ∙ sym same_v) some in
      let index : p.index ≡ k = ap (λ (q : UsedPlace). q.index) one in
      omega arith))
      (λ _. has_its_key (get_or slots p.index None) has.0 a has.1 (has.2 ∙ same)) in
      place_some (has_key arrival_cmp slot_arrival a) slots p.index first inside

  pub not_found : (at : ℕ) (a : Arrival) → IsGap places a at → position (has_key arrival_cmp slot_arrival a) slots ≡ None
  not_found at a gap = place_none (has_key arrival_cmp slot_arrival a) slots None (λ k k_lt. not_key (get_or slots k None) a (λ v some. new_in_gap a at gap k v some))

-- where no slot is found by an arrival, no slot has it
pub new_from_position : (slots : Slots) (a : Arrival) → position (has_key arrival_cmp slot_arrival a) slots ≡ None → IsNewIn slots a
new_from_position slots a none i u some same =
    let inside = within_some slots i u some in
    let past = position-none (has_key arrival_cmp slot_arrival a) slots none in
    let fails = fails_before_first (has_key arrival_cmp slot_arrival a) slots i None (omega arith) in
    true≢false (sym (has_its_key (get_or slots i None) u a some same) ∙ fails)

-- ---- empty places

-- descending numbers below another are at most as many
pub descending_most : (n : ℕ) (xs : List ℕ) → AllPairs IsAbove xs → All (λ i. i < n) xs → length xs ≤ n
descending_most n [] h below = omega arith
descending_most n (x ∷ xs) h below =
    let first : x < n = below 0 0 (omega arith) in
    let rest : length xs ≤ x = descending_most x xs (λ i j d lt j_lt. h (suc i) (suc j) d (omega arith) (omega arith)) (λ k d lt. h 0 (suc k) d (omega arith) (omega arith)) in
    omega arith

-- and fewer where they lack one of those below
pub descending_fewer : (n missing : ℕ) (xs : List ℕ) → missing < n → AllPairs IsAbove xs → All (λ i. (i < n) × (i ≢ missing)) xs → length xs < n
descending_fewer n missing [] lt h below = omega arith
descending_fewer n missing (x ∷ xs) lt h below =
    let first : x < n = (below 0 0 (omega arith)).0 in
    let other : x ≢ missing = (below 0 0 (omega arith)).1 in
    let rest : AllPairs IsAbove xs = λ i j d i_lt j_lt. h (suc i) (suc j) d (omega arith) (omega arith) in
    let lower : All (λ i. i < x) xs = λ k d k_lt. h 0 (suc k) d (omega arith) (omega arith) in
    ⊎_elim
    (λ behind.
    let few = descending_fewer x missing xs behind rest (λ k d k_lt. (lower k d k_lt, (below (suc k) d (omega arith)).1)) in
    omega arith)
    (λ from. let few = descending_most x xs rest lower in omega (arith, other))
    (cases_lt missing x)

pub descending_parted : (index : ℕ) (xs : List ℕ) → AllPairs IsAbove xs → IsPartitionedBy (λ i. ltb index i) xs
descending_parted index xs h i j d le lt e = ⊎_elim
    (λ below.
    let above : get_or xs j d < get_or xs i d = h i j d below lt in
    let over = ltb-true index (get_or xs j d) e in
    lt-ltb index (get_or xs i d) (omega arith))
    (λ from. let same : i ≡ j = omega arith in ap (λ k. ltb index (get_or xs k d)) same ∙ e)
    (cases_lt i j)

module _ (slots : Slots) where
  pub empty_entered : (indices : List ℕ) (index at : ℕ) (u : UsedSlot) → AreEmptyPlaces slots 0 indices → get_or slots index None ≡ Some u → at ≤ length indices
      → AllWithin (λ i. index < i) indices 0 at → AllWithin (λ i. i ≤ index) indices at (length indices) → AreEmptyPlaces (set slots index None) 0 (insert indices at index)
  empty_entered indices index at u is some within above below =
      let inside = within_some slots index u some in
      let same_length = length-set slots index None in
      let apart : (k d : ℕ) → k < length indices → get_or indices k d ≢ index =
      λ k d lt e. some_apart (get_or slots index None) u (ap (λ n. get_or slots n None) (sym e) ∙ (is.empty k d lt).2) some in
      record {
        descending = pairs_insert indices at IsAbove index within is.descending above (λ k d ge lt. let le = below k d ge lt in omega (arith, apart k d lt));
        empty = all_insert indices at (λ i. (0 ≤ i) × (i < length (set slots index None)) × (get_or (set slots index None) i None ≡ None)) index within
            (omega arith, omega arith, get_or-set_same slots index None None inside)
            (λ k d lt. let old = is.empty k d lt in let lower = old.1 in (omega arith, omega arith, get_or-set_other slots index (get_or indices k d) None None (apart k d lt) ∙ old.2));
        listed = λ i from lt none. elim (cases_eq i index) [
          | inl same ↦ subst (λ n. Contains (insert indices at index) n) (sym same) (contains_inserted indices at index within)
          | inr other ↦ contains_insert indices at i index within (is.listed i (omega arith) (omega arith) (sym (get_or-set_other slots index i None None other) ∙ none))
        ];
      }

  pub empty_renewed : (indices : List ℕ) (index : ℕ) (u v : UsedSlot) → AreEmptyPlaces slots 0 indices → get_or slots index None ≡ Some v
      → AreEmptyPlaces (set slots index (Some u)) 0 indices
  empty_renewed indices index u v is some =
      let inside = within_some slots index v some in
      let same_length = length-set slots index (Some u) in
      record {
        descending = is.descending;
        empty = λ k d lt.
            let old = is.empty k d lt in
            let lower = old.1 in
            let other : get_or indices k d ≢ index = λ e. some_apart (get_or slots index None) v (ap (λ n. get_or slots n None) (sym e) ∙ old.2) some in
            (omega arith, omega arith, get_or-set_other slots index (get_or indices k d) (Some u) None other ∙ old.2);
        listed = λ i from lt none.
            let other : i ≢ index = λ e. some_apart (get_or (set slots index (Some u)) i None) u none (ap (λ n. get_or (set slots index (Some u)) n None) e ∙ get_or-set_same slots index (Some u) None inside) in
            is.listed i (omega arith) (omega arith) (sym (get_or-set_other slots index i (Some u) None other) ∙ none);
      }

  -- where a slot is used, there are fewer empty ones than slots
  pub empty_fewer : (indices : List ℕ) (index : ℕ) (u : UsedSlot) → AreEmptyPlaces slots 0 indices → get_or slots index None ≡ Some u → length indices < length slots
  empty_fewer indices index u is some =
      descending_fewer (length slots) index indices (within_some slots index u some) is.descending
      (λ k d lt. ((is.empty k d lt).1, λ e. some_apart (get_or slots index None) u (ap (λ n. get_or slots n None) (sym e) ∙ (is.empty k d lt).2) some))

  pub empty_some : (indices : List ℕ) → AreEmptyPlaces slots 0 indices → lowest_empty slots < length slots → 1 ≤ length indices
  empty_some indices is lt =
      let none = lowest_none slots lt in
      let has = is.listed (lowest_empty slots) (omega arith) lt none in
      let has_lt = has.1 in
      omega arith

  module _ (front : List ℕ) (index : ℕ) (is : AreEmptyPlaces slots 0 (front ++ index ∷ [])) where
    last_is : (d : ℕ) → get_or (front ++ index ∷ []) (length front) d ≡ index
    last_is d = get_or_push front index d (length front) refl

    last_empty : (index < length slots) × (get_or slots index None ≡ None)
    last_empty =
        let long = length_push front index in
        let last = is.empty (length front) 0 (omega arith) in
        let lower : get_or (front ++ index ∷ []) (length front) 0 < length slots = last.1 in
        let here = last_is 0 in
        (omega arith, ap (λ n. get_or slots n None) (sym here) ∙ last.2)

    pub lowest_last : index ≡ lowest_empty slots
    lowest_last =
        let here = last_empty in
        let inside = here.0 in
        let long = length_push front index in
        sym (position_or_len_is is_empty slots index None (omega arith)
        (λ k lt. full (get_or slots k None) (λ none.
        let has = is.listed k (omega arith) (omega arith) none in
        let has_lt = has.1 in
        let above : get_or (front ++ index ∷ []) has.0 k ≢ index = λ e. let same = has.2 in omega arith in
        let before : has.0 < length front = ⊎_elim (λ l. l) (λ g. absurd (above (let at : has.0 ≡ length front = omega arith in ap (λ n. get_or (front ++ index ∷ []) n k) at ∙ last_is k))) (cases_lt has.0 (length front)) in
        let descends : get_or (front ++ index ∷ []) (length front) k < get_or (front ++ index ∷ []) has.0 k = is.descending has.0 (length front) k before (omega arith) in
        let same = has.2 in
        let last = last_is k in
        omega arith))
        (λ _. ap is_empty here.1))

    pub empty_taken : (u : UsedSlot) → AreEmptyPlaces (set slots index (Some u)) 0 front
    empty_taken u =
        let long = length_push front index in
        let same_length = length-set slots index (Some u) in
        let inside = last_empty.0 in
        let read : (k d : ℕ) → k < length front → get_or (front ++ index ∷ []) k d ≡ get_or front k d = λ k d lt. get_or_append_left front (index ∷ []) d k lt in
        record {
          descending = λ i j d lt j_lt. rw (← read i d (omega arith), ← read j d j_lt) (is.descending i j d lt (omega arith));
          empty = λ k d lt.
              let old = is.empty k d (omega arith) in
              let descends : get_or (front ++ index ∷ []) (length front) d < get_or (front ++ index ∷ []) k d = is.descending k (length front) d lt (omega arith) in
              let same = read k d lt in
              let last = last_is d in
              let lower = old.1 in
              let other : get_or front k d ≢ index = λ e. omega arith in
              (omega arith, omega arith, get_or-set_other slots index (get_or front k d) (Some u) None other ∙ ap (λ n. get_or slots n None) (sym same) ∙ old.2);
          listed = λ i from lt none.
              let other : i ≢ index = λ e. some_apart (get_or (set slots index (Some u)) i None) u none (ap (λ n. get_or (set slots index (Some u)) n None) e ∙ get_or-set_same slots index (Some u) None inside) in
              let has = is.listed i (omega arith) (omega arith) (sym (get_or-set_other slots index i (Some u) None other) ∙ none) in
              let has_lt = has.1 in
              let before : has.0 < length front = ⊎_elim (λ l. l) (λ g. absurd (other (let at : has.0 ≡ length front = omega arith in sym has.2 ∙ ap (λ n. get_or (front ++ index ∷ []) n i) at ∙ last_is i))) (cases_lt has.0 (length front)) in
              (has.0, before, sym (read has.0 i before) ∙ has.2);
        }

  -- from one index further down on
  pub empty_pushed : (indices : List ℕ) (from : ℕ) → AreEmptyPlaces slots (suc from) indices → from < length slots → get_or slots from None ≡ None
      → AreEmptyPlaces slots from (indices ++ from ∷ [])
  empty_pushed indices from is lt none = record {
    descending = all_pairs_push IsAbove indices from is.descending (λ k d k_lt. let old = (is.empty k d k_lt).0 in omega arith);
    empty = All-push (λ i. (from ≤ i) × (i < length slots) × (get_or slots i None ≡ None)) indices from
        (λ k d k_lt. let old = is.empty k d k_lt in let lower = old.0 in (omega arith, old.1, old.2)) (omega arith, lt, none);
    listed = λ i from_le i_lt none_i. elim (cases_eq i from) [
      | inl same ↦
          let long = length_push indices from in
          subst (λ n. Contains (indices ++ from ∷ []) n) (sym same) (length indices, omega arith, get_or_push indices from from (length indices) refl)
      | inr other ↦
          let has = is.listed i (omega (arith, other)) i_lt none_i in
          let has_lt = has.1 in
          let long = length_push indices from in
          (has.0, omega arith, get_or_append_left indices (from ∷ []) i has.0 has.1 ∙ has.2)
    ];
  }

  pub empty_passed : (indices : List ℕ) (from : ℕ) (u : UsedSlot) → AreEmptyPlaces slots (suc from) indices → get_or slots from None ≡ Some u → AreEmptyPlaces slots from indices
  empty_passed indices from u is some = record {
    descending = is.descending;
    empty = λ k d lt. let old = is.empty k d lt in let lower = old.0 in (omega arith, old.1, old.2);
    listed = λ i from_le i_lt none. elim (cases_eq i from) [
      | inl same ↦ absurd (some_apart (get_or slots i None) u none (ap (λ n. get_or slots n None) same ∙ some))
      | inr other ↦ is.listed i (omega (arith, other)) i_lt none
    ];
  }

-- ---- the last one of a list, without taking it out

split_end : (xs : List ℕ) (d : ℕ) → 1 ≤ length xs → take (length xs - 1) xs ++ get_or xs (length xs - 1) d ∷ [] ≡ xs
split_end xs d some =
    let n : length xs ≡ suc (length xs - 1) = omega arith in
    sym (take-suc xs (length xs - 1) d (omega arith)) ∙ ap (λ (k : ℕ). take k xs) (sym n) ∙ take_all (length xs) xs (omega arith)

pub lowest_end : (slots : Slots) (indices : List ℕ) (d : ℕ) → AreEmptyPlaces slots 0 indices → 1 ≤ length indices
    → get_or indices (length indices - 1) d ≡ lowest_empty slots
lowest_end slots indices d is some =
    let last = get_or indices (length indices - 1) d in
    lowest_last slots (take (length indices - 1) indices) last (subst (AreEmptyPlaces slots 0) (sym (split_end indices d some)) is)
