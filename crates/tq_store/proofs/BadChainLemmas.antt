-- A chain that a store refuses has no reading, or shares a page with another one.
use Rattle.std.proofs.Common.{◌≡◌, ◌⊎◌, ℕ, zero, suc, ◌+◌, ◌-◌, ◌<◌, ◌≤◌, ◌==◌, ◌&&◌, ◌||◌, not, Bool, true, false, cond, List, [], ◌∷◌, ◌++◌, length, get_or}
use Rattle.std.proofs.Common.{Option, Some, None, refl, sym, ap, ◌∙◌, subst, arith, ⊎_elim, inl, inr, eqb-true, ltb-true}
use Rattle.std.specs.Prelude.{nat_le, nat_lt, option_map, unwrap_or}
use Rattle.std.specs.List.{flat_map, list_all}
use Rattle.std.proofs.lemmas.Bool.{and_parts, and_from, false≢true, leb-true, ne_eqb}
use Rattle.std.proofs.lemmas.List.{length-map, get_or-map}
use Rattle.std.proofs.lemmas.Grind.{flat_map-append}
use Rattle.std.proofs.lemmas.List.Elements.{filter_map-append}
use Rattle.tq_model.specs.declared.space.Shape.{Shape}
use Rattle.tq_model.specs.Reading.{no_two}
use Rattle.tq_model.specs.Site.{numbers_from}
use Rattle.tq_model.specs.Space.{overhead_pages}
use Rattle.tq_extent.proofs.ExtentLemmas.{length-numbers_from, get_or-numbers_from}
use Rattle.tq_pages.specs.Content.{IsBad, IsFit}
use Rattle.tq_pages.specs.Store.{Store, count_of, is_free, page_behind, page_of, size_of}
use Rattle.tq_slots.specs.MessageSlots.{UsedSlot, Slots}
use Rattle.tq_slots.specs.QueueForm.{are_one_number}
use Rattle.tq_slots.specs.QueueSlots.{used_slots}
use Rattle.tq_slots.specs.SpaceOrder.{IsOneOf}
use Rattle.tq_slots.specs.SpaceReading.{chain_from, chain_in, is_chain_page, page_after, pages_of_slot, pages_of_slots, used_in_page}
use Rattle.tq_slots.proofs.ListLemmas.{eq_itself, no_two_parts, some_injective, some_none, to_flat}
use Rattle.tq_space.proofs.OptionLemmas.{some_of}
use Rattle.tq_store.specs.Filling.{IsOnChain}
use Rattle.tq_store.specs.Stored.{pages_in}
use Rattle.tq_store.proofs.ReadSpaceLemmas.{some_where}

-- ---- lists of which no two stand in a relation

-- what stands at a place is in the list
pub at_place : {X : Type 0} (xs : List X) (i : ℕ) (d : X) → i < length xs → IsOneOf xs (get_or xs i d)
at_place [] i d below = absurd (omega (arith, below))
at_place (x ∷ xs) zero d below = inl refl
at_place (x ∷ xs) (suc i) d below = inr (at_place xs i d (omega (arith, below)))

module _ {X : Type 0} (related : X → X → Bool) where
  pub no_two_right : (xs ys : List X) → no_two related (xs ++ ys) ≡ true → no_two related ys ≡ true
  no_two_right [] ys h = h
  no_two_right (x ∷ xs) ys h = no_two_right xs ys (no_two_parts related x (xs ++ ys) h).1

  pub in_left : (xs ys : List X) (x : X) → IsOneOf xs x → IsOneOf (xs ++ ys) x
  in_left [] ys x h = absurd h
  in_left (y ∷ xs) ys x (inl e) = inl e
  in_left (y ∷ xs) ys x (inr h) = inr (in_left xs ys x h)

  pub in_right : (xs ys : List X) (x : X) → IsOneOf ys x → IsOneOf (xs ++ ys) x
  in_right [] ys x h = h
  in_right (y ∷ xs) ys x h = inr (in_right xs ys x h)

  -- of one before and one behind
  pub no_two_across : (xs ys : List X) (x y : X) → no_two related (xs ++ ys) ≡ true → IsOneOf xs x → IsOneOf ys y → related x y ≡ true → ⊥
  no_two_across [] ys x y h a b e = absurd a
  no_two_across (z ∷ xs) ys x y h (inl a) b e =
      (no_two_parts related z (xs ++ ys) h).0 y (in_right xs ys y b) (ap (λ (w : X). related w y) a ∙ e)
  no_two_across (z ∷ xs) ys x y h (inr a) b e = no_two_across xs ys x y (no_two_parts related z (xs ++ ys) h).1 a b e

  pub no_two_left : (xs ys : List X) → no_two related (xs ++ ys) ≡ true → no_two related xs ≡ true
  no_two_left [] ys h = refl
  no_two_left (x ∷ xs) ys h =
      let p = and_parts (list_all (λ y. not (related x y)) (xs ++ ys)) (no_two related (xs ++ ys)) h in
      and_from (list_all (λ y. not (related x y)) xs) (no_two related xs) (all_left xs p.0) (no_two_left xs ys p.1)
    where
      all_left : (zs : List X) → list_all (λ y. not (related x y)) (zs ++ ys) ≡ true → list_all (λ y. not (related x y)) zs ≡ true
      all_left [] e = refl
      all_left (z ∷ zs) e =
          let q = and_parts (not (related x z)) (list_all (λ y. not (related x y)) (zs ++ ys)) e in
          and_from (not (related x z)) (list_all (λ y. not (related x y)) zs) q.0 (all_left zs q.1)

  pub no_two_places : (xs : List X) (i j : ℕ) (d : X) → no_two related xs ≡ true → i < j → j < length xs → related (get_or xs i d) (get_or xs j d) ≡ true → ⊥
  no_two_places [] i j d h less below e = absurd (omega (arith, below))
  no_two_places (x ∷ xs) i zero d h less below e = absurd (omega (arith, less))
  no_two_places (x ∷ xs) zero (suc j) d h less below e =
      (no_two_parts related x xs h).0 (get_or xs j d) (at_place xs j d (omega (arith, below))) e
  no_two_places (x ∷ xs) (suc i) (suc j) d h less below e = no_two_places xs i j d (no_two_parts related x xs h).1 (omega (arith, less))
      (omega (arith, below)) e

-- ---- a chain that is read

-- so many pages of it
pub record Goes (first end : ℕ) (bytes : List ℕ) (p : ℕ → ℕ) (n : ℕ) (pages : List ℕ) : Type 0 where
  pub long : n < length pages
  pub at : (k : ℕ) → k ≤ n → get_or pages k 0 ≡ p k
  pub is_page : is_chain_page first end bytes (p n) ≡ true

head : (b : Bool) (page : ℕ) (o : Option (List ℕ)) (pages : List ℕ)
    → cond b (Some (page ∷ [])) (option_map (λ (l : List ℕ). page ∷ l) o) ≡ Some pages → (l : List ℕ) × (page ∷ l ≡ pages)
head true page o pages h = ([], some_injective h)
head false page None pages h = absurd (some_none (sym h))
head false page (Some l) pages h = (l, some_injective h)

module _ (first end : ℕ) (bytes : List ℕ) where
  -- a page and the rest, where the first one is one of a chain
  abbrev behind : ℕ → ℕ → Option (List ℕ)
  behind most page =
      cond (page_after bytes page == 0) (Some (page ∷ [])) (option_map (λ (l : List ℕ). page ∷ l) (chain_from most first end bytes (page_after bytes page)))

  chain_parts : (most page : ℕ) (pages : List ℕ) → chain_from (suc most) first end bytes page ≡ Some pages
      → (is_chain_page first end bytes page ≡ true) × (behind most page ≡ Some pages)
  unfolding chain_from
  chain_parts most page pages read = some_where (is_chain_page first end bytes page) (behind most page) pages read

  no_pages : (page : ℕ) (pages : List ℕ) → chain_from 0 first end bytes page ≡ Some pages → ⊥
  unfolding chain_from
  no_pages page pages read = some_none (sym read)

  pub goes : (most : ℕ) (p : ℕ → ℕ) (n : ℕ) (pages : List ℕ) → ((k : ℕ) → k < n → page_after bytes (p k) ≡ p (k + 1)) → ((k : ℕ) → k < n → 1 ≤ p (k + 1))
      → chain_from most first end bytes (p 0) ≡ Some pages → Goes first end bytes p n pages
  goes zero p n pages follow some read = absurd (no_pages (p 0) pages read)
  goes (suc most) p zero pages follow some read =
      let test = chain_parts most (p 0) pages read in
      let l = head (page_after bytes (p 0) == 0) (p 0) (chain_from most first end bytes (page_after bytes (p 0))) pages test.1 in
      subst (Goes first end bytes p 0) l.1 (record {
        long = omega arith;
        at = λ k le. let none : k ≡ 0 = omega (arith, le) in ap (λ (i : ℕ). get_or (p 0 ∷ l.0) i 0) none ∙ ap p (sym none);
        is_page = test.0;
      })
  goes (suc most) p (suc n) pages follow some read =
      let page = p 0 in
      let after = page_after bytes page in
      let test = chain_parts most page pages read in
      let next : after ≡ p 1 = follow 0 (omega arith) in
      let more : 1 ≤ p 1 = some 0 (omega arith) in
      let goes_on : (after == 0) ≡ false = ne_eqb after 0 (λ e. absurd (omega (arith, e, next, more))) in
      let rest = chain_from most first end bytes after in
      let l = some_of (λ (l : List ℕ). page ∷ l) rest pages
      (ap (λ (b : Bool). cond b (Some (page ∷ [])) (option_map (λ (l : List ℕ). page ∷ l) rest)) (sym goes_on) ∙ test.1) in
      let g = goes most (λ k. p (k + 1)) n l.0 (λ k below. follow (k + 1) (omega (arith, below))) (λ k below. some (k + 1) (omega (arith, below)))
      (ap (chain_from most first end bytes) (sym next) ∙ l.1) in
      let last : n + 1 ≡ suc n = omega arith in
      subst (Goes first end bytes p (suc n)) l.2 (record {
        long = omega (arith, g.long);
        at = λ k le. at_all p n l.0 g.at k le;
        is_page = subst (λ (k : ℕ). is_chain_page first end bytes (p k) ≡ true) last g.is_page;
      })
    where
      at_all : (p : ℕ → ℕ) (n : ℕ) (l : List ℕ) → ((k : ℕ) → k ≤ n → get_or l k 0 ≡ p (k + 1)) → (k : ℕ) → k ≤ suc n → get_or (p 0 ∷ l) k 0 ≡ p k
      at_all p n l at zero le = refl
      at_all p n l at (suc k) le = let j : k + 1 ≡ suc k = omega arith in at k (omega (arith, le)) ∙ ap p j

  -- the numbers of its page are fit
  pub page_fit : (page : ℕ) → is_chain_page first end bytes page ≡ true
      → (first ≤ page) × (page < end) × IsFit (page_after bytes page) (used_in_page bytes page)
  page_fit page is =
      let after = page_after bytes page in
      let used = used_in_page bytes page in
      let p = and_parts ((nat_le first page && nat_lt page end) && (nat_le 1 used && nat_le used 1016)) (after == 0 || used == 1016) is in
      let q = and_parts (nat_le first page && nat_lt page end) (nat_le 1 used && nat_le used 1016) p.0 in
      let r = and_parts (nat_le first page) (nat_lt page end) q.0 in
      let t = and_parts (nat_le 1 used) (nat_le used 1016) q.1 in (
        leb-true first page r.0,
        ltb-true page end r.1,
        (
          leb-true 1 used t.0,
          leb-true used 1016 t.1,
          either (after == 0) (used == 1016) (eqb-true after 0) (eqb-true used 1016) p.1,
        ),
      )
    where
      either : {P Q : Type 0} (a b : Bool) → (a ≡ true → P) → (b ≡ true → Q) → a || b ≡ true → P ⊎ Q
      either true b f g h = inl (f refl)
      either false b f g h = inr (g h)

-- ---- a page of two chains

module _ (shape : Shape) (bytes : List ℕ) (before rest : Slots) (u : UsedSlot)
    (apart : no_two are_one_number (pages_of_slots shape bytes (before ++ Some u ∷ rest)) ≡ true) (pages : List ℕ)
    (read : chain_in shape bytes u.first ≡ Some pages) where
  abbrev earlier : List ℕ
  earlier = flat_map (pages_of_slot shape bytes) (used_slots before)

  abbrev later : List ℕ
  later = flat_map (pages_of_slot shape bytes) (used_slots rest)

  three_parts : no_two are_one_number (earlier ++ (pages ++ later)) ≡ true
  three_parts =
      ap (λ (ps : List ℕ). no_two are_one_number (earlier ++ (ps ++ later))) (ap (λ (o : Option (List ℕ)). unwrap_or o []) (sym read))
      ∙ ap (no_two are_one_number) (sym (ap (flat_map (pages_of_slot shape bytes)) (filter_map-append (λ (o : Option UsedSlot). o) before (Some u ∷ rest))
      ∙ flat_map-append (pages_of_slot shape bytes) (used_slots before) (u ∷ used_slots rest)))
      ∙ apart

  own_apart : no_two are_one_number pages ≡ true
  own_apart = no_two_left are_one_number pages later (no_two_right are_one_number earlier (pages ++ later) three_parts)

  module _ (store : Store)
      (covered : (page : ℕ) → overhead_pages shape ≤ page → page < shape.pages → (is_free store page ≡ true) ⊎ IsOnChain store page)
      (chains : (g : ℕ) → 1 ≤ size_of store g → (m : UsedSlot) × IsOneOf (used_slots before) m × (m.first ≡ g)
      × (chain_in shape bytes g ≡ Some (pages_in store g))) where
    -- the page is not one of a chain before
    not_on_chain : (page : ℕ) → IsOneOf pages page → IsOnChain store page → ⊥
    not_on_chain page here on =
        let g = on.first in
        let n = count_of store g in
        let numbers = numbers_from 0 n in
        let c = chains g (omega (arith, on.below)) in
        let size = length-numbers_from 0 n in
        let all = length-map numbers (page_of store g) in
        let own : pages_of_slot shape bytes c.0 ≡ pages_in store g =
        ap (λ (f : ℕ). unwrap_or (chain_in shape bytes f) []) c.2 ∙ ap (λ (o : Option (List ℕ)). unwrap_or o []) c.3 in
        let number : get_or numbers on.at 0 ≡ on.at = get_or-numbers_from 0 n on.at 0 on.below ∙ (let e : 0 + on.at ≡ on.at = omega arith in e) in
        let at : get_or (pages_in store g) on.at 0 ≡ page =
        get_or-map (page_of store g) numbers on.at 0 0 (omega (arith, size, on.below)) ∙ ap (page_of store g) number ∙ on.is in
        let there : IsOneOf (pages_of_slot shape bytes c.0) page =
        subst (λ (l : List ℕ). IsOneOf l page) (sym own)
        (subst (IsOneOf (pages_in store g)) at (at_place (pages_in store g) on.at 0 (omega (arith, all, size, on.below)))) in
        no_two_across are_one_number earlier (pages ++ later) page page three_parts
        (to_flat (pages_of_slot shape bytes) (used_slots before) c.0 page c.1 there) (in_left are_one_number pages later page here) (eq_itself page)

    pub not_bad : (page : ℕ) → IsBad store bytes u.first page → ⊥
    not_bad page bad =
        let p = page_behind bad.next u.first in
        let path = bad.path in
        let g = goes (overhead_pages shape) shape.pages bytes (shape.pages - overhead_pages shape) p bad.n pages path.numbers path.goes_on read in
        let fit = page_fit (overhead_pages shape) shape.pages bytes (p bad.n) g.is_page in
        let here : get_or pages bad.n 0 ≡ page = g.at bad.n (omega arith) ∙ path.behind in
        elim bad.bad [
          | inl used ↦
              let from = subst (λ (q : ℕ). overhead_pages shape ≤ q) path.behind fit.0 in
              let to = subst (λ (q : ℕ). q < shape.pages) path.behind fit.1 in
              let there = subst (IsOneOf pages) here (at_place pages bad.n 0 g.long) in
              ⊎_elim (λ free. false≢true (sym used ∙ free)) (λ on. not_on_chain page there on) (covered page from to)
          | inr why ↦ elim why [
            | inl among ↦
                let again : get_or pages among.at 0 ≡ get_or pages bad.n 0 = g.at among.at (omega (arith, among.below)) ∙ among.is ∙ sym here in
                no_two_places are_one_number pages among.at bad.n 0 own_apart among.below g.long
                (ap (λ (k : ℕ). k == get_or pages bad.n 0) again ∙ eq_itself (get_or pages bad.n 0))
            | inr unfit ↦ unfit (subst (λ (q : ℕ). IsFit (page_after bytes q) (used_in_page bytes q)) path.behind fit.2)
          ]
        ]
