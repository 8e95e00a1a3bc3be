-- What a store keeps where pages are taken and given back, and chains begin and end.
use Rattle.std.proofs.Common.{◌≡◌, ◌≢◌, ◌⊎◌, inl, inr, ◌<◌, ◌≤◌, ◌+◌, ℕ, zero, suc, Bool, true, false, List, [], ◌∷◌, ◌++◌, length, get_or, set, replicate, refl, sym, ap, ◌∙◌, subst, arith}
use Rattle.std.proofs.lemmas.Bool.{cases_eq}
use Rattle.std.proofs.lemmas.List.{length-set, get_or-set_same, get_or-set_other, get_or_append_left, length-append, length-replicate}
use Rattle.tq_model.specs.Site.{most_clusters}
use Rattle.tq_extent.specs.Pages.{page_count}
use Rattle.tq_pages.specs.Store.{Store, is_free, chain_pages, page_behind, size_of, count_of, page_of, IsStore, new_store, extended, with_taken, with_free, with_size, AreLoose, HasTaken, HasAdded, IsSameStore}
use Rattle.tq_pages.proofs.FreeLemmas.{free_within, count-taken, count-given}

-- the pages behind one another stay where only links of other pages change
pub behind_same : (old new : List ℕ) (f n : ℕ) → ((k : ℕ) → k < n → get_or new (page_behind old f k) 0 ≡ get_or old (page_behind old f k) 0)
    → (k : ℕ) → k ≤ n → page_behind new f k ≡ page_behind old f k
behind_same old new f n same zero le = refl
behind_same old new f n same (suc k) le =
    let before = behind_same old new f n same k (omega arith) in
    ap (λ p. get_or new p 0) before ∙ same k (omega arith)

-- ---- a page is taken

module _ (s : Store) (is : IsStore s) (page next : ℕ) (free : is_free s page ≡ true) where
  -- other links stay
  link_kept : (p : ℕ) → is_free s p ≡ false → get_or (set s.next page next) p 0 ≡ get_or s.next p 0
  link_kept p used = get_or-set_other s.next page p next 0 (λ same. let both = ap (is_free s) same in absurd (cc))

  -- the pages of a chain stay
  taken_pages : (f k : ℕ) → k < count_of s f → page_of (with_taken s page next) f k ≡ page_of s f k
  taken_pages f k lt = behind_same s.next (set s.next page next) f k (λ j below. link_kept (page_of s f j) (is.used f j (omega arith))) k (omega arith)

  -- what is free then was free, and another page
  pub taken_free : (p : ℕ) → is_free (with_taken s page next) p ≡ true → is_free s p ≡ true
  taken_free p free_p = elim (cases_eq p page) [
    | inl same ↦ ap (is_free s) same ∙ free
    | inr other ↦ sym (get_or-set_other s.free page p false false other) ∙ free_p
  ]

  taken_used : (p : ℕ) → is_free s p ≡ false → is_free (with_taken s page next) p ≡ false
  taken_used p used = get_or-set_other s.free page p false false (λ same. let both = ap (is_free s) same in absurd (cc)) ∙ used

  pub page_used : is_free (with_taken s page next) page ≡ false
  page_used = get_or-set_same s.free page false false (free_within s.free page free)

  pub store_taken : IsStore (with_taken s page next)
  store_taken = record {
    next_size = length-set s.next page next ∙ is.next_size ∙ sym (length-set s.free page false);
    sizes_size = is.sizes_size ∙ sym (length-set s.free page false);
    mapped = let mapped = is.mapped in omega (arith, length-set s.free page false);
    few = is.few;
    within = λ f k lt. let within = is.within f k lt in let same = taken_pages f k lt in omega (arith, length-set s.free page false);
    used = λ f k lt. ap (is_free (with_taken s page next)) (taken_pages f k lt) ∙ taken_used (page_of s f k) (is.used f k lt);
    distinct = λ f j k lt_j lt_k same. is.distinct f j k lt_j lt_k (sym (taken_pages f j lt_j) ∙ same ∙ taken_pages f k lt_k);
    apart = λ f g j k lt_j lt_k same. is.apart f g j k lt_j lt_k (sym (taken_pages f j lt_j) ∙ same ∙ taken_pages g k lt_k);
  }

-- ---- a page of no chain is given back

pub store_given : (s : Store) (page : ℕ) → IsStore s → ((f k : ℕ) → k < count_of s f → page_of s f k ≡ page → ⊥) → IsStore (with_free s page)
store_given s page is alone = record {
  next_size = is.next_size ∙ sym (length-set s.free page true);
  sizes_size = is.sizes_size ∙ sym (length-set s.free page true);
  mapped = let mapped = is.mapped in omega (arith, length-set s.free page true);
  few = is.few;
  within = λ f k lt. let within = is.within f k lt in omega (arith, length-set s.free page true);
  used = λ f k lt. get_or-set_other s.free page (page_of s f k) true false (alone f k lt) ∙ is.used f k lt;
  distinct = is.distinct;
  apart = is.apart;
}

-- ---- a chain begins, or ends

module _ (s : Store) (is : IsStore s) (first size : ℕ) (within : first < length s.sizes) (loose : AreLoose s first (chain_pages size)) where
  pub size_set : size_of (with_size s first size) first ≡ size
  size_set = get_or-set_same s.sizes first size 0 within

  pub size_other : (g : ℕ) → g ≢ first → size_of (with_size s first size) g ≡ size_of s g
  size_other g other = get_or-set_other s.sizes first g size 0 other

  -- a chain is the one that begins, or another one
  which : (f k : ℕ) → k < count_of (with_size s first size) f → ((f ≡ first) × (k < chain_pages size)) ⊎ (k < count_of s f)
  which f k lt = elim (cases_eq f first) [
    | inl same ↦ let is_size = ap (size_of (with_size s first size)) same ∙ size_set in inl (same, subst (λ n. k < chain_pages n) is_size lt)
    | inr other ↦ inr (subst (λ n. k < chain_pages n) (size_other f other) lt)
  ]

  own : (f k : ℕ) → f ≡ first → page_of s f k ≡ page_of s first k
  own f k same = ap (λ g. page_of s g k) same

  pub store_sized : IsStore (with_size s first size)
  store_sized = record {
    next_size = is.next_size;
    sizes_size = length-set s.sizes first size ∙ is.sizes_size;
    mapped = is.mapped;
    few = is.few;
    within = λ f k lt. elim (which f k lt) [
      | inl new ↦ let below = loose.within k new.1 in let here = own f k new.0 in omega arith
      | inr old ↦ is.within f k old
    ];
    used = λ f k lt. elim (which f k lt) [
      | inl new ↦ ap (is_free s) (own f k new.0) ∙ loose.used k new.1
      | inr old ↦ is.used f k old
    ];
    distinct = λ f j k lt_j lt_k same. elim (which f j lt_j) [
      | inl a ↦ elim (which f k lt_k) [
        | inl b ↦ loose.distinct j k a.1 b.1 (sym (own f j a.0) ∙ same ∙ own f k b.0)
        | inr b ↦ absurd (loose.apart f k j b a.1 (sym same ∙ own f j a.0))
      ]
      | inr a ↦ elim (which f k lt_k) [
        | inl b ↦ absurd (loose.apart f j k a b.1 (same ∙ own f k b.0))
        | inr b ↦ is.distinct f j k a b same
      ]
    ];
    apart = λ f g j k lt_j lt_k same. elim (which f j lt_j) [
      | inl a ↦ elim (which g k lt_k) [
        | inl b ↦ a.0 ∙ sym b.0
        | inr b ↦ absurd (loose.apart g k j b a.1 (sym same ∙ own f j a.0))
      ]
      | inr a ↦ elim (which g k lt_k) [
        | inl b ↦ absurd (loose.apart f j k a b.1 (same ∙ own g k b.0))
        | inr b ↦ is.apart f g j k a b same
      ]
    ];
  }

-- ---- pages that follow one another are taken, one by one

last_or_before : (k n : ℕ) → k < n + 1 → (k < n) ⊎ (k ≡ n)
last_or_before k n lt = elim (cases_eq k n) [
  | inl same ↦ inr same
  | inr other ↦ inl (omega (arith, other))
]

pub taken_none : (s : Store) (f : ℕ) → HasTaken s f 0 s
taken_none s f = record {
  dev = refl;
  clusters = refl;
  size = refl;
  free = λ k lt. absurd (omega arith);
  taken = λ k lt. absurd (omega arith);
  distinct = λ j k lt_j lt_k same. absurd (omega arith);
  left = λ page free. free;
  others = λ page free. inl free;
  behind = λ page used. refl;
  count = omega arith;
}

module _ (s cur : Store) (f n page next : ℕ) (t : HasTaken s f n cur) (here : page_of cur f n ≡ page) (free : is_free cur page ≡ true)
    (long : length cur.next ≡ length cur.free) where
  -- the pages so far stay
  pub so_far : (k : ℕ) → k ≤ n → page_of (with_taken cur page next) f k ≡ page_of cur f k
  so_far k le = behind_same cur.next (set cur.next page next) f n
      (λ j below. get_or-set_other cur.next page (page_of cur f j) next 0
      (λ same. let both = ap (is_free cur) same in let used = t.taken j below in absurd (cc))) k le

  last : page_of (with_taken cur page next) f n ≡ page
  last = so_far n (omega arith) ∙ here

  -- the next page stands behind them
  pub next_behind : page_of (with_taken cur page next) f (n + 1) ≡ next
  next_behind =
      let more : n + 1 ≡ suc n = omega arith in
      ap (page_of (with_taken cur page next) f) more ∙ ap (λ p. get_or (set cur.next page next) p 0) last
      ∙ get_or-set_same cur.next page next 0 (let within = free_within cur.free page free in omega arith)

  used_then : (p : ℕ) → is_free cur p ≡ false → is_free (with_taken cur page next) p ≡ false
  used_then p used = get_or-set_other cur.free page p false false (λ same. let both = ap (is_free cur) same in absurd (cc)) ∙ used

  own_used : is_free (with_taken cur page next) page ≡ false
  own_used = get_or-set_same cur.free page false false (free_within cur.free page free)

  before_last : (k : ℕ) → k < n → page_of (with_taken cur page next) f k ≢ page
  before_last k lt same =
      let used = t.taken k lt in
      let both = ap (is_free cur) (sym (so_far k (omega arith)) ∙ same) in
      absurd (cc)

  free_then : (p : ℕ) → is_free (with_taken cur page next) p ≡ true → is_free cur p ≡ true
  free_then p free_p = elim (cases_eq p page) [
    | inl same ↦ ap (is_free cur) same ∙ free
    | inr other ↦ sym (get_or-set_other cur.free page p false false other) ∙ free_p
  ]

  pub taken_more : HasTaken s f (n + 1) (with_taken cur page next)
  taken_more = record {
    dev = t.dev;
    clusters = t.clusters;
    size = length-set cur.free page false ∙ t.size;
    free = λ k lt. elim (last_or_before k n lt) [
      | inl before ↦ ap (is_free s) (so_far k (omega arith)) ∙ t.free k before
      | inr same ↦ ap (is_free s) (ap (page_of (with_taken cur page next) f) same ∙ last) ∙ t.left page free
    ];
    taken = λ k lt. elim (last_or_before k n lt) [
      | inl before ↦ ap (is_free (with_taken cur page next)) (so_far k (omega arith)) ∙ used_then (page_of cur f k) (t.taken k before)
      | inr same ↦ ap (is_free (with_taken cur page next)) (ap (page_of (with_taken cur page next) f) same ∙ last) ∙ own_used
    ];
    distinct = λ j k lt_j lt_k same. elim (last_or_before j n lt_j) [
      | inl a ↦ elim (last_or_before k n lt_k) [
        | inl b ↦ t.distinct j k a b (sym (so_far j (omega arith)) ∙ same ∙ so_far k (omega arith))
        | inr b ↦ absurd (before_last j a (same ∙ ap (page_of (with_taken cur page next) f) b ∙ last))
      ]
      | inr a ↦ elim (last_or_before k n lt_k) [
        | inl b ↦ absurd (before_last k b (sym same ∙ ap (page_of (with_taken cur page next) f) a ∙ last))
        | inr b ↦ a ∙ sym b
      ]
    ];
    left = λ p free_p. t.left p (free_then p free_p);
    others = λ p free_p. elim (t.others p free_p) [
      | inl is_so ↦ elim (cases_eq p page) [
        | inl same ↦ inr (record { at = n; below = omega arith; is = last ∙ sym same })
        | inr other ↦ inl (get_or-set_other cur.free page p false false other ∙ is_so)
      ]
      | inr among ↦
          let below = among.below in
          inr (record { at = among.at; below = omega arith; is = so_far among.at (omega arith) ∙ among.is })
    ];
    behind = λ p used.
        let was = t.left page free in
        get_or-set_other cur.next page p next 0 (λ same. let both = ap (is_free s) same in absurd (cc)) ∙ t.behind p used;
    count =
        let fewer = count-taken cur.free page free in
        let before = t.count in
        omega arith;
  }

-- ---- what stays of a store from which pages were taken

-- the chains that were there
pub kept_pages : (s cur : Store) (f n : ℕ) → IsStore s → HasTaken s f n cur → (g k : ℕ) → k < count_of s g → page_of cur g k ≡ page_of s g k
kept_pages s cur f n is t g k lt = behind_same s.next cur.next g k (λ j below. t.behind (page_of s g j) (is.used g j (omega arith))) k (omega arith)

-- the pages that were taken are of no chain
pub loose_taken : (s cur : Store) (f n : ℕ) → IsStore s → HasTaken s f n cur → cur.sizes ≡ s.sizes → AreLoose cur f n
loose_taken s cur f n is t sizes = record {
  within = λ k lt. let within = free_within s.free (page_of cur f k) (t.free k lt) in let size = t.size in omega arith;
  used = t.taken;
  distinct = t.distinct;
  apart = λ g j k lt_j lt_k same.
      let size : size_of cur g ≡ size_of s g = ap (λ (l : List ℕ). get_or l g 0) sizes in
      let below : j < count_of s g = subst (λ n. j < chain_pages n) size lt_j in
      let used = is.used g j below in
      let free = t.free k lt_k in
      let both = ap (is_free s) (sym (kept_pages s cur f n is t g j below) ∙ same) in
      absurd (cc);
}

chain_some : (size : ℕ) → 1 ≤ size → 0 < chain_pages size
chain_some size some = omega arith

-- a chain begins at them
pub added : (s cur : Store) (f size : ℕ) → IsStore s → HasTaken s f (chain_pages size) cur → cur.sizes ≡ s.sizes → 1 ≤ size → f < length cur.sizes
    → HasAdded s f size (with_size cur f size)
added s cur f size is t sizes some within = record {
  pages = record {
    dev = t.dev;
    clusters = t.clusters;
    size = t.size;
    free = t.free;
    taken = t.taken;
    distinct = t.distinct;
    left = t.left;
    others = t.others;
    behind = t.behind;
    count = t.count;
  };
  none = elim (cases_eq (size_of s f) 0) [
    | inl none ↦ none
    | inr other ↦
        let used = is.used f 0 (chain_some (size_of s f) (omega (arith, other))) in
        let free = t.free 0 (chain_some size some) in
        absurd (cc)
  ];
  is = get_or-set_same cur.sizes f size 0 within;
  chains = λ g other. get_or-set_other cur.sizes f g size 0 other ∙ ap (λ (l : List ℕ). get_or l g 0) sizes;
  others = kept_pages s cur f (chain_pages size) is t;
}

-- ---- pages of no chain are given back, one by one

bool : (b : Bool) → (b ≡ true) ⊎ (b ≡ false)
bool true = inl refl
bool false = inr refl

module _ (cur o : Store) (f n k page : ℕ) (loose : AreLoose o f n) (lt : k < n) (t : HasTaken cur f k o) (links : cur.next ≡ o.next)
    (here : page_of o f k ≡ page) where
  -- the next one is not free yet
  pub given_used : is_free cur page ≡ false
  given_used = elim (bool (is_free cur page)) [
    | inr is_not ↦ is_not
    | inl is_so ↦ elim (t.others page is_so) [
      | inl free ↦
          let used = loose.used k lt in
          let both = ap (is_free o) here in
          absurd (cc)
      | inr among ↦
          let below = among.below in
          let same = loose.distinct among.at k (omega arith) lt (among.is ∙ sym here) in
          absurd (omega arith)
    ]
  ]

  pub given_within : page < length cur.free
  given_within = let within = loose.within k lt in let size = t.size in omega (arith, here)

  -- it is of no chain
  pub given_alone : cur.sizes ≡ o.sizes → (g j : ℕ) → j < count_of cur g → page_of cur g j ≡ page → ⊥
  given_alone sizes g j below same =
      let size : size_of cur g ≡ size_of o g = ap (λ (l : List ℕ). get_or l g 0) sizes in
      loose.apart g j k (subst (λ n. j < chain_pages n) size below) lt (ap (λ (l : List ℕ). page_behind l g j) (sym links) ∙ same ∙ sym here)

  stays_free : (p : ℕ) → is_free cur p ≡ true → is_free (with_free cur page) p ≡ true
  stays_free p free = elim (cases_eq p page) [
    | inl same ↦ ap (is_free (with_free cur page)) same ∙ get_or-set_same cur.free page true false given_within
    | inr other ↦ get_or-set_other cur.free page p true false other ∙ free
  ]

  own_free : is_free (with_free cur page) page ≡ true
  own_free = get_or-set_same cur.free page true false given_within

  pub given_more : HasTaken (with_free cur page) f (k + 1) o
  given_more = record {
    dev = t.dev;
    clusters = t.clusters;
    size = t.size ∙ sym (length-set cur.free page true);
    free = λ j below. elim (last_or_before j k below) [
      | inl before ↦ stays_free (page_of o f j) (t.free j before)
      | inr same ↦ ap (is_free (with_free cur page)) (ap (page_of o f) same ∙ here) ∙ own_free
    ];
    taken = λ j below. loose.used j (omega arith);
    distinct = λ i j lt_i lt_j same. loose.distinct i j (omega arith) (omega arith) same;
    left = λ p free. stays_free p (t.left p free);
    others = λ p free. elim (cases_eq p page) [
      | inl same ↦ inr (record { at = k; below = omega arith; is = here ∙ sym same })
      | inr other ↦ elim (t.others p (sym (get_or-set_other cur.free page p true false other) ∙ free)) [
        | inl is_so ↦ inl is_so
        | inr among ↦ let below = among.below in inr (record { at = among.at; below = omega arith; is = among.is })
      ]
    ];
    behind = λ p used. ap (λ (l : List ℕ). get_or l p 0) (sym links);
    count =
        let more = count-given cur.free page given_within given_used in
        let before = t.count in
        omega arith;
  }

-- pages that were taken and given back are free as they were
module _ (s cur b : Store) (f n : ℕ) (is : IsStore s) (t : HasTaken s f n cur) (back : HasTaken b f n cur) where
  free_back : (p : ℕ) → is_free s p ≡ true → is_free b p ≡ true
  free_back p free = elim (t.others p free) [
    | inl is_so ↦ back.left p is_so
    | inr among ↦ ap (is_free b) (sym among.is) ∙ back.free among.at among.below
  ]

  free_before : (p : ℕ) → is_free b p ≡ true → is_free s p ≡ true
  free_before p free = elim (back.others p free) [
    | inl is_so ↦ t.left p is_so
    | inr among ↦ ap (is_free s) (sym among.is) ∙ t.free among.at among.below
  ]

  pub same_back : b.next ≡ cur.next → b.sizes ≡ cur.sizes → cur.sizes ≡ s.sizes → IsSameStore s b
  same_back links sizes before = record {
    dev = sym back.dev ∙ t.dev;
    clusters = sym back.clusters ∙ t.clusters;
    size = sym back.size ∙ t.size;
    free = λ p. elim (bool (is_free s p)) [
      | inl is_so ↦ free_back p is_so ∙ sym is_so
      | inr is_not ↦ elim (bool (is_free b p)) [
        | inl is_so ↦ let also = free_before p is_so in absurd (cc)
        | inr none ↦ none ∙ sym is_not
      ]
    ];
    count = let a = t.count in let c = back.count in omega arith;
    chains = λ g. ap (λ (l : List ℕ). get_or l g 0) (sizes ∙ before);
    pages = λ g k lt. ap (λ (l : List ℕ). page_behind l g k) links ∙ kept_pages s cur f n is t g k lt;
  }

-- ---- new pages

zero_anywhere : (n p : ℕ) → get_or (replicate n zero) p zero ≡ zero
zero_anywhere zero p = refl
zero_anywhere (suc n) zero = refl
zero_anywhere (suc n) (suc p) = zero_anywhere n p

zeros_behind : (xs : List ℕ) (n p : ℕ) → get_or (xs ++ replicate n 0) p 0 ≡ get_or xs p 0
zeros_behind [] n p = zero_anywhere n p
zeros_behind (x ∷ xs) n zero = refl
zeros_behind (x ∷ xs) n (suc p) = zeros_behind xs n p

no_chain : (size k : ℕ) → size ≡ 0 → k < chain_pages size → ⊥
no_chain size k none lt = omega arith

-- a new store has no chain
pub store_new : (dev first pages : ℕ) (clusters : List ℕ) → first + pages ≤ page_count clusters → length clusters ≤ most_clusters
    → IsStore (new_store dev clusters first pages)
store_new dev first pages clusters within few =
    let size : length (replicate first false ++ replicate pages true) ≡ first + pages = omega
    (arith, length-append (replicate first false) (replicate pages true), length-replicate first false, length-replicate pages true) in
    let none : (f k : ℕ) → k < count_of (new_store dev clusters first pages) f → ⊥ = λ f k lt.
    no_chain (get_or (replicate (first + pages) 0) f 0) k (zero_anywhere (first + pages) f) lt in
    record {
      next_size = length-replicate (first + pages) 0 ∙ sym size;
      sizes_size = length-replicate (first + pages) 0 ∙ sym size;
      mapped = omega arith;
      few = few;
      within = λ f k lt. absurd (none f k lt);
      used = λ f k lt. absurd (none f k lt);
      distinct = λ f j k lt_j lt_k same. absurd (none f j lt_j);
      apart = λ f g j k lt_j lt_k same. absurd (none f j lt_j);
    }

-- with more pages it has the same chains
module _ (s : Store) (is : IsStore s) (clusters : List ℕ) (pages : ℕ) where
  same_count : (f k : ℕ) → k < count_of (extended s clusters pages) f → k < count_of s f
  same_count f k lt = subst (λ n. k < chain_pages n) (zeros_behind s.sizes pages f) lt

  same_page : (f k : ℕ) → k < count_of s f → page_of (extended s clusters pages) f k ≡ page_of s f k
  same_page f k lt = behind_same s.next (s.next ++ replicate pages 0) f k (λ j below. zeros_behind s.next pages (page_of s f j)) k (omega arith)

  both_sizes : (xs : List ℕ) → length xs ≡ length s.free → length (xs ++ replicate pages 0) ≡ length (s.free ++ replicate pages true)
  both_sizes xs same =
      omega (arith, length-append xs (replicate pages 0), length-append s.free (replicate pages true), length-replicate {A = ℕ} pages 0, length-replicate pages true)

  pub store_extended : length s.free + pages ≤ page_count clusters → length clusters ≤ most_clusters → IsStore (extended s clusters pages)
  store_extended within few = record {
    next_size = both_sizes s.next is.next_size;
    sizes_size = both_sizes s.sizes is.sizes_size;
    mapped = omega (arith, length-append s.free (replicate pages true), length-replicate pages true);
    few = few;
    within = λ f k lt.
        let below = same_count f k lt in
        let here = is.within f k below in
        let same = same_page f k below in
        omega (arith, length-append s.free (replicate pages true));
    used = λ f k lt.
        let below = same_count f k lt in
        ap (is_free (extended s clusters pages)) (same_page f k below)
        ∙ get_or_append_left s.free (replicate pages true) false (page_of s f k) (is.within f k below) ∙ is.used f k below;
    distinct = λ f j k lt_j lt_k same.
        let a = same_count f j lt_j in
        let b = same_count f k lt_k in
        is.distinct f j k a b (sym (same_page f j a) ∙ same ∙ same_page f k b);
    apart = λ f g j k lt_j lt_k same.
        let a = same_count f j lt_j in
        let b = same_count g k lt_k in
        is.apart f g j k a b (sym (same_page f j a) ∙ same ∙ same_page g k b);
  }
