-- Free pages: how many there are, and the list in which they stand.
use Rattle.std.proofs.Common.{◌≡◌, ◌≢◌, ◌⊎◌, inl, inr, ◌<◌, ◌≤◌, ◌+◌, ◌-◌, ℕ, zero, suc, Bool, true, false, List, [], ◌∷◌, ◌++◌, length, get_or, set, replicate, refl, sym, ap, ◌∙◌, arith}
use Rattle.std.proofs.lemmas.Bool.{cases_eq}
use Rattle.std.proofs.lemmas.List.{length-set, get_or-set_same, get_or-set_other, get_or_append_left, length-append, set-append_right}
use Rattle.tq_pages.specs.FreePages.{free_count, IsListed}

bool : (b : Bool) → (b ≡ true) ⊎ (b ≡ false)
bool true = inl refl
bool false = inr refl

-- a free page is one of the list
pub free_within : (free : List Bool) (p : ℕ) → get_or free p false ≡ true → p < length free
free_within [] p is = absurd (cc)
free_within (x ∷ free) zero is = omega arith
free_within (x ∷ free) (suc p) is = let below = free_within free p is in omega arith

pub count_most : (free : List Bool) → free_count free ≤ length free
count_most [] = omega arith
count_most (true ∷ free) = let most = count_most free in omega arith
count_most (false ∷ free) = let most = count_most free in omega arith

pub count-taken : (free : List Bool) (p : ℕ) → get_or free p false ≡ true → free_count (set free p false) + 1 ≡ free_count free
count-taken [] p is = absurd (cc)
count-taken (true ∷ free) zero is = refl
count-taken (false ∷ free) zero is = absurd (cc)
count-taken (true ∷ free) (suc p) is = let rest = count-taken free p is in omega arith
count-taken (false ∷ free) (suc p) is = count-taken free p is

pub count-given : (free : List Bool) (p : ℕ) → p < length free → get_or free p false ≡ false → free_count (set free p true) ≡ free_count free + 1
count-given [] p lt is = absurd (omega arith)
count-given (true ∷ free) zero lt is = absurd (cc)
count-given (false ∷ free) zero lt is = refl
count-given (true ∷ free) (suc p) lt is = let rest = count-given free p (omega arith) is in omega arith
count-given (false ∷ free) (suc p) lt is = count-given free p (omega arith) is

-- where a page is not free, not all are
pub count_below : (free : List Bool) (p : ℕ) → p < length free → get_or free p false ≡ false → free_count free < length free
count_below free p lt is =
    let more = count-given free p lt is in
    let most = count_most (set free p true) in
    let size = length-set free p true in
    omega arith

pub count-append : (xs ys : List Bool) → free_count (xs ++ ys) ≡ free_count xs + free_count ys
count-append [] ys = omega arith
count-append (true ∷ xs) ys = let rest = count-append xs ys in omega arith
count-append (false ∷ xs) ys = count-append xs ys

pub count-replicate : (n : ℕ) → free_count (replicate n true) ≡ n
count-replicate zero = refl
count-replicate (suc n) = let rest = count-replicate n in omega arith

pub count-none : (n : ℕ) → free_count (replicate n false) ≡ 0
count-none zero = refl
count-none (suc n) = count-none n

-- behind the list nothing is free
free_push : (free : List Bool) (p : ℕ) → get_or (free ++ false ∷ []) p false ≡ get_or free p false
free_push [] zero = refl
free_push [] (suc p) = refl
free_push (x ∷ free) zero = refl
free_push (x ∷ free) (suc p) = free_push free p

place_push : (xs : List ℕ) (y p : ℕ) → p < length xs → get_or (xs ++ y ∷ []) p 0 ≡ get_or xs p 0
place_push xs y p lt = get_or_append_left xs (y ∷ []) 0 p lt

-- the list with room for more pages
pub listed_room : (free : List Bool) (order place : List ℕ) (count x y : ℕ) → IsListed free order place count
    → IsListed free (order ++ x ∷ []) (place ++ y ∷ []) count
listed_room free order place count x y is =
    let most = is.most in
    let order_size = is.order_size in
    let place_size = is.place_size in
    record {
      order_size = omega (arith, length-append order (x ∷ []));
      place_size = omega (arith, length-append place (y ∷ []));
      is_count = is.is_count;
      most = most;
      few = is.few;
      free_at = λ i lt. ap (λ q. get_or free q false) (place_push order x i (omega arith)) ∙ is.free_at i lt;
      place_of = λ i lt.
          let here = place_push order x i (omega arith) in
          let within = free_within free (get_or order i 0) (is.free_at i lt) in
          ap (λ q. get_or (place ++ y ∷ []) q 0) here ∙ place_push place y (get_or order i 0) (omega arith) ∙ is.place_of i lt;
      listed = λ p free_p.
          let within = free_within free p free_p in
          let same = place_push place y p (omega arith) in
          let below = is.listed p free_p in
          omega arith;
      at_place = λ p free_p.
          let within = free_within free p free_p in
          let below = is.listed p free_p in
          ap (λ q. get_or (order ++ x ∷ []) q 0) (place_push place y p (omega arith)) ∙ place_push order x (get_or place p 0) (omega arith) ∙ is.at_place p free_p;
    }

-- a page more that is not free
pub listed_push : (free : List Bool) (order place : List ℕ) (count : ℕ) → length free + 1 < 4294967296 → suc (length free) ≤ length order → suc (length free) ≤ length place
    → IsListed free order place count → IsListed (free ++ false ∷ []) order place count
listed_push free order place count few order_size place_size is =
    let size = length-append free (false ∷ []) in
    let most = is.most in
    record {
      order_size = omega arith;
      place_size = omega arith;
      is_count = is.is_count ∙ sym (let more = count-append free (false ∷ []) in omega arith);
      most = omega arith;
      few = omega arith;
      free_at = λ i lt. free_push free (get_or order i 0) ∙ is.free_at i lt;
      place_of = λ i lt. is.place_of i lt;
      listed = λ p free_p. is.listed p (sym (free_push free p) ∙ free_p);
      at_place = λ p free_p. is.at_place p (sym (free_push free p) ∙ free_p);
    }

-- numbers at one place are one
place_differs : (place : List ℕ) (a b : ℕ) → (get_or place a 0 ≡ get_or place b 0 → ⊥) → a ≢ b
place_differs place a b differs same = differs (ap (λ q. get_or place q 0) same)

-- what is free with a page taken was free, and is another one
taken_other : (free : List Bool) (p q : ℕ) → get_or free p false ≡ true → get_or (set free p false) q false ≡ true → (q ≢ p) × (get_or free q false ≡ true)
taken_other free p q free_p free_q = elim (cases_eq q p) [
  | inl same ↦
      let gone : get_or (set free p false) q false ≡ false = ap (λ k. get_or (set free p false) k false) same ∙ get_or-set_same free p false false (free_within free p free_p) in
      absurd (cc)
  | inr other ↦ (other, sym (get_or-set_other free p q false false other) ∙ free_q)
]

-- a page that is taken: the last one of the list stands in its place
module _ (free : List Bool) (order place : List ℕ) (count p at last : ℕ) (is : IsListed free order place count) (free_p : get_or free p false ≡ true)
    (at_is : at ≡ get_or place p 0) (last_is : last ≡ get_or order (count - 1) 0) where
  at_below : at < count
  at_below = let below = is.listed p free_p in omega arith

  own : get_or order at 0 ≡ p
  own = ap (λ k. get_or order k 0) at_is ∙ is.at_place p free_p

  last_free : get_or free last false ≡ true
  last_free = let below = at_below in ap (λ k. get_or free k false) last_is ∙ is.free_at (count - 1) (omega arith)

  last_at : get_or place last 0 ≡ count - 1
  last_at = let below = at_below in ap (λ k. get_or place k 0) last_is ∙ is.place_of (count - 1) (omega arith)

  pub last_within : last < length place
  last_within = let within = free_within free last last_free in let size = is.place_size in omega arith

  -- the number at a place of the list with the last one moved
  moved : (i : ℕ) → i < count - 1 → ((i ≡ at) × (get_or (set order at last) i 0 ≡ last)) ⊎ ((i ≢ at) × (get_or (set order at last) i 0 ≡ get_or order i 0))
  moved i lt =
      let below = at_below in
      let most = is.most in
      let size = is.order_size in
      elim (cases_eq i at) [
        | inl same ↦ inl (same, ap (λ k. get_or (set order at last) k 0) same ∙ get_or-set_same order at last 0 (omega arith))
        | inr other ↦ inr (other, get_or-set_other order at i last 0 other)
      ]

  -- the place of a page with the last one moved
  moved_place : (q : ℕ) → get_or (set free p false) q false ≡ true
      → (get_or (set place last at) q 0 < count - 1) × (get_or (set order at last) (get_or (set place last at) q 0) 0 ≡ q)
  moved_place q free_q =
      let both = taken_other free p q free_p free_q in
      let below = at_below in
      let within = last_within in
      let most = is.most in
      let size = is.order_size in
      let here = own in
      elim (cases_eq q last) [
        | inl same ↦
            let now : get_or (set place last at) q 0 ≡ at = ap (λ k. get_or (set place last at) k 0) same ∙ get_or-set_same place last at 0 within in
            let before : at ≢ count - 1 = λ e. both.0 (same ∙ last_is ∙ sym (ap (λ k. get_or order k 0) e) ∙ here) in (
              omega (arith, before),
              ap (λ k. get_or (set order at last) k 0) now ∙ get_or-set_same order at last 0 (omega arith) ∙ sym same,
            )
        | inr other ↦
            let now : get_or (set place last at) q 0 ≡ get_or place q 0 = get_or-set_other place last q at 0 other in
            let old = is.listed q both.1 in
            let stands = is.at_place q both.1 in
            let before : get_or place q 0 ≢ count - 1 = λ e. other (sym stands ∙ ap (λ k. get_or order k 0) e ∙ sym last_is) in
            let elsewhere : get_or place q 0 ≢ at = λ e. both.0 (sym stands ∙ ap (λ k. get_or order k 0) e ∙ here) in (
              omega (arith, before),
              ap (λ k. get_or (set order at last) k 0) now ∙ get_or-set_other order at (get_or place q 0) last 0 elsewhere ∙ stands,
            )
      ]

  pub listed_taken : IsListed (set free p false) (set order at last) (set place last at) (count - 1)
  listed_taken =
      let below = at_below in
      let most = is.most in
      let fewer = count-taken free p free_p in
      let order_size = is.order_size in
      let place_size = is.place_size in
      record {
        order_size = omega (arith, length-set free p false, length-set order at last);
        place_size = omega (arith, length-set free p false, length-set place last at);
        is_count = omega (arith, is.is_count);
        most = omega (arith, length-set free p false);
        few = omega (arith, length-set free p false, is.few);
        free_at = λ i lt. elim (moved i lt) [
          | inl same ↦
              let differs = place_differs place last p (λ e. omega (arith, last_at)) in
              ap (λ k. get_or (set free p false) k false) same.1 ∙ get_or-set_other free p last false false differs ∙ last_free
          | inr other ↦
              let differs = place_differs place (get_or order i 0) p (λ e. other.0 (sym (is.place_of i (omega arith)) ∙ e ∙ sym at_is)) in
              ap (λ k. get_or (set free p false) k false) other.1 ∙ get_or-set_other free p (get_or order i 0) false false differs ∙ is.free_at i (omega arith)
        ];
        place_of = λ i lt. elim (moved i lt) [
          | inl same ↦ ap (λ k. get_or (set place last at) k 0) same.1 ∙ get_or-set_same place last at 0 last_within ∙ sym same.0
          | inr other ↦
              let old = is.place_of i (omega arith) in
              let differs = place_differs place (get_or order i 0) last (λ e. omega (arith, last_at)) in
              ap (λ k. get_or (set place last at) k 0) other.1 ∙ get_or-set_other place last (get_or order i 0) at 0 differs ∙ old
        ];
        listed = λ q free_q. (moved_place q free_q).0;
        at_place = λ q free_q. (moved_place q free_q).1;
      }

-- a page that is given back stands behind the free ones
module _ (free : List Bool) (order place : List ℕ) (count p : ℕ) (is : IsListed free order place count) (within : p < length free)
    (used : get_or free p false ≡ false) where
  pub count_within : count < length free
  count_within = let below = count_below free p within used in omega (arith, is.is_count)

  given_order : (i : ℕ) → i < count → get_or (set order count p) i 0 ≡ get_or order i 0
  given_order i lt = get_or-set_other order count i p 0 (λ e. omega arith)

  given_last : get_or (set order count p) count 0 ≡ p
  given_last = let room = count_within in let size = is.order_size in get_or-set_same order count p 0 (omega arith)

  not_own : (q : ℕ) → get_or free q false ≡ true → q ≢ p
  not_own q free_q same = let gone = ap (λ k. get_or free k false) same in absurd (cc)

  given_free : (q : ℕ) → get_or free q false ≡ true → get_or (set free p true) q false ≡ true
  given_free q free_q = get_or-set_other free p q true false (not_own q free_q) ∙ free_q

  given_place : (q : ℕ) → get_or free q false ≡ true → get_or (set place p count) q 0 ≡ get_or place q 0
  given_place q free_q = get_or-set_other place p q count 0 (not_own q free_q)

  own_place : get_or (set place p count) p 0 ≡ count
  own_place = let size = is.place_size in get_or-set_same place p count 0 (omega arith)

  -- what is free then was free, or is this page
  free_then : (q : ℕ) → get_or (set free p true) q false ≡ true → (q ≡ p) ⊎ (get_or free q false ≡ true)
  free_then q free_q = elim (cases_eq q p) [
    | inl same ↦ inl same
    | inr other ↦ inr (sym (get_or-set_other free p q true false other) ∙ free_q)
  ]

  pub listed_given : IsListed (set free p true) (set order count p) (set place p count) (count + 1)
  listed_given =
      let room = count_within in
      let more = count-given free p within used in
      let order_size = is.order_size in
      let place_size = is.place_size in
      record {
        order_size = omega (arith, length-set free p true, length-set order count p);
        place_size = omega (arith, length-set free p true, length-set place p count);
        is_count = omega (arith, is.is_count);
        most = omega (arith, length-set free p true);
        few = omega (arith, length-set free p true, is.few);
        free_at = λ i lt. elim (cases_eq i count) [
          | inl same ↦ ap (λ k. get_or (set free p true) k false) (ap (λ k. get_or (set order count p) k 0) same ∙ given_last) ∙ get_or-set_same free p true false within
          | inr other ↦
              ap (λ k. get_or (set free p true) k false) (given_order i (omega (arith, other))) ∙ given_free (get_or order i 0) (is.free_at i (omega (arith, other)))
        ];
        place_of = λ i lt. elim (cases_eq i count) [
          | inl same ↦ ap (λ k. get_or (set place p count) k 0) (ap (λ k. get_or (set order count p) k 0) same ∙ given_last) ∙ own_place ∙ sym same
          | inr other ↦
              let before : i < count = omega (arith, other) in
              ap (λ k. get_or (set place p count) k 0) (given_order i before) ∙ given_place (get_or order i 0) (is.free_at i before) ∙ is.place_of i before
        ];
        listed = λ q free_q. elim (free_then q free_q) [
          | inl same ↦ let here = ap (λ k. get_or (set place p count) k 0) same ∙ own_place in omega arith
          | inr before ↦ let same = given_place q before in let below = is.listed q before in omega arith
        ];
        at_place = λ q free_q. elim (free_then q free_q) [
          | inl same ↦ ap (λ k. get_or (set order count p) k 0) (ap (λ k. get_or (set place p count) k 0) same ∙ own_place) ∙ given_last ∙ sym same
          | inr before ↦
              ap (λ k. get_or (set order count p) k 0) (given_place q before) ∙ given_order (get_or place q 0) (is.listed q before) ∙ is.at_place q before
        ];
      }

-- the last one of some pages that are not free is given back
give_last : (k : ℕ) (ys : List Bool) → set (replicate (suc k) false ++ ys) k true ≡ replicate k false ++ true ∷ ys
give_last zero ys = refl
give_last (suc k) ys = ap (λ (l : List Bool). false ∷ l) (give_last k ys)

pub give_step : (xs : List Bool) (left pages : ℕ) → 1 ≤ left → left ≤ pages
    → set (xs ++ (replicate left false ++ replicate (pages - left) true)) (length xs + (left - 1)) true
    ≡ xs ++ (replicate (left - 1) false ++ replicate (pages - (left - 1)) true)
give_step xs left pages some most =
    let rest = replicate (pages - left) true in
    let all : left ≡ suc (left - 1) = omega arith in
    let place : length xs + (left - 1) - length xs ≡ left - 1 = omega arith in
    let more : pages - (left - 1) ≡ suc (pages - left) = omega arith in
    set-append_right xs (replicate left false ++ rest) (length xs) (length xs + (left - 1)) true refl (omega arith)
    ∙ ap (λ (l : List Bool). xs ++ l)
    (ap (λ k. set (replicate left false ++ rest) k true) place ∙ ap (λ k. set (replicate k false ++ rest) (left - 1) true) all ∙ give_last (left - 1) rest
    ∙ ap (λ k. replicate (left - 1) false ++ replicate k true) (sym more))
