-- A chain of a store is read from its pages.
use Rattle.std.proofs.Common.{◌≡◌, ◌≢◌, ◌⊎◌, inl, inr, ◌<◌, ◌≤◌, ℕ, zero, suc, ◌+◌, ◌-◌, ◌*◌, ◌/◌, ◌%◌, min, Bool, true, ◌&&◌, ◌||◌, List, [], ◌∷◌}
use Rattle.std.proofs.Common.{◌++◌, length, get_or, map, None, Some, sym, ap, ◌∙◌, arith}
use Rattle.std.specs.Prelude.{◌==◌, nat_le, nat_lt, if◌then◌else◌, option_map}
use Rattle.std.specs.Option.{option_and_then}
use Rattle.std.proofs.lemmas.Bool.{cases_lt, lt-ltb, le-ltb, eq-eqb, ne_eqb, le-leb, and_from, or_left, or_right}
use Rattle.std.proofs.lemmas.List.{length-map, get_or-map, ext_get_or, map-append}
use Rattle.tq_field.specs.Places.{run_at}
use Rattle.tq_field.proofs.Runs.{length-run_at, get_or-run_at}
use Rattle.tq_model.specs.declared.space.Shape.{Shape}
use Rattle.tq_model.specs.Site.{numbers_from}
use Rattle.tq_model.specs.Space.{overhead_pages}
use Rattle.tq_extent.specs.Bytes.{owned_bytes, reaches}
use Rattle.tq_extent.proofs.BytesLemmas.{length-owned}
use Rattle.tq_extent.proofs.ExtentLemmas.{length-numbers_from, get_or-numbers_from, numbers_from-append}
use Rattle.tq_pages.specs.Store.{Store, IsStore, size_of, count_of, page_of}
use Rattle.tq_pages.specs.Content.{HasChain, number_behind, payload_place, chain_bytes}
use Rattle.tq_pages.proofs.ChainLemmas.{if-true, if-false, no_more}
use Rattle.tq_slots.specs.SpaceReading.{page_after, used_in_page, is_chain_page, chain_from, chain_in, joined, message_in, message_at}
use Rattle.tq_slots.specs.SlotImages.{RawSlots}
use Rattle.tq_store.specs.Stored.{HasStore, pages_in}

-- ---- what makes a page one of a chain

-- the numbers of a page that has a next one, or of a last one
pub chain_page : (first end page next used : ℕ) → first ≤ page → page < end → 1 ≤ used → used ≤ 1016 → (next ≡ 0) ⊎ (used ≡ 1016)
    → ((nat_le first page && nat_lt page end) && (nat_le 1 used && nat_le used 1016) && (next == 0 || used == 1016)) ≡ true
chain_page first end page next used from to some most fits =
    let range = and_from (nat_le first page) (nat_lt page end) (le-leb first page from) (lt-ltb page end to) in
    let count = and_from (nat_le 1 used) (nat_le used 1016) (le-leb 1 used some) (le-leb used 1016 most) in
    and_from ((nat_le first page && nat_lt page end) && (nat_le 1 used && nat_le used 1016)) (next == 0 || used == 1016)
    (and_from (nat_le first page && nat_lt page end) (nat_le 1 used && nat_le used 1016) range count)
    (elim fits [
      | inl last ↦ or_left (next == 0) (used == 1016) (eq-eqb next 0 last)
      | inr full ↦ or_right (next == 0) (used == 1016) (eq-eqb used 1016 full)
    ])

module _ (first end : ℕ) (bytes : List ℕ) (page : ℕ) (is : is_chain_page first end bytes page ≡ true) where
  chain_step : (most : ℕ) → chain_from (suc most) first end bytes page ≡ (if page_after bytes page == 0 then Some (page ∷ [])
      else option_map (λ pages. page ∷ pages) (chain_from most first end bytes (page_after bytes page)))
  unfolding chain_from
  chain_step most =
      ap (λ (t : Bool). if t then (if page_after bytes page == 0 then Some (page ∷ [])
      else option_map (λ pages. page ∷ pages) (chain_from most first end bytes (page_after bytes page))) else None) is

  -- a chain that ends with a page
  pub chain_last : (most : ℕ) → page_after bytes page ≡ 0 → chain_from (suc most) first end bytes page ≡ Some (page ∷ [])
  chain_last most last =
      chain_step most
      ∙ ap (λ (t : Bool). if t then Some (page ∷ []) else option_map (λ pages. page ∷ pages) (chain_from most first end bytes (page_after bytes page)))
      (eq-eqb (page_after bytes page) 0 last)

  -- a chain that goes on behind it
  pub chain_goes_on : (most : ℕ) → page_after bytes page ≢ 0
      → chain_from (suc most) first end bytes page ≡ option_map (λ pages. page ∷ pages) (chain_from most first end bytes (page_after bytes page))
  chain_goes_on most more =
      chain_step most
      ∙ ap (λ (t : Bool). if t then Some (page ∷ []) else option_map (λ pages. page ∷ pages) (chain_from most first end bytes (page_after bytes page)))
      (ne_eqb (page_after bytes page) 0 more)

-- ---- the chain of a store that begins at a page

module _ (shape : Shape) (store : Store) (is : IsStore store) (pages : length store.free ≡ shape.pages) (g : ℕ)
    (within : (k : ℕ) → k < count_of store g → overhead_pages shape ≤ page_of store g k) (bytes : List ℕ) (chain : HasChain store g bytes) where
  after_page : (k : ℕ) → k < count_of store g → page_after bytes (page_of store g k) ≡ number_behind store.next g (count_of store g) k
  after_page k lt = chain.next k lt

  used_page : (k : ℕ) → k < count_of store g → used_in_page bytes (page_of store g k) ≡ min 1016 (size_of store g - 1016 * k)
  used_page k lt = chain.used k lt

  after_last : (k : ℕ) → k + 1 ≡ count_of store g → page_after bytes (page_of store g k) ≡ 0
  after_last k last =
      after_page k (omega arith)
      ∙ if-false (nat_lt (k + 1) (count_of store g)) (page_of store g (k + 1)) 0 (le-ltb (k + 1) (count_of store g) (omega arith))

  after_inner : (k : ℕ) → k + 1 < count_of store g → page_after bytes (page_of store g k) ≡ page_of store g (k + 1)
  after_inner k inner =
      after_page k (omega arith)
      ∙ if-true (nat_lt (k + 1) (count_of store g)) (page_of store g (k + 1)) 0 (lt-ltb (k + 1) (count_of store g) inner)

  is_page : (k : ℕ) → k < count_of store g → is_chain_page (overhead_pages shape) shape.pages bytes (page_of store g k) ≡ true
  is_page k lt =
      let page = page_of store g k in
      let used = used_page k lt in
      let to = is.within g k lt in
      chain_page (overhead_pages shape) shape.pages page (page_after bytes page) (used_in_page bytes page) (within k lt) (omega (arith, pages, to))
      (omega arith) (omega arith)
      (elim (cases_lt (k + 1) (count_of store g)) [
        | inl inner ↦ inr (omega arith)
        | inr last ↦ inl (after_last k (omega arith))
      ])

  -- the pages from the k-th one on
  from_page : (d most k : ℕ) → k + suc d ≡ count_of store g → suc d ≤ most
      → chain_from most (overhead_pages shape) shape.pages bytes (page_of store g k) ≡ Some (map (page_of store g) (numbers_from k (suc d)))
  from_page d zero k all fits = absurd (omega arith)
  from_page zero (suc most) k all fits =
      chain_last (overhead_pages shape) shape.pages bytes (page_of store g k) (is_page k (omega arith)) most (after_last k (omega arith))
  from_page (suc d) (suc most) k all fits =
      let page = page_of store g k in
      let next = after_inner k (omega arith) in
      let some = within (k + 1) (omega arith) in
      chain_goes_on (overhead_pages shape) shape.pages bytes page (is_page k (omega arith)) most (λ none. omega arith)
      ∙ ap (λ p. option_map (λ rest. page ∷ rest) (chain_from most (overhead_pages shape) shape.pages bytes p)) next
      ∙ ap (option_map (λ rest. page ∷ rest)) (from_page d most (k + 1) (omega arith) (omega arith))

  -- there are no more pages than those of messages
  pub count_few : count_of store g ≤ shape.pages - overhead_pages shape
  count_few = no_more (shape.pages - overhead_pages shape) (count_of store g) (λ k. page_of store g k - overhead_pages shape)
      (λ k lt. let from = within k lt in let to = is.within g k lt in omega (arith, pages))
      (λ j k lt_j lt_k same. let from_j = within j lt_j in let from_k = within k lt_k in is.distinct g j k lt_j lt_k (omega arith))

  module _ (some : 1 ≤ size_of store g) where
    pub chain_read : chain_in shape bytes g ≡ Some (pages_in store g)
    chain_read =
        let n = count_of store g in
        let all : suc (n - 1) ≡ n = omega arith in
        from_page (n - 1) (shape.pages - overhead_pages shape) 0 (omega arith) (let few = count_few in omega arith)
        ∙ ap (λ d. Some (map (page_of store g) (numbers_from 0 d))) all

  -- ---- its bytes

  abbrev byte_at : ℕ → ℕ
  byte_at i = get_or bytes (payload_place store.next g i) 0

  module _ (long : 1024 * length store.free ≤ length bytes) where
    -- those of one page
    page_bytes_are : (k : ℕ) → k < count_of store g
        → run_at (1024 * page_of store g k + 8) (used_in_page bytes (page_of store g k)) bytes
        ≡ map byte_at (numbers_from (1016 * k) (min 1016 (size_of store g - 1016 * k)))
    page_bytes_are k lt =
        let page = page_of store g k in
        let used = min 1016 (size_of store g - 1016 * k) in
        let numbers = numbers_from (1016 * k) used in
        let to = is.within g k lt in
        let size = length-run_at (1024 * page + 8) used bytes (omega arith) in
        let count = length-numbers_from (1016 * k) used in
        ap (λ n. run_at (1024 * page + 8) n bytes) (used_page k lt)
        ∙ ext_get_or 0 (run_at (1024 * page + 8) used bytes) (map byte_at numbers) (size ∙ sym (length-map numbers byte_at ∙ count)) (λ j below.
        let inside : j < used = omega arith in
        let own : (1016 * k + j) / 1016 ≡ k = omega arith in
        let part : (1016 * k + j) % 1016 ≡ j = omega arith in
        let place : payload_place store.next g (1016 * k + j) ≡ 1024 * page + 8 + j = λ i. 1024 * page_of store g (own i) + 8 + part i in
        get_or-run_at (1024 * page + 8) used bytes j 0 inside ∙ ap (λ p. get_or bytes p 0) (sym place)
        ∙ sym (get_or-map byte_at numbers j 0 0 (omega arith) ∙ ap byte_at (get_or-numbers_from (1016 * k) used j 0 inside)))

    -- those from the k-th page on
    bytes_from : (d k : ℕ) → k + d ≡ count_of store g
        → joined bytes (map (page_of store g) (numbers_from k d)) ≡ map byte_at (numbers_from (1016 * k) (size_of store g - 1016 * k))
    bytes_from zero k all =
        let none : size_of store g - 1016 * k ≡ 0 = omega arith in
        sym (ap (λ n. map byte_at (numbers_from (1016 * k) n)) none)
    bytes_from (suc d) k all =
        let used = min 1016 (size_of store g - 1016 * k) in
        let rest = size_of store g - 1016 * (k + 1) in
        let parts : size_of store g - 1016 * k ≡ used + rest = omega arith in
        let next : numbers_from (1016 * (k + 1)) rest ≡ numbers_from (1016 * k + used) rest = elim (cases_lt 0 rest) [
          | inl more ↦ let e : 1016 * (k + 1) ≡ 1016 * k + used = omega arith in ap (λ n. numbers_from n rest) e
          | inr last ↦ let none : rest ≡ 0 = omega arith in ap (numbers_from (1016 * (k + 1))) none ∙ sym (ap (numbers_from (1016 * k + used)) none)
        ] in
        (λ i. page_bytes_are k (omega arith) i ++ (bytes_from d (k + 1) (omega arith) ∙ ap (map byte_at) next) i)
        ∙ sym (ap (λ n. map byte_at (numbers_from (1016 * k) n)) parts ∙ ap (map byte_at) (numbers_from-append (1016 * k) used rest)
        ∙ map-append byte_at (numbers_from (1016 * k) used) (numbers_from (1016 * k + used) rest))

    pub joined_read : joined bytes (pages_in store g) ≡ chain_bytes store g bytes
    joined_read =
        let all : size_of store g - 0 ≡ size_of store g = omega arith in
        bytes_from (count_of store g) 0 (omega arith) ∙ ap (λ n. map byte_at (numbers_from 0 n)) all

    pub message_read : 1 ≤ size_of store g → message_at shape bytes g ≡ message_in (chain_bytes store g bytes)
    message_read some = ap (option_and_then (λ ps. message_in (joined bytes ps))) (chain_read some) ∙ ap message_in joined_read

-- ---- the chains of a store in an image

module _ (shape : Shape) (clusters : List ℕ) (raw : RawSlots) (store : Store) (has : HasStore shape clusters raw store) (image : List ℕ)
    (reach : reaches clusters image ≡ true) where
  pub store_long : 1024 * length store.free ≤ length (owned_bytes clusters image)
  store_long =
      let mapped = has.is.mapped in
      let same = ap (λ (cs : List ℕ). length cs) has.clusters_are in
      omega (arith, length-owned clusters image reach)

  module _ (g : ℕ) (some : 1 ≤ size_of store g) (chain : HasChain store g (owned_bytes clusters image)) where
    pub store_chain : chain_in shape (owned_bytes clusters image) g ≡ Some (pages_in store g)
    store_chain = chain_read shape store has.is has.pages g (has.within g) (owned_bytes clusters image) chain some

    pub store_joined : joined (owned_bytes clusters image) (pages_in store g) ≡ chain_bytes store g (owned_bytes clusters image)
    store_joined = joined_read shape store has.is has.pages g (has.within g) (owned_bytes clusters image) chain store_long

    pub store_message : message_at shape (owned_bytes clusters image) g ≡ message_in (chain_bytes store g (owned_bytes clusters image))
    store_message = message_read shape store has.is has.pages g (has.within g) (owned_bytes clusters image) chain store_long some
