-- What of a space's reading stays, by the bytes that stay.
use Rattle.std.proofs.Common.{◌≡◌, ◌⊎◌, inl, inr, ◌<◌, ◌≤◌, ℕ, zero, suc, ◌+◌, ◌-◌, ◌*◌, Bool, true, false, ◌&&◌, ◌||◌, List, [], ◌∷◌, ◌++◌, length}
use Rattle.std.proofs.Common.{get_or, drop, Option, None, Some, refl, sym, ap, subst, ◌∙◌, arith}
use Rattle.std.specs.Prelude.{◌%◌, ◌==◌, nat_le, nat_lt, if◌then◌else◌, option_map}
use Rattle.std.specs.Option.{option_and_then}
use Rattle.std.specs.List.{All}
use Rattle.std.proofs.lemmas.Bool.{and_parts, cases_lt, leb-true, ltb-true, eqb-true}
use Rattle.std.proofs.lemmas.Bool.Decides.{nat_tests}
use Rattle.std.proofs.lemmas.Option.{none-some, same_Some}
use Rattle.std.proofs.lemmas.List.{length-take, length-drop, ext_get_or}
use Rattle.std.proofs.lemmas.List.Elements.{All-nil, All-cons, All-head, All-tail}
use Rattle.tq_field.specs.Digits.{number_of}
use Rattle.tq_field.specs.GatedLog.{log_reading}
use Rattle.tq_field.specs.Places.{run_at, number_at}
use Rattle.tq_field.proofs.Runs.{get_or-run_at}
use Rattle.tq_model.specs.declared.space.Shape.{Shape}
use Rattle.tq_model.specs.DeviceForm.{first_page}
use Rattle.tq_model.specs.Names.{is_name}
use Rattle.tq_model.specs.Reading.{hold_all}
use Rattle.tq_model.specs.Space.{overhead_pages, slot_pages, log_pages}
use Rattle.tq_model.specs.SpaceForm.{RawSpace, raw_space, shape_of}
use Rattle.tq_slots.specs.SpaceOrder.{IsOneOf}
use Rattle.tq_slots.specs.SpaceReading.{creation_tests, creation_in, area_page, area_start, base_bytes, log_of_space, slots_by, slots_stored}
use Rattle.tq_slots.specs.SpaceReading.{page_after, used_in_page, is_chain_page, chain_from, chain_in, joined, message_in, message_at}
use Rattle.tq_slots.proofs.ListLemmas.{of_all}

-- ---- runs

-- equal runs of two lists of one length
pub run_same : (at n : ℕ) (a b : List ℕ) → length b ≡ length a → ((i : ℕ) → i < n → get_or b (at + i) 0 ≡ get_or a (at + i) 0)
    → run_at at n b ≡ run_at at n a
run_same at n a b size same =
    let of_a = length-take n (drop at a) in
    let of_b = length-take n (drop at b) in
    let rest_a = length-drop at a in
    let rest_b = length-drop at b in
    ext_get_or 0 (run_at at n b) (run_at at n a) (omega arith) (λ i lt.
    let below : i < n = omega arith in
    get_or-run_at at n b i 0 below ∙ same i below ∙ sym (get_or-run_at at n a i 0 below))

-- ---- the creation

-- a name has few bytes
name_short : (name : List ℕ) → is_name name ≡ true → length name ≤ 15
name_short [] is = absurd (cc)
name_short (byte ∷ bytes) is = let parts = and_parts _ (nat_le (length bytes) 14) is in let few = leb-true (length bytes) 14 parts.1 in omega arith

or_parts_true : (x y : Bool) → (x || y) ≡ true → (x ≡ true) ⊎ (y ≡ true)
or_parts_true true y is = inl refl
or_parts_true false y is = inr is

-- the bytes that a first page has for its error queue's name lie before the selector
error_before : (page : List ℕ) → 1024 ≤ length page → ((raw_space page).error_size == 0 || is_name (raw_space page).error) ≡ true → get_or page 24 0 ≤ 15
error_before page long is =
    let size = get_or page 24 0 in
    elim (or_parts_true (size == 0) (is_name (run_at 25 size page)) is) [
      | inl none ↦ let zero_size = eqb-true size 0 none in omega arith
      | inr name ↦
          let few = name_short (run_at 25 size page) name in
          let own = length-take size (drop 25 page) in
          let rest = length-drop 25 page in
          omega arith
    ]

-- the first bytes of a page are all that a creation is read from
raw_same : (a b : List ℕ) → length b ≡ length a → get_or a 24 0 ≤ 15 → ((i : ℕ) → i < 512 → get_or b i 0 ≡ get_or a i 0) → raw_space b ≡ raw_space a
raw_same a b size few same =
    let part : (at n : ℕ) → at + n ≤ 512 → run_at at n b ≡ run_at at n a = λ at n within. run_same at n a b size (λ i lt. same (at + i) (omega arith)) in
    let number : (at n : ℕ) → at + n ≤ 512 → number_at at n b ≡ number_at at n a = λ at n within. ap number_of (part at n within) in
    let long = same 24 (omega arith) in
    let error : run_at 25 (get_or b 24 0) b ≡ run_at 25 (get_or a 24 0) a =
    ap (λ n. run_at 25 n b) long ∙ part 25 (get_or a 24 0) (omega arith) in
    λ i. record {
      mark = part 0 8 (omega arith) i;
      version = number 8 2 (omega arith) i;
      queues = number 10 2 (omega arith) i;
      messages = number 12 2 (omega arith) i;
      transactions = number 14 2 (omega arith) i;
      memory = number 16 8 (omega arith) i;
      error_size = long i;
      error = error i;
    }

cond_parts : (b : Bool) (x y : Shape) → (if b then Some x else None) ≡ Some y → b ≡ true
cond_parts true x y is = refl
cond_parts false x y is = absurd (none-some y is)

-- what a creation that is read says of its last fields
creation_fits : (pages : ℕ) (bytes : List ℕ) (shape : Shape) → creation_in pages bytes ≡ Some shape
    → let r = raw_space (first_page bytes) in ((r.error_size == 0 || is_name r.error) ≡ true) × (nat_lt (overhead_pages (shape_of pages r)) pages ≡ true)
creation_fits pages bytes shape is =
    let r = raw_space (first_page bytes) in
    let tests = cond_parts (hold_all (creation_tests pages r)) (shape_of pages r) shape is in
    let one : (test : Bool) → IsOneOf (creation_tests pages r) test → test ≡ true = λ test h. of_all (λ t. t) (creation_tests pages r) test tests h in (
      one (r.error_size == 0 || is_name r.error) (inr (inr (inr (inr (inr (inr (inl refl))))))),
      one (nat_lt (overhead_pages (shape_of pages r)) pages) (inr (inr (inr (inr (inr (inr (inr (inl refl)))))))),
    )

-- a space has a first page
pub creation_some : (pages : ℕ) (bytes : List ℕ) (shape : Shape) → creation_in pages bytes ≡ Some shape → 1 ≤ pages
creation_some pages bytes shape is =
    let below = ltb-true (overhead_pages (shape_of pages (raw_space (first_page bytes)))) pages (creation_fits pages bytes shape is).1 in
    omega arith

-- the size of the error queue's name in a creation that is read
creation_few : (pages : ℕ) (bytes : List ℕ) (shape : Shape) → creation_in pages bytes ≡ Some shape → 1024 ≤ length bytes → get_or (first_page bytes) 24 0 ≤ 15
creation_few pages bytes shape is long =
    let own = length-take 1024 (drop 0 bytes) in
    let rest = length-drop 0 bytes in
    error_before (first_page bytes) (omega arith) (creation_fits pages bytes shape is).0

-- The creation stays where the bytes before the selector do.
pub creation_kept : (pages : ℕ) (a b : List ℕ) (shape : Shape) → length b ≡ length a → 1024 ≤ length a → ((i : ℕ) → i < 512 → get_or b i 0 ≡ get_or a i 0)
    → creation_in pages a ≡ Some shape → creation_in pages b ≡ Some shape
creation_kept pages a b shape size long same is =
    let of_a = length-take 1024 (drop 0 a) in
    let of_b = length-take 1024 (drop 0 b) in
    let rest_a = length-drop 0 a in
    let rest_b = length-drop 0 b in
    let first : raw_space (first_page b) ≡ raw_space (first_page a) =
    raw_same (first_page a) (first_page b) (omega arith) (creation_few pages a shape is long) (λ i lt.
    let at : 0 + i ≡ i = omega arith in
    get_or-run_at 0 1024 b i 0 (omega arith) ∙ ap (λ k. get_or b k 0) at ∙ same i lt
    ∙ sym (get_or-run_at 0 1024 a i 0 (omega arith) ∙ ap (λ k. get_or a k 0) at)) in
    ap (λ (r : RawSpace). if hold_all (creation_tests pages r) then Some (shape_of pages r) else None) first ∙ is

-- ---- the slots

-- the chosen area begins behind the first page, and ends before the pages of messages
area_within : (b : Bool) (m n : ℕ) → 1024 * (if b then 1 else 1 + (m + n)) + (1024 * m + 1024 * n) ≤ 1024 * (1 + 2 * (m + n))
area_within true m n = omega arith
area_within false m n = omega arith

-- The slots stay where the bytes before the pages of messages do.
pub slots_kept : (s : Shape) (a b : List ℕ) → length b ≡ length a → ((i : ℕ) → i < 1024 * overhead_pages s → get_or b i 0 ≡ get_or a i 0)
    → slots_stored s b ≡ slots_stored s a
slots_kept s a b size same =
    let m = slot_pages s in
    let n = log_pages s in
    let start = area_start s a in
    let begins : area_start s b ≡ start = ap (λ k. 1024 * area_page s k) (same 512 (omega arith)) in
    let within = area_within (get_or a 512 0 % 2 == 0) m n in
    let base : base_bytes s b ≡ base_bytes s a =
    ap (λ k. run_at k (1024 * m) b) begins ∙ run_same start (1024 * m) a b size (λ i lt. same (start + i) (omega arith)) in
    let log : log_of_space s b ≡ log_of_space s a =
    ap (λ k. run_at (k + 1024 * m) (1024 * n) b) begins
    ∙ run_same (start + 1024 * m) (1024 * n) a b size (λ i lt. same (start + 1024 * m + i) (omega arith)) in
    λ i. option_and_then (slots_by s (base i)) (log_reading (log i))

-- ---- the chains

-- no chain begins before the pages of messages
no_chain : (first end most : ℕ) (bytes : List ℕ) (page : ℕ) → page < first → chain_from (suc most) first end bytes page ≡ None
unfolding chain_from
no_chain first end most bytes page before =
    let none : nat_le first page ≡ false = grind (arith, nat_tests) in
    ap (λ (t : Bool). if ((t && nat_lt page end) && (nat_le 1 (used_in_page bytes page) && nat_le (used_in_page bytes page) 1016)
    && (page_after bytes page == 0 || used_in_page bytes page == 1016))
    then (if page_after bytes page == 0 then Some (page ∷ []) else option_map (λ pages. page ∷ pages) (chain_from most first end bytes (page_after bytes page)))
    else None) none

-- a chain lies on pages of messages alone
mapped_pages : (page : ℕ) (P : ℕ → Type 0) (o : Option (List ℕ)) (pages : List ℕ) → P page → ((more : List ℕ) → o ≡ Some more → All P more)
    → option_map (λ more. page ∷ more) o ≡ Some pages → All P pages
mapped_pages page P None pages here rest is = absurd (none-some pages is)
mapped_pages page P (Some more) pages here rest is =
    subst (All P) (same_Some (page ∷ more) pages is) (All-cons P page more here (rest more refl))

chosen_pages : (one last : Bool) (page : ℕ) (P : ℕ → Type 0) (o : Option (List ℕ)) (pages : List ℕ) → (one ≡ true → P page)
    → ((more : List ℕ) → o ≡ Some more → All P more)
    → (if one then (if last then Some (page ∷ []) else option_map (λ more. page ∷ more) o) else None) ≡ Some pages → All P pages
chosen_pages false last page P o pages here rest is = absurd (none-some pages is)
chosen_pages true true page P o pages here rest is =
    subst (All P) (same_Some (page ∷ []) pages is) (All-cons P page [] (here refl) (All-nil P))
chosen_pages true false page P o pages here rest is = mapped_pages page P o pages (here refl) rest is

chain_pages_from : (first end : ℕ) (bytes : List ℕ) (most page : ℕ) (pages : List ℕ) → chain_from most first end bytes page ≡ Some pages
    → All (λ p. first ≤ p) pages
unfolding chain_from
chain_pages_from first end bytes zero page pages is = absurd (none-some pages is)
chain_pages_from first end bytes (suc most) page pages is =
    let rest = chain_from most first end bytes (page_after bytes page) in
    chosen_pages (is_chain_page first end bytes page) (page_after bytes page == 0) page (λ p. first ≤ p) rest pages
    (λ one.
    let range = and_parts (nat_le first page && nat_lt page end) (nat_le 1 (used_in_page bytes page) && nat_le (used_in_page bytes page) 1016)
    (and_parts ((nat_le first page && nat_lt page end) && (nat_le 1 (used_in_page bytes page) && nat_le (used_in_page bytes page) 1016))
    (page_after bytes page == 0 || used_in_page bytes page == 1016) one).0 in
    leb-true first page (and_parts (nat_le first page) (nat_lt page end) range.0).0)
    (chain_pages_from first end bytes most (page_after bytes page)) is

module _ (first end : ℕ) (a b : List ℕ) (size : length b ≡ length a) (same : (i : ℕ) → 1024 * first ≤ i → get_or b i 0 ≡ get_or a i 0) where
  pub number_kept : (page at n : ℕ) → first ≤ page → number_at (1024 * page + at) n b ≡ number_at (1024 * page + at) n a
  number_kept page at n from = ap number_of (run_same (1024 * page + at) n a b size (λ i lt. same (1024 * page + at + i) (omega arith)))

  pub after_kept : (page : ℕ) → first ≤ page → page_after b page ≡ page_after a page
  after_kept page from =
      let e : 1024 * page + 0 ≡ 1024 * page = omega arith in
      subst (λ k. number_at k 4 b ≡ number_at k 4 a) e (number_kept page 0 4 from)

  pub used_kept : (page : ℕ) → first ≤ page → used_in_page b page ≡ used_in_page a page
  used_kept page from = number_kept page 4 2 from

  is_page_kept : (page : ℕ) → first ≤ page → is_chain_page first end b page ≡ is_chain_page first end a page
  is_page_kept page from =
      let used = used_kept page from in
      let after = after_kept page from in
      λ i. (nat_le first page && nat_lt page end) && (nat_le 1 (used i) && nat_le (used i) 1016) && (after i == 0 || used i == 1016)

  chain_kept : (most page : ℕ) → chain_from most first end b page ≡ chain_from most first end a page
  unfolding chain_from
  chain_kept zero page = refl
  chain_kept (suc most) page = elim (cases_lt page first) [
    | inl before ↦ no_chain first end most b page before ∙ sym (no_chain first end most a page before)
    | inr from ↦
        let is_page = is_page_kept page from in
        let after = after_kept page from in
        let rest = ap (chain_from most first end b) after ∙ chain_kept most (page_after a page) in
        λ i. if is_page i then (if after i == 0 then Some (page ∷ []) else option_map (λ pages. page ∷ pages) (rest i)) else None
  ]

  payload_kept : (page : ℕ) → first ≤ page → run_at (1024 * page + 8) (used_in_page b page) b ≡ run_at (1024 * page + 8) (used_in_page a page) a
  payload_kept page from =
      ap (λ n. run_at (1024 * page + 8) n b) (used_kept page from)
      ∙ run_same (1024 * page + 8) (used_in_page a page) a b size (λ i lt. same (1024 * page + 8 + i) (omega arith))

  joined_kept : (pages : List ℕ) → All (λ page. first ≤ page) pages → joined b pages ≡ joined a pages
  joined_kept [] from = refl
  joined_kept (page ∷ pages) from =
      let own = payload_kept page (All-head (λ p. first ≤ p) page pages from) in
      let rest = joined_kept pages (All-tail (λ p. first ≤ p) page pages from) in
      λ i. own i ++ rest i

-- The messages stay where the bytes of their pages do.
pub message_kept : (s : Shape) (a b : List ℕ) → length b ≡ length a → ((i : ℕ) → 1024 * overhead_pages s ≤ i → get_or b i 0 ≡ get_or a i 0)
    → (page : ℕ) → message_at s b page ≡ message_at s a page
message_kept s a b size same page =
    let first = overhead_pages s in
    let most = s.pages - overhead_pages s in
    ap (option_and_then (λ pages. message_in (joined b pages))) (chain_kept first s.pages a b size same most page)
    ∙ (elim (chain_in s a page) as (λ o. chain_in s a page ≡ o
    → option_and_then (λ pages. message_in (joined b pages)) o ≡ option_and_then (λ pages. message_in (joined a pages)) o) [
      | None ↦ λ e. refl
      | Some pages ↦ λ e. ap message_in (joined_kept first s.pages a b size same pages (chain_pages_from first s.pages a most page pages e))
    ]) refl
