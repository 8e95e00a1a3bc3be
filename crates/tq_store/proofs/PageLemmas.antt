-- A first page that was spelt is read back, wherever it stands and whatever follows.
use Rattle.std.proofs.Common.{◌≡◌, ◌<◌, ◌≤◌, ℕ, ◌+◌, ◌^◌, ◌&&◌, Bool, true, false, List, [], ◌∷◌, ◌++◌, length, get_or, drop, take, Option, Some, None, refl, sym, ap, ◌∙◌, arith, zero-add, length-append}
use Rattle.std.specs.Prelude.{nat_le, nat_lt, ◌==◌, ◌||◌, if◌then◌else◌, codes}
use Rattle.std.specs.Str.{bytes_eq}
use Rattle.std.proofs.lemmas.Bool.{and_parts, leb-true, ne_eqb}
use Rattle.std.proofs.lemmas.List.{append_assoc, get_or_at, take_all, drop_at}
use Rattle.tq_field.specs.Digits.{digits, number_of}
use Rattle.tq_field.specs.Places.{run_at, number_at}
use Rattle.tq_field.proofs.Numbers.{length-digits}
use Rattle.tq_field.proofs.Runs.{get_or-run_at}
use Rattle.tq_host.specs.Calls.{HasBytesAt}
use Rattle.tq_gate.proofs.RangeLemmas.{run_at-is}
use Rattle.tq_model.specs.declared.space.Shape.{Shape}
use Rattle.tq_model.specs.Space.{overhead_pages}
use Rattle.tq_model.specs.Names.{is_name}
use Rattle.tq_model.specs.SpaceForm.{RawSpace, raw_space, shape_of, error_spelt}
use Rattle.tq_model.specs.Reading.{hold_all}
use Rattle.tq_slots.specs.SpaceReading.{creation_tests}
use Rattle.tq_model.proofs.NameTests.{name_from_test}
use Rattle.tq_store.specs.Page.{IsZeroPadded, numbers_spelt, page_spelt, error_size, error_bytes, raw_of, are_limits, is_error, is_creation, shape_in}
use Rattle.tq_store.proofs.PaddedLemmas.{number_behind, run_at-run_at}

-- Only these bytes of a first page tell what it says: the number of its name's bytes is the one before them.
raw_space-take : (n : ℕ) (page : List ℕ) → 25 + get_or page 24 0 ≤ n → raw_space (run_at 0 n page) ≡ raw_space page
raw_space-take n page within =
    let run = run_at 0 n page in
    let mark = run_at-run_at 0 8 0 n page (omega arith) in
    let version = ap number_of (run_at-run_at 8 2 0 n page (omega arith)) in
    let queues = ap number_of (run_at-run_at 10 2 0 n page (omega arith)) in
    let messages = ap number_of (run_at-run_at 12 2 0 n page (omega arith)) in
    let transactions = ap number_of (run_at-run_at 14 2 0 n page (omega arith)) in
    let memory = ap number_of (run_at-run_at 16 8 0 n page (omega arith)) in
    let size : get_or run 24 0 ≡ get_or page 24 0 = get_or-run_at 0 n page 24 0 (omega arith) in
    let error : run_at 25 (get_or run 24 0) run ≡ run_at 25 (get_or page 24 0) page = ap (λ (k : ℕ). run_at 25 k run) size ∙ run_at-run_at 25 (get_or page 24 0) 0 n page within in
    λ i. record {
      mark = mark i;
      version = version i;
      queues = queues i;
      messages = messages i;
      transactions = transactions i;
      memory = memory i;
      error_size = size i;
      error = error i;
    }

pub length-numbers_spelt : (s : Shape) → length (numbers_spelt s) ≡ 24
length-numbers_spelt s =
    let b = codes "TQSPACE1" ++ digits 2 1 in
    let d = b ++ digits 2 s.queues in
    let e = d ++ digits 2 s.messages in
    let f = e ++ digits 2 s.transactions in
    omega (
      arith,
      length-append (codes "TQSPACE1") (digits 2 1),
      length-append b (digits 2 s.queues),
      length-append d (digits 2 s.messages),
      length-append e (digits 2 s.transactions),
      length-append f (digits 8 s.memory),
      length-digits 2 1,
      length-digits 2 s.queues,
      length-digits 2 s.messages,
      length-digits 2 s.transactions,
      length-digits 8 s.memory,
    )

length-error_spelt : (error : Option (List ℕ)) → length (error_spelt error) ≡ 1 + error_size error
length-error_spelt None = refl
length-error_spelt (Some name) = omega arith

pub length-page_spelt : (s : Shape) → length (page_spelt s) ≡ 25 + error_size s.error
length-page_spelt s = omega (arith, length-append (numbers_spelt s) (error_spelt s.error), length-numbers_spelt s, length-error_spelt s.error)

short_name : (error : Option (List ℕ)) → is_error error ≡ true → error_size error ≤ 15
short_name None is = omega arith
short_name (Some name) is = (name_from_test name is).most

-- at most 40 bytes
pub page_spelt_most : (s : Shape) → is_creation s ≡ true → length (page_spelt s) ≤ 40
page_spelt_most s within =
    omega (arith, length-page_spelt s, short_name s.error (and_parts (are_limits s) (is_error s.error) within).1)

-- the size of the name stands behind the numbers, and then the name
size_behind : (xs : List ℕ) (error : Option (List ℕ)) → length xs ≡ 24 → get_or (xs ++ error_spelt error) 24 0 ≡ error_size error
size_behind xs None long = get_or_at xs 0 [] 0 24 long
size_behind xs (Some name) long = get_or_at xs (length name) name 0 24 long

name_behind : (xs : List ℕ) (error : Option (List ℕ)) → length xs ≡ 24 → run_at 25 (error_size error) (xs ++ error_spelt error) ≡ error_bytes error
name_behind xs None long = refl
name_behind xs (Some name) long =
    let one : length (xs ++ length name ∷ []) ≡ 25 = omega (arith, length-append xs (length name ∷ []), long) in
    ap (λ (l : List ℕ). take (length name) (drop 25 l)) (sym (append_assoc xs (length name ∷ []) name))
    ∙ ap (take (length name)) (drop_at (xs ++ length name ∷ []) name 25 one) ∙ take_all (length name) name (omega arith)

-- the numbers of a creation fit their fields
pub record Fits (s : Shape) : Type 0 where
  pub queues : s.queues < 2 ^ 16
  pub messages : s.messages < 2 ^ 16
  pub transactions : s.transactions < 2 ^ 16
  pub memory : s.memory < 2 ^ 64

pub limits_fit : (s : Shape) → are_limits s ≡ true → Fits s
limits_fit s within =
    let q = nat_le 1 s.queues && nat_le s.queues 256 in
    let m = nat_le 1 s.messages && nat_le s.messages 8192 in
    let t = nat_le 1 s.transactions && nat_le s.transactions 64 in
    let all = and_parts (q && m && t && nat_le s.memory 16777216) (nat_lt (overhead_pages s) s.pages) within in
    let counts = and_parts (q && m && t) (nat_le s.memory 16777216) all.0 in
    let first = and_parts (q && m) t counts.0 in
    let two = and_parts q m first.0 in
    record {
      queues = omega (arith, leb-true s.queues 256 (and_parts (nat_le 1 s.queues) (nat_le s.queues 256) two.0).1);
      messages = omega (arith, leb-true s.messages 8192 (and_parts (nat_le 1 s.messages) (nat_le s.messages 8192) two.1).1);
      transactions = omega (arith, leb-true s.transactions 64 (and_parts (nat_le 1 s.transactions) (nat_le s.transactions 64) first.1).1);
      memory = omega (arith, leb-true s.memory 16777216 counts.1);
    }

-- a first page that was spelt
raw_space-page_spelt : (s : Shape) → Fits s → raw_space (page_spelt s) ≡ raw_of s
raw_space-page_spelt s fits =
    let a = codes "TQSPACE1" in
    let v = digits 2 1 in
    let q = digits 2 s.queues in
    let m = digits 2 s.messages in
    let t = digits 2 s.transactions in
    let w = digits 8 s.memory in
    let e = error_spelt s.error in
    let b = a ++ v in
    let d = b ++ q in
    let f = d ++ m in
    let g = f ++ t in
    let p = page_spelt s in
    let to_b : length b ≡ 10 = omega (arith, length-append a v, length-digits 2 1) in
    let to_d : length d ≡ 12 = omega (arith, length-append b q, length-digits 2 s.queues, to_b) in
    let to_f : length f ≡ 14 = omega (arith, length-append d m, length-digits 2 s.messages, to_d) in
    let to_g : length g ≡ 16 = omega (arith, length-append f t, length-digits 2 s.transactions, to_f) in
    let at_w : p ≡ g ++ (w ++ e) = append_assoc g w e in
    let at_t : p ≡ f ++ (t ++ (w ++ e)) = at_w ∙ append_assoc f t (w ++ e) in
    let at_m : p ≡ d ++ (m ++ (t ++ (w ++ e))) = at_t ∙ append_assoc d m (t ++ (w ++ e)) in
    let at_q : p ≡ b ++ (q ++ (m ++ (t ++ (w ++ e)))) = at_m ∙ append_assoc b q (m ++ (t ++ (w ++ e))) in
    let at_v : p ≡ a ++ (v ++ (q ++ (m ++ (t ++ (w ++ e))))) = at_q ∙ append_assoc a v (q ++ (m ++ (t ++ (w ++ e)))) in
    let version : number_at 8 2 p ≡ 1 = number_behind 8 2 1 a (q ++ (m ++ (t ++ (w ++ e)))) p at_v refl (omega arith) in
    let queues : number_at 10 2 p ≡ s.queues = number_behind 10 2 s.queues b (m ++ (t ++ (w ++ e))) p at_q to_b fits.queues in
    let messages : number_at 12 2 p ≡ s.messages = number_behind 12 2 s.messages d (t ++ (w ++ e)) p at_m to_d fits.messages in
    let transactions : number_at 14 2 p ≡ s.transactions = number_behind 14 2 s.transactions f (w ++ e) p at_t to_f fits.transactions in
    let memory : number_at 16 8 p ≡ s.memory = number_behind 16 8 s.memory g e p at_w to_g fits.memory in
    let size : get_or p 24 0 ≡ error_size s.error = size_behind (numbers_spelt s) s.error (length-numbers_spelt s) in
    let error : run_at 25 (get_or p 24 0) p ≡ error_bytes s.error =
    ap (λ (k : ℕ). run_at 25 k p) size ∙ name_behind (numbers_spelt s) s.error (length-numbers_spelt s) in
    λ i. record {
      mark = a;
      version = version i;
      queues = queues i;
      messages = messages i;
      transactions = transactions i;
      memory = memory i;
      error_size = size i;
      error = error i;
    }

-- Where a first page begins as it was spelt, its fields are those of the shape.
pub raw_space-spelt : (s : Shape) → is_creation s ≡ true → (page : List ℕ) → HasBytesAt 0 (page_spelt s) page → length (page_spelt s) ≤ length page
    → raw_space page ≡ raw_of s
raw_space-spelt s within page stands long =
    let p = page_spelt s in
    let whole = length-page_spelt s in
    let size : get_or page 24 0 ≡ error_size s.error = stands 24 (omega (arith, whole)) ∙ size_behind (numbers_spelt s) s.error (length-numbers_spelt s) in
    sym (raw_space-take (length p) page (omega (arith, whole, size)))
    ∙ ap raw_space (run_at-is 0 p page (omega (arith, long)) stands)
    ∙ raw_space-page_spelt s (limits_fit s (and_parts (are_limits s) (is_error s.error) within).0)

-- ---- the shape of these fields

named : (error : Option (List ℕ)) → is_error error ≡ true → (if error_size error == 0 then None else Some (error_bytes error)) ≡ error
named None is = refl
named (Some name) is =
    let some = (name_from_test name is).some in
    ap (λ (t : Bool). if t then None else Some name) (ne_eqb (length name) 0 (λ e. omega (arith, some, e)))

pub shape_of-raw_of : (s : Shape) → is_creation s ≡ true → shape_of s.pages (raw_of s) ≡ s
shape_of-raw_of s within =
    let error = named s.error (and_parts (are_limits s) (is_error s.error) within).1 in
    λ i. record { pages = s.pages; queues = s.queues; messages = s.messages; transactions = s.transactions; memory = s.memory; error = error i }

-- ---- the tests of a first page

regrouped : (a b q m t w e o : Bool) → (a && (b && (q && (m && (t && (w && (e && (o && true)))))))) ≡ (a && b && ((q && m && t && w && o) && e))
regrouped false b q m t w e o = refl
regrouped true false q m t w e o = refl
regrouped true true false m t w e o = refl
regrouped true true true false t w e o = refl
regrouped true true true true false w e o = refl
regrouped true true true true true false e o = refl
regrouped true true true true true true false false = refl
regrouped true true true true true true false true = refl
regrouped true true true true true true true false = refl
regrouped true true true true true true true true = refl

is_error-named : (none : Bool) (name : List ℕ) → (none || is_name name) ≡ is_error (if none then None else Some name)
is_error-named true name = refl
is_error-named false name = refl

-- the mark and the version, and a creation
abbrev pub is_first_page : ℕ → RawSpace → Bool
is_first_page pages r = bytes_eq r.mark (codes "TQSPACE1") && (r.version == 1) && is_creation (shape_of pages r)

pub creation_tests_are : (pages : ℕ) (r : RawSpace) → hold_all (creation_tests pages r) ≡ is_first_page pages r
creation_tests_are pages r =
    regrouped (bytes_eq r.mark (codes "TQSPACE1")) (r.version == 1) (nat_le 1 r.queues && nat_le r.queues 256) (nat_le 1 r.messages && nat_le r.messages 8192) (nat_le 1 r.transactions && nat_le r.transactions 64) (nat_le r.memory 16777216)
    (r.error_size == 0 || is_name r.error) (nat_lt (overhead_pages (shape_of pages r)) pages)
    ∙ ap (λ (e : Bool). bytes_eq r.mark (codes "TQSPACE1") && (r.version == 1) && (are_limits (shape_of pages r) && e)) (is_error-named (r.error_size == 0) r.error)

pub shape_in_is : (pages : ℕ) (page : List ℕ)
    → shape_in pages page ≡ (if is_first_page pages (raw_space page) then Some (shape_of pages (raw_space page)) else None)
shape_in_is pages page = ap (λ (t : Bool). if t then Some (shape_of pages (raw_space page)) else None) (creation_tests_are pages (raw_space page))

is_first_page-raw_of : (s : Shape) → is_creation s ≡ true → is_first_page s.pages (raw_of s) ≡ true
is_first_page-raw_of s within = ap is_creation (shape_of-raw_of s within) ∙ within

module _ (s : Shape) (within : is_creation s ≡ true) (page : List ℕ) (stands : HasBytesAt 0 (page_spelt s) page) (long : length (page_spelt s) ≤ length page) where
  -- the shape that is read is the one that was spelt
  pub shape_of-spelt : shape_of s.pages (raw_space page) ≡ s
  shape_of-spelt = ap (shape_of s.pages) (raw_space-spelt s within page stands long) ∙ shape_of-raw_of s within

  -- and each test of the page holds
  pub creation_tests-spelt : hold_all (creation_tests s.pages (raw_space page)) ≡ true
  creation_tests-spelt = creation_tests_are s.pages (raw_space page) ∙ ap (is_first_page s.pages) (raw_space-spelt s within page stands long) ∙ is_first_page-raw_of s within

  -- so the page is that of the creation
  pub creation_stands : shape_in s.pages page ≡ Some s
  creation_stands = ap (λ (t : Bool). if t then Some (shape_of s.pages (raw_space page)) else None) creation_tests-spelt ∙ ap Some shape_of-spelt

-- a page that begins so is read back
pub shape_in-spelt : (s : Shape) → is_creation s ≡ true → (page : List ℕ) → IsZeroPadded (page_spelt s) page → length (page_spelt s) ≤ length page
    → shape_in s.pages page ≡ Some s
shape_in-spelt s within page begins long =
    creation_stands s within page (λ i below. ap (λ (k : ℕ). get_or page k 0) (zero-add i) ∙ begins i) long
