-- Pages of a chain on their device: runs of them, and what a write of a run leaves.
use Rattle.std.proofs.Common.{◌≡◌, ◌≢◌, ◌⊎◌, inl, inr, ⊎_elim, ◌<◌, ◌≤◌, ◌+◌, ◌-◌, ◌*◌, ◌/◌, ℕ, zero, suc, Bool, true, false, if◌then◌else◌, List, length, get_or, take, drop, map, min, refl, sym, ap, ◌∙◌, arith}
use Rattle.std.specs.Prelude.{◌==◌, nat_lt}
use Rattle.std.proofs.lemmas.Bool.{cases_eq, cases_lt, eq-eqb, ne_eqb, lt-ltb, le-ltb}
use Rattle.std.proofs.lemmas.List.{length-take, length-drop, length-map, get_or-map, ext_get_or, take-take, take_all, drop-take, drop-drop}
use Rattle.tq_field.specs.Places.{run_at}
use Rattle.tq_host.specs.View.{View}
use Rattle.tq_host.specs.Calls.{HasBytesAt, IsSameBut}
use Rattle.tq_host.specs.Within.{Within}
use Rattle.tq_host.proofs.Steps.{IsSteps}
use Rattle.tq_host.proofs.Within.{in_a_row, wider}
use Rattle.tq_model.specs.DeviceForm.{page_bytes}
use Rattle.tq_model.specs.Site.{numbers_from}
use Rattle.tq_extent.specs.Bytes.{byte_count, owned_bytes, OnBytes, IsAny, AllReach}
use Rattle.tq_extent.proofs.ExtentLemmas.{length-numbers_from, get_or-numbers_from}
use Rattle.tq_extent.proofs.BytesLemmas.{reaches_same, on_bytes_steps, on_bytes_as}
use Rattle.tq_pages.specs.Store.{Store, size_of, page_behind}
use Rattle.tq_pages.proofs.PageLemmas.{length-page_form}
use Rattle.tq_pages.specs.Content.{payload_bytes, page_form, run_number, number_behind, payload_place, chain_bytes, ArePages, IsSameButPages}

-- so many pages behind one that is itself so many behind another
pub behind_add : (next : List ℕ) (first d k : ℕ) → page_behind next (page_behind next first d) k ≡ page_behind next first (d + k)
behind_add next first d zero = let e : d ≡ d + 0 = omega arith in ap (page_behind next first) e
behind_add next first d (suc k) =
    let e : suc (d + k) ≡ d + suc k = omega arith in
    ap (λ p. get_or next p 0) (behind_add next first d k) ∙ ap (page_behind next first) e

pub pages_steps : (next : List ℕ) (first count : ℕ) → IsSteps (IsSameButPages next first count)
pages_steps next first count = record {
  none = λ c. record { size = refl; outside = λ i out. refl };
  both = λ a b c one two. record { size = two.size ∙ one.size; outside = λ i out. two.outside i out ∙ one.outside i out };
}

pub if-true : (b : Bool) (x y : ℕ) → b ≡ true → (if b then x else y) ≡ x
if-true true x y is = refl
if-true false x y is = absurd (cc)

pub if-false : (b : Bool) (x y : ℕ) → b ≡ false → (if b then x else y) ≡ y
if-false true x y is = absurd (cc)
if-false false x y is = refl

-- ---- numbers that differ

-- the numbers with the last one in the place of this one
abbrev without : ℕ → ℕ → (ℕ → ℕ) → ℕ → ℕ
without n top f k = if f k == top then f n else f k

without_top : (n top : ℕ) (f : ℕ → ℕ) (k : ℕ) → f k ≡ top → without n top f k ≡ f n
without_top n top f k is = if-true (f k == top) (f n) (f k) (eq-eqb (f k) top is)

without_other : (n top : ℕ) (f : ℕ → ℕ) (k : ℕ) → f k ≢ top → without n top f k ≡ f k
without_other n top f k other = if-false (f k == top) (f n) (f k) (ne_eqb (f k) top other)

-- So many numbers that differ are no more than the numbers below their bound.
pub no_more : (m n : ℕ) (f : ℕ → ℕ) → ((k : ℕ) → k < n → f k < m) → ((j k : ℕ) → j < n → k < n → f j ≡ f k → j ≡ k) → n ≤ m
no_more m zero f below apart = omega arith
no_more zero (suc n) f below apart = let none = below 0 (omega arith) in absurd (omega arith)
no_more (suc m) (suc n) f below apart =
    let rest = no_more m n (without n m f)
    (λ k lt. elim (cases_eq (f k) m) [
      | inl top ↦
          let last = below n (omega arith) in
          let other : f n ≢ m = λ e. (let same = apart k n (omega arith) (omega arith) (top ∙ sym e) in omega arith) in
          let is = without_top n m f k top in
          omega (arith, other)
      | inr other ↦ let own = below k (omega arith) in let is = without_other n m f k other in omega (arith, other)
    ])
    (λ j k lt_j lt_k same. elim (cases_eq (f j) m) [
      | inl a ↦ elim (cases_eq (f k) m) [
        | inl b ↦ apart j k (omega arith) (omega arith) (a ∙ sym b)
        | inr b ↦
            let e = apart n k (omega arith) (omega arith) (sym (without_top n m f j a) ∙ same ∙ without_other n m f k b) in
            absurd (omega arith)
      ]
      | inr a ↦ elim (cases_eq (f k) m) [
        | inl b ↦
            let e = apart j n (omega arith) (omega arith) (sym (without_other n m f j a) ∙ same ∙ without_top n m f k b) in
            absurd (omega arith)
        | inr b ↦ apart j k (omega arith) (omega arith) (sym (without_other n m f j a) ∙ same ∙ without_other n m f k b)
      ]
    ]) in
    omega arith

-- ---- a part of the bytes

-- the bytes of a page in a part of the bytes
pub part_run : (at n k : ℕ) (bytes : List ℕ) → at ≤ length bytes → n ≡ min (length bytes - at) (1016 * k) → (j : ℕ) → j < k
    → run_at (1016 * j) 1016 (take (at + n - at) (drop at bytes)) ≡ run_at (at + 1016 * j) 1016 bytes
part_run at n k bytes within is j lt =
    let rest = drop at bytes in
    let size : length rest ≡ length bytes - at = length-drop at bytes in
    let wide : at + n - at ≡ n = omega arith in
    let here : drop (1016 * j) rest ≡ drop (at + 1016 * j) bytes = drop-drop (1016 * j) at bytes in
    elim (cases_lt n (1016 * k)) [
      | inl less ↦
          let all : take (at + n - at) rest ≡ rest = take_all (at + n - at) rest (omega arith) in
          ap (run_at (1016 * j) 1016) all ∙ ap (take 1016) here
      | inr more ↦
          let n_is : n ≡ 1016 * k = omega arith in
          let split : at + n - at ≡ 1016 * j + (1016 * (k - j)) = omega arith in
          let part : drop (1016 * j) (take (at + n - at) rest) ≡ take (1016 * (k - j)) (drop (1016 * j) rest) =
          ap (λ m. drop (1016 * j) (take m rest)) split ∙ drop-take (1016 * j) (1016 * (k - j)) rest in
          ap (take 1016) part ∙ take-take 1016 (1016 * (k - j)) (drop (1016 * j) rest) (omega arith) ∙ ap (take 1016) here
    ]

-- ---- a run of pages

module _ (clusters next : List ℕ) (first all done page count : ℕ) (are : ArePages clusters next first all) (here : page ≡ page_behind next first done)
    (range : done + count ≤ all) (some : 1 ≤ count) (run : (k : ℕ) → k < count → page_behind next page k ≡ page + k) where
  pub at_run : (k : ℕ) → k < count → page_behind next first (done + k) ≡ page + k
  at_run k lt = sym (behind_add next first done k) ∙ ap (λ p. page_behind next p k) (sym here) ∙ run k lt

  pub run_within : page + count ≤ length next
  run_within =
      let last = at_run (count - 1) (omega arith) in
      let within = are.within (done + (count - 1)) (omega arith) in
      omega arith

  pub run_mapped : 1024 * page + 1024 * count ≤ byte_count clusters
  run_mapped = let within = run_within in let mapped = are.mapped in omega arith

  pub run_behind : get_or next (page + count - 1) 0 ≡ page_behind next first (done + count)
  run_behind =
      let last = at_run (count - 1) (omega arith) in
      let e : suc (done + (count - 1)) ≡ done + count = omega arith in
      let f : page + (count - 1) ≡ page + count - 1 = omega arith in
      sym (ap (λ p. get_or next p 0) (last ∙ f)) ∙ ap (page_behind next first) e

  -- another page of the chain is not one of the run
  pub others_beside : (j : ℕ) → j < done → (page_behind next first j < page) ⊎ (page + count ≤ page_behind next first j)
  others_beside j lt = elim (cases_lt (page_behind next first j) page) [
    | inl before ↦ inl before
    | inr from ↦ elim (cases_lt (page_behind next first j) (page + count)) [
      | inr behind ↦ inr behind
      | inl to ↦
          let k = page_behind next first j - page in
          let place : page + k ≡ page_behind next first j = omega arith in
          let same = are.distinct (done + k) j (omega arith) (omega arith) (at_run k (omega arith) ∙ place) in
          absurd (omega arith)
    ]
  ]

  -- what changes in the run alone changes in the chain alone
  pub run_in_chain : (old new : List ℕ) → IsSameBut (1024 * page) (1024 * count) old new → IsSameButPages next first all old new
  run_in_chain old new same = record {
    size = same.size;
    outside = λ i out. same.outside i (elim (cases_lt i (1024 * page)) [
      | inl before ↦ inl before
      | inr from ↦ elim (cases_lt i (1024 * page + 1024 * count)) [
        | inr behind ↦ inr behind
        | inl to ↦
            let k = i / page_bytes - page in
            let place : page + k ≡ i / page_bytes = omega arith in
            absurd (out (done + k) (omega arith) (at_run k (omega arith) ∙ place))
      ]
    ]);
  }

  -- the numbers in the run are those of the chain
  pub run_numbers : (behind : ℕ) → behind ≡ (if nat_lt (done + count) all then get_or next (page + count - 1) 0 else 0) → (k : ℕ) → k < count
      → run_number page behind count k ≡ number_behind next first all (done + k)
  run_numbers behind is k lt =
      let up : done + (k + 1) ≡ done + k + 1 = omega arith in
      elim (cases_lt (k + 1) count) [
        | inl inside ↦
            if-true (nat_lt (k + 1) count) (page + (k + 1)) behind (lt-ltb (k + 1) count inside)
            ∙ sym (at_run (k + 1) inside) ∙ ap (page_behind next first) up
            ∙ sym (if-true (nat_lt (done + k + 1) all) (page_behind next first (done + k + 1)) 0 (lt-ltb (done + k + 1) all (omega arith)))
        | inr last ↦
            let end : done + count ≡ done + k + 1 = omega arith in
            if-false (nat_lt (k + 1) count) (page + (k + 1)) behind (le-ltb (k + 1) count last) ∙ is
            ∙ ap (λ (n : ℕ). if nat_lt (done + count) all then n else 0) (run_behind ∙ ap (page_behind next first) end)
            ∙ ap (λ n. if nat_lt n all then page_behind next first (done + k + 1) else 0) end
      ]

  -- the pages of the run stand behind those before
  pub written_more : (behind at used : ℕ) (bytes old new : List ℕ) → behind ≡ (if nat_lt (done + count) all then get_or next (page + count - 1) 0 else 0)
      → at ≡ 1016 * done → at ≤ length bytes → used ≡ min (length bytes - at) (1016 * count)
      → ((j : ℕ) → j < done
      → HasBytesAt (1024 * page_behind next first j) (page_form (number_behind next first all j) (run_at (payload_bytes * j) payload_bytes bytes)) old)
      → IsSameBut (1024 * page) (1024 * count) old new
      → ((k : ℕ) → k < count → HasBytesAt (1024 * page + 1024 * k)
      (page_form (run_number page behind count k) (run_at (payload_bytes * k) payload_bytes (take (at + used - at) (drop at bytes)))) new)
      → (j : ℕ) → j < done + count
      → HasBytesAt (1024 * page_behind next first j) (page_form (number_behind next first all j) (run_at (payload_bytes * j) payload_bytes bytes)) new
  written_more behind at used bytes old new is at_is within used_is before same now j lt i below =
      let part = run_at (payload_bytes * j) payload_bytes bytes in
      let size = length-page_form (number_behind next first all j) part (omega (arith, length-take payload_bytes (drop (payload_bytes * j) bytes))) in
      elim (cases_lt j done) [
        | inl less ↦
            same.outside (1024 * page_behind next first j + i) (⊎_elim (λ a. inl (omega arith)) (λ b. inr (omega arith)) (others_beside j less)) ∙ before j less i below
        | inr from ↦
            let k = j - done in
            let k_lt : k < count = omega arith in
            let j_is : done + k ≡ j = omega arith in
            let at_j : page_behind next first j ≡ page + k = ap (page_behind next first) (sym j_is) ∙ at_run k k_lt in
            let place : 1024 * page_behind next first j + i ≡ 1024 * page + 1024 * k + i = omega arith in
            let here : at + 1016 * k ≡ 1016 * j = omega arith in
            let number = run_numbers behind is k k_lt ∙ ap (number_behind next first all) j_is in
            let run_part = part_run at used count bytes within used_is k k_lt ∙ ap (λ a. run_at a 1016 bytes) here in
            let same_form : page_form (run_number page behind count k) (run_at (payload_bytes * k) payload_bytes (take (at + used - at) (drop at bytes)))
            ≡ page_form (number_behind next first all j) part = λ x. page_form (number x) (run_part x) in
            let long = ap (λ (l : List ℕ). length l) same_form in
            ap (λ n. get_or new n 0) place ∙ now k k_lt i (omega arith) ∙ ap (λ (l : List ℕ). get_or l i 0) same_form
      ]

-- a write of a run behind other writes, in each picture
pub stop_more : (dev : ℕ) (clusters next : List ℕ) (first all a n : ℕ) (start mid new : View) → AllReach dev clusters start
    → ((b c : List ℕ) → IsSameBut a n b c → IsSameButPages next first all b c)
    → Within dev (OnBytes clusters (IsSameButPages next first all)) IsAny start mid
    → (AllReach dev clusters mid → Within dev (OnBytes clusters (IsSameBut a n)) IsAny mid new)
    → Within dev (OnBytes clusters (IsSameButPages next first all)) IsAny start new
stop_more dev clusters next first all a n start mid new reach inside so_far write =
    let P = IsSameButPages next first all in
    let reach_mid : AllReach dev clusters mid = λ image may.
    let came = so_far.own image may in reaches_same clusters came.image image came.step.size ∙ reach came.image came.was in
    in_a_row dev (OnBytes clusters P) (on_bytes_steps clusters P (pages_steps next first all)) IsAny start mid new so_far
    (wider dev (OnBytes clusters (IsSameBut a n)) (OnBytes clusters P) IsAny IsAny mid new
    (λ b c may step any. (on_bytes_as clusters (IsSameBut a n) P b c (inside (owned_bytes clusters b) (owned_bytes clusters c)) step, tt)) (write reach_mid))

-- ---- what is read

pub chain_read : (s : Store) (first : ℕ) (bytes read : List ℕ) → length read ≡ size_of s first
    → ((i : ℕ) → i < length read → get_or read i 0 ≡ get_or bytes (payload_place s.next first i) 0) → read ≡ chain_bytes s first bytes
chain_read s first bytes read size same =
    let numbers = numbers_from 0 (size_of s first) in
    let f : ℕ → ℕ = λ i. get_or bytes (payload_place s.next first i) 0 in
    let long = length-numbers_from 0 (size_of s first) in
    ext_get_or 0 read (map f numbers) (size ∙ sym (length-map numbers f ∙ long)) (λ i lt.
    let within : i < length numbers = omega arith in
    let at : 0 + i ≡ i = omega arith in
    same i lt ∙ sym (get_or-map f numbers i 0 0 within ∙ ap f (get_or-numbers_from 0 (size_of s first) i 0 (omega arith) ∙ at)))
