-- Whole pages, and pages behind one another in a run of bytes.
use Rattle.std.proofs.Common.{◌≡◌, inl, inr, ◌<◌, ◌≤◌, ◌+◌, ◌-◌, ◌*◌, ℕ, List, [], ◌∷◌, ◌++◌, length, get_or, take, drop, replicate, min, sym, ap, ◌∙◌, arith}
use Rattle.std.proofs.lemmas.Bool.{cases_eq}
use Rattle.std.proofs.lemmas.List.{length-append, length-replicate, length-drop, append_assoc, take_at, drop_at, drop-drop, drop-replicate, take_min}
use borrow.Rule.Slice.PartMut.{put_mid}
use Rattle.tq_field.specs.Digits.{digits}
use Rattle.tq_field.specs.Places.{run_at, with_run, with_number}
use Rattle.tq_field.proofs.Numbers.{length-digits}
use Rattle.tq_host.specs.Calls.{HasBytesAt}
use Rattle.tq_extent.proofs.RunLemmas.{filled_before, filled_within}
use Rattle.tq_pages.specs.Content.{payload_bytes, page_form}

pub length-page_form : (next : ℕ) (bytes : List ℕ) → length bytes ≤ 1016 → length (page_form next bytes) ≡ 1024
length-page_form next bytes few =
    let rest : List ℕ = replicate (payload_bytes - length bytes) 0 in
    let size = length-replicate {A = ℕ} (payload_bytes - length bytes) 0 in
    let tail = length-append bytes rest in
    let two = length-append (0 ∷ 0 ∷ []) (bytes ++ rest) in
    let used = length-append (digits 2 (length bytes)) (0 ∷ 0 ∷ [] ++ (bytes ++ rest)) in
    let all = length-append (digits 4 next) (digits 2 (length bytes) ++ (0 ∷ 0 ∷ [] ++ (bytes ++ rest))) in
    omega (arith, length-digits 4 next, length-digits 2 (length bytes))

-- a page is made from zeros: its two numbers, and its bytes
pub form_written : (next : ℕ) (bytes page : List ℕ) → length bytes ≤ 1016
    → page ≡ with_number 4 2 (length bytes) (with_number 0 4 next (replicate 1024 0)) → with_run 8 (length bytes) bytes page ≡ page_form next bytes
form_written next bytes page few is =
    let n = length bytes in
    let four = digits 4 next in
    let two = digits 2 n in
    let zeros : ℕ → List ℕ = λ k. replicate k 0 in
    let len4 = length-digits 4 next in
    let len2 = length-digits 2 n in
    let head : List ℕ = four ++ (two ++ (0 ∷ 0 ∷ [])) in
    let first : with_number 0 4 next (zeros 1024) ≡ four ++ zeros 1020 = ap (λ (l : List ℕ). four ++ l) (drop-replicate 4 1024 0) in
    let front : take 4 (four ++ zeros 1020) ≡ four = take_at four (zeros 1020) 4 len4 in
    let behind : drop 6 (four ++ zeros 1020) ≡ zeros 1018 =
    sym (drop-drop 2 4 (four ++ zeros 1020)) ∙ ap (drop 2) (drop_at four (zeros 1020) 4 len4) ∙ drop-replicate 2 1020 0 in
    let second : page ≡ four ++ (two ++ zeros 1018) =
    is ∙ ap (with_number 4 2 n) first ∙ (λ i. front i ++ (two ++ behind i)) in
    let split : four ++ (two ++ zeros 1018) ≡ head ++ zeros 1016 =
    ap (λ (l : List ℕ). four ++ l) (sym (append_assoc two (0 ∷ 0 ∷ []) (zeros 1016))) ∙ sym (append_assoc four (two ++ (0 ∷ 0 ∷ [])) (zeros 1016)) in
    let whole = second ∙ split in
    let size : length head ≡ 8 = omega (arith, length-append four (two ++ (0 ∷ 0 ∷ [])), length-append two (0 ∷ 0 ∷ [])) in
    let before : take 8 page ≡ head = ap (take 8) whole ∙ take_at head (zeros 1016) 8 size in
    let after : drop (8 + n) page ≡ zeros (1016 - n) =
    sym (drop-drop n 8 page) ∙ ap (drop n) (ap (drop 8) whole ∙ drop_at head (zeros 1016) 8 size) ∙ drop-replicate n 1016 0 in
    (λ i. before i ++ (bytes ++ after i)) ∙ append_assoc four (two ++ (0 ∷ 0 ∷ [])) (bytes ++ zeros (1016 - n))
    ∙ ap (λ (l : List ℕ). four ++ l) (append_assoc two (0 ∷ 0 ∷ []) (bytes ++ zeros (1016 - n)))

-- one whole page more behind others
pub fill_more : (forms : ℕ → List ℕ) (k : ℕ) (pages new : List ℕ) → ((j : ℕ) → length (forms j) ≡ 1024) → new ≡ forms k → 1024 * k + 1024 ≤ length pages
    → ((j : ℕ) → j < k → HasBytesAt (1024 * j) (forms j) pages)
    → (j : ℕ) → j < k + 1 → HasBytesAt (1024 * j) (forms j) (put_mid (1024 * k) (1024 * k + 1024 - 1024 * k) pages new)
fill_more forms k pages new sizes is room before j lt i below =
    let size : length new ≡ 1024 = ap (λ (l : List ℕ). length l) is ∙ sizes k in
    let long = sizes j in
    elim (cases_eq j k) [
      | inl same ↦
          let place : 1024 * j + i ≡ 1024 * k + i = omega arith in
          ap (λ p. get_or (put_mid (1024 * k) (1024 * k + 1024 - 1024 * k) pages new) p 0) place
          ∙ filled_within (1024 * k) 1024 pages new size room i (omega arith) ∙ ap (λ (l : List ℕ). get_or l i 0) (is ∙ ap forms (sym same))
      | inr other ↦
          filled_before (1024 * k) 1024 pages new size room (1024 * j + i) (omega (arith, other)) ∙ before j (omega (arith, other)) i below
    ]

-- the used bytes of a page are those of the run
pub used_run : (at n : ℕ) (bytes : List ℕ) → at ≤ length bytes → n ≡ min (length bytes - at) 1016 → take (at + n - at) (drop at bytes) ≡ run_at at 1016 bytes
used_run at n bytes within is =
    let size : length (drop at bytes) ≡ length bytes - at = length-drop at bytes in
    let all : at + n - at ≡ min 1016 (length (drop at bytes)) = omega (arith, size) in
    ap (λ k. take k (drop at bytes)) all ∙ take_min 1016 (drop at bytes)
