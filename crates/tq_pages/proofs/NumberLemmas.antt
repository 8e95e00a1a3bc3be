-- The numbers on the pages of chains: those that stay, and those that were written.
use Rattle.std.proofs.Common.{◌≡◌, ◌≢◌, inl, inr, ◌<◌, ◌≤◌, ◌+◌, ◌-◌, ◌*◌, ◌/◌, ◌^◌, ℕ, List, [], ◌∷◌, ◌++◌, length, get_or, drop, replicate, min, refl, sym, ap, ◌∙◌, arith}
use Rattle.std.specs.Prelude.{nat_lt, if◌then◌else◌}
use Rattle.std.proofs.lemmas.Bool.{cases_lt, lt-ltb, le-ltb}
use Rattle.std.proofs.lemmas.List.{length-take, length-drop, ext_get_or}
use Rattle.tq_field.specs.Digits.{digits, number_of}
use Rattle.tq_field.specs.Places.{run_at, number_at}
use Rattle.tq_field.proofs.Numbers.{length-digits}
use Rattle.tq_field.proofs.Runs.{get_or-run_at, number_at-here}
use Rattle.tq_extent.specs.Bytes.{byte_count}
use Rattle.tq_pages.specs.Store.{Store, size_of, count_of, page_of, chain_pages, IsStore, HasAdded}
use Rattle.tq_pages.specs.Content.{payload_bytes, page_form, used_after, number_behind, HasChain, IsWritten, IsSameInUse, IsSameButPages}
use Rattle.tq_pages.proofs.PageLemmas.{length-page_form}
use Rattle.tq_pages.proofs.ChainLemmas.{if-true, if-false}
use Rattle.tq_pages.proofs.ContentLemmas.{number_read}
use Rattle.tq_pages.proofs.KeptLemmas.{IsSameChain, free_beside, chain_beside}

number_same : (at w : ℕ) (a b : List ℕ) → length b ≡ length a → ((i : ℕ) → i < w → get_or b (at + i) 0 ≡ get_or a (at + i) 0)
    → number_at at w b ≡ number_at at w a
number_same at w a b size same =
    let of_a = length-take w (drop at a) in
    let of_b = length-take w (drop at b) in
    let rest_a = length-drop at a in
    let rest_b = length-drop at b in
    ap number_of (ext_get_or 0 (run_at at w b) (run_at at w a) (omega arith) (λ i lt.
    let below : i < w = omega arith in
    get_or-run_at at w b i 0 below ∙ same i below ∙ sym (get_or-run_at at w a i 0 below)))

-- what leaves the pages of a chain leaves its numbers
same_numbers : (s : Store) (g : ℕ) (a b : List ℕ) → length b ≡ length a → IsSameChain s g a b → HasChain s g a → HasChain s g b
same_numbers s g a b size same has =
    record {
      next = λ k lt.
          let p = page_of s g k in
          number_same (1024 * p) 4 a b size (λ i below.
          let page : (1024 * p + i) / 1024 ≡ p = omega arith in
          same k lt (1024 * p + i) page) ∙ has.next k lt;
      used = λ k lt.
          let p = page_of s g k in
          number_same (1024 * p + 4) 2 a b size (λ i below.
          let page : (1024 * p + 4 + i) / 1024 ≡ p = omega arith in
          same k lt (1024 * p + 4 + i) page) ∙ has.used k lt;
    }

-- what is written on free pages leaves the numbers of a chain
pub numbers_kept : (s : Store) (g : ℕ) (a b : List ℕ) → IsStore s → IsSameInUse s a b → HasChain s g a → HasChain s g b
numbers_kept s g a b is same has = same_numbers s g a b same.size (free_beside s g a b is same) has

-- so does what is written on the pages of another one
pub other_numbers : (s : Store) (first g : ℕ) (a b : List ℕ) → IsStore s → g ≢ first → IsSameButPages s.next first (count_of s first) a b
    → HasChain s g a → HasChain s g b
other_numbers s first g a b is other same has = same_numbers s g a b same.size (chain_beside s first g a b is other same) has

-- a chain of as many bytes on the same pages
chain_same : (old new : Store) (g : ℕ) (bytes : List ℕ) → size_of new g ≡ size_of old g
    → ((k : ℕ) → k < count_of old g → page_of new g k ≡ page_of old g k) → HasChain old g bytes → HasChain new g bytes
chain_same old new g bytes size pages has =
    let count : count_of new g ≡ count_of old g = ap chain_pages size in
    record {
      next = λ k lt.
          let below : k < count_of old g = omega arith in
          ap (λ p. number_at (1024 * p) 4 bytes) (pages k below) ∙ has.next k below
          ∙ sym (ap (λ n. number_behind new.next g n k) count ∙ elim (cases_lt (k + 1) (count_of old g)) [
            | inl inside ↦ ap (λ (p : ℕ). if nat_lt (k + 1) (count_of old g) then p else 0) (pages (k + 1) inside)
            | inr end ↦
                let last = le-ltb (k + 1) (count_of old g) end in
                if-false (nat_lt (k + 1) (count_of old g)) (page_of new g (k + 1)) 0 last
                ∙ sym (if-false (nat_lt (k + 1) (count_of old g)) (page_of old g (k + 1)) 0 last)
          ]);
      used = λ k lt.
          let below : k < count_of old g = omega arith in
          ap (λ p. number_at (1024 * p + 4) 2 bytes) (pages k below) ∙ has.used k below ∙ ap (λ n. used_after n (payload_bytes * k)) (sym size);
    }

-- with one chain more, the others are as they were
pub others_stay : (old new : Store) (first size g : ℕ) (bytes : List ℕ) → HasAdded old first size new → 1 ≤ size_of old g
    → HasChain old g bytes → HasChain new g bytes
others_stay old new first size g bytes added some has =
    let other : g ≢ first = λ same. (let none = added.none in let at = ap (size_of old) same in omega arith) in
    chain_same old new g bytes (added.chains g other) (added.others g) has

-- with one chain less too
pub others_left : (old new : Store) (first size g : ℕ) (bytes : List ℕ) → HasAdded new first size old → HasChain old g bytes → HasChain new g bytes
others_left old new first size g bytes added has = elim (cases_lt 0 (size_of new g)) [
  | inl some ↦
      let other : g ≢ first = λ same. (let none = added.none in let at = ap (size_of new) same in omega arith) in
      let sizes = sym (added.chains g other) in
      let count : count_of new g ≡ count_of old g = ap chain_pages sizes in
      chain_same old new g bytes sizes (λ k lt. sym (added.others g k (omega arith))) has
  | inr none ↦
      let empty : count_of new g ≡ 0 = omega arith in
      record { next = λ k lt. absurd (omega arith); used = λ k lt. absurd (omega arith) }
]

-- a chain that was written whole says its numbers
pub written_numbers : (s : Store) (first : ℕ) (written owned : List ℕ) → IsStore s → size_of s first ≡ length written
    → length owned ≡ byte_count s.clusters → IsWritten s first written owned → HasChain s first owned
written_numbers s first written owned is size long whole =
    let count : count_of s first ≡ chain_pages (length written) = ap chain_pages size in
    let mapped = is.mapped in
    let few = is.few in
    record {
      next = λ k lt.
          let p = page_of s first k in
          let below = is.within first k lt in
          let nb = number_behind s.next first (count_of s first) k in
          let run = run_at (payload_bytes * k) payload_bytes written in
          let run_size = length-take payload_bytes (drop (payload_bytes * k) written) in
          let form_size = length-page_form nb run (omega arith) in
          let rest : List ℕ = digits 2 (length run) ++ (0 ∷ 0 ∷ [] ++ (run ++ replicate (payload_bytes - length run) 0)) in
          let fits : nb < 256 ^ 4 = behind-fits k in
          let place : 1024 * p + 0 ≡ 1024 * p = omega arith in
          ap (λ at. number_at at 4 owned) (sym place) ∙ sym (number_read (1024 * p) 0 4 (page_form nb run) owned (omega arith) (omega arith) (whole k lt))
          ∙ number_at-here 0 4 nb [] rest refl fits;
      used = λ k lt.
          let p = page_of s first k in
          let below = is.within first k lt in
          let nb = number_behind s.next first (count_of s first) k in
          let run = run_at (payload_bytes * k) payload_bytes written in
          let run_size = length-take payload_bytes (drop (payload_bytes * k) written) in
          let rest_size = length-drop (payload_bytes * k) written in
          let form_size = length-page_form nb run (omega arith) in
          let rest : List ℕ = 0 ∷ 0 ∷ [] ++ (run ++ replicate (payload_bytes - length run) 0) in
          let fits : length run < 256 ^ 2 = omega arith in
          sym (number_read (1024 * p) 4 2 (page_form nb run) owned (omega arith) (omega arith) (whole k lt))
          ∙ number_at-here 4 2 (length run) (digits 4 nb) rest (length-digits 4 nb) fits
          ∙ (let e : length run ≡ min 1016 (size_of s first - 1016 * k) = omega arith in e);
    }
  where
    behind-fits : (k : ℕ) → number_behind s.next first (count_of s first) k < 256 ^ 4
    behind-fits k =
        let mapped = is.mapped in
        let few = is.few in
        elim (cases_lt (k + 1) (count_of s first)) [
          | inl inside ↦
              let below = is.within first (k + 1) inside in
              let is_page = if-true (nat_lt (k + 1) (count_of s first)) (page_of s first (k + 1)) 0 (lt-ltb (k + 1) (count_of s first) inside) in
              omega arith
          | inr end ↦
              let is_none = if-false (nat_lt (k + 1) (count_of s first)) (page_of s first (k + 1)) 0 (le-ltb (k + 1) (count_of s first) end) in
              omega arith
        ]
