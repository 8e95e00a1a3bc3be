-- The pages of a chain on their device.
use Rattle.std.proofs.Common.{◌≡◌, inl, inr, ◌<◌, ◌≤◌, ◌+◌, ◌*◌, ℕ, List, length, get_or, sym, ap, ◌∙◌, arith}
use Rattle.std.proofs.lemmas.Bool.{cases_lt}
use Rattle.std.proofs.lemmas.List.{get_or_past, ext_get_or}
use Rattle.tq_field.specs.Digits.{number_of}
use Rattle.tq_field.specs.Places.{run_at, number_at}
use Rattle.tq_field.proofs.Runs.{length-run_at, get_or-run_at}
use Rattle.tq_host.specs.Calls.{HasBytesAt}
use Rattle.tq_pages.specs.Store.{Store, size_of, count_of, page_of, IsStore}
use Rattle.tq_pages.specs.Content.{ArePages}
use Rattle.tq_pages.proofs.ChainLemmas.{no_more}

-- the pages of a chain lie on the clusters of its store
pub chain_mapped : (s : Store) (first : ℕ) → IsStore s → ArePages s.clusters s.next first (count_of s first)
chain_mapped s first is =
    let mapped = is.mapped in
    let few = is.few in
    let size = is.next_size in
    record {
      few = omega arith;
      mapped = omega arith;
      within = λ k lt. let within = is.within first k lt in omega arith;
      distinct = λ j k lt_j lt_k same. is.distinct first j k lt_j lt_k same;
    }

-- a chain has no more bytes than the pages of the store
pub size_few : (s : Store) (first : ℕ) → IsStore s → size_of s first ≤ 1016 * length s.free
size_few s first is =
    let few = no_more (length s.free) (count_of s first) (page_of s first) (is.within first) (is.distinct first) in
    omega arith

-- a page at which a chain begins is one of the store
pub some_within : (l : List ℕ) (i : ℕ) → 1 ≤ get_or l i 0 → i < length l
some_within l i some = elim (cases_lt i (length l)) [
  | inl below ↦ below
  | inr past ↦ let none = get_or_past l i 0 past in absurd (omega arith)
]

-- a number in bytes that stand at a place
pub number_read : (at k w : ℕ) (bytes owned : List ℕ) → k + w ≤ length bytes → at + length bytes ≤ length owned → HasBytesAt at bytes owned
    → number_at k w bytes ≡ number_at (at + k) w owned
number_read at k w bytes owned within long stands =
    let a = length-run_at k w bytes within in
    let b = length-run_at (at + k) w owned (omega arith) in
    ap number_of (ext_get_or 0 (run_at k w bytes) (run_at (at + k) w owned) (a ∙ sym b) (λ i lt.
    let below : i < w = omega arith in
    let place : at + (k + i) ≡ at + k + i = omega arith in
    get_or-run_at k w bytes i 0 below ∙ sym (stands (k + i) (omega arith)) ∙ ap (λ j. get_or owned j 0) place ∙ sym (get_or-run_at (at + k) w owned i 0 below)))
