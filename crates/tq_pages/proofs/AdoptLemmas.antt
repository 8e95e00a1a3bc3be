-- A stored chain, page by page.
use Rattle.std.proofs.Common.{◌≡◌, ◌⊎◌, inl, inr, ◌<◌, ◌≤◌, ◌+◌, ◌-◌, ◌*◌, ℕ, Bool, true, false, min, List, length, refl, sym, ap, ◌∙◌, subst, arith}
use Rattle.std.specs.Prelude.{nat_lt}
use Rattle.std.proofs.lemmas.Bool.{cases_eq, cases_lt, lt-ltb, le-ltb}
use Rattle.tq_field.specs.Places.{number_at}
use Rattle.tq_pages.specs.Store.{Store, is_free, size_of, count_of, page_of, with_taken, HasTaken}
use Rattle.tq_pages.specs.Content.{HasChain, IsFit, IsBad}
use Rattle.tq_pages.proofs.StoreLemmas.{so_far, next_behind}
use Rattle.tq_pages.proofs.ChainLemmas.{if-true, if-false}

-- the first so many pages say which one is behind them, and are full
pub record IsChained (s : Store) (first n : ℕ) (bytes : List ℕ) : Type 0 where
  pub numbers : (k : ℕ) → k < n → number_at (1024 * page_of s first k) 4 bytes ≡ page_of s first (k + 1)
  pub full : (k : ℕ) → k < n → number_at (1024 * page_of s first k + 4) 2 bytes ≡ 1016

last_or_before : (k n : ℕ) → k < n + 1 → (k < n) ⊎ (k ≡ n)
last_or_before k n lt = elim (cases_eq k n) [
  | inl same ↦ inr same
  | inr other ↦ inl (omega (arith, other))
]

module _ (s cur : Store) (f n page next : ℕ) (t : HasTaken s f n cur) (here : page_of cur f n ≡ page) (free : is_free cur page ≡ true)
    (long : length cur.next ≡ length cur.free) where
  at_last : page_of (with_taken cur page next) f n ≡ page
  at_last = so_far s cur f n page next t here free long n (omega arith) ∙ here

  kept : (k : ℕ) → k ≤ n → page_of (with_taken cur page next) f k ≡ page_of cur f k
  kept = so_far s cur f n page next t here free long

  behind_last : page_of (with_taken cur page next) f (n + 1) ≡ next
  behind_last = next_behind s cur f n page next t here free long

  pub goes_on_more : 1 ≤ next → ((k : ℕ) → k < n → 1 ≤ page_of cur f (k + 1)) → (k : ℕ) → k < n + 1 → 1 ≤ page_of (with_taken cur page next) f (k + 1)
  goes_on_more some before k lt = elim (last_or_before k n lt) [
    | inl less ↦ let old = before k less in let same = kept (k + 1) (omega arith) in omega arith
    | inr last ↦ subst (λ j. 1 ≤ page_of (with_taken cur page next) f (j + 1)) (sym last) (let same = behind_last in omega arith)
  ]

  pub numbers_more : (bytes : List ℕ) → next ≡ number_at (1024 * page) 4 bytes → IsChained cur f n bytes
      → (k : ℕ) → k < n + 1 → number_at (1024 * page_of (with_taken cur page next) f k) 4 bytes ≡ page_of (with_taken cur page next) f (k + 1)
  numbers_more bytes is before k lt = elim (last_or_before k n lt) [
    | inl less ↦ ap (λ p. number_at (1024 * p) 4 bytes) (kept k (omega arith)) ∙ before.numbers k less ∙ sym (kept (k + 1) (omega arith))
    | inr last ↦
        subst (λ j. number_at (1024 * page_of (with_taken cur page next) f j) 4 bytes ≡ page_of (with_taken cur page next) f (j + 1)) (sym last)
        (ap (λ p. number_at (1024 * p) 4 bytes) at_last ∙ sym is ∙ sym behind_last)
  ]

  pub full_kept : (bytes : List ℕ) → IsChained cur f n bytes
      → (k : ℕ) → k < n → number_at (1024 * page_of (with_taken cur page next) f k + 4) 2 bytes ≡ 1016
  full_kept bytes before k less = ap (λ p. number_at (1024 * p + 4) 2 bytes) (kept k (omega arith)) ∙ before.full k less

  pub last_used : (bytes : List ℕ) (used : ℕ) → used ≡ number_at (1024 * page + 4) 2 bytes
      → number_at (1024 * page_of (with_taken cur page next) f n + 4) 2 bytes ≡ used
  last_used bytes used is = ap (λ p. number_at (1024 * p + 4) 2 bytes) at_last ∙ sym is

  pub chained_more : (bytes : List ℕ) → next ≡ number_at (1024 * page) 4 bytes → number_at (1024 * page + 4) 2 bytes ≡ 1016 → IsChained cur f n bytes
      → IsChained (with_taken cur page next) f (n + 1) bytes
  chained_more bytes is used before = record {
    numbers = numbers_more bytes is before;
    full = λ k lt. elim (last_or_before k n lt) [
      | inl less ↦ full_kept bytes before k less
      | inr last ↦ subst (λ j. number_at (1024 * page_of (with_taken cur page next) f j + 4) 2 bytes ≡ 1016) (sym last) (last_used bytes 1016 (sym used))
    ];
  }

-- a chain whose last page is the n-th has its bytes
pub chain_held : (s : Store) (first n used : ℕ) (bytes : List ℕ) → size_of s first ≡ 1016 * n + used → 1 ≤ used → used ≤ 1016 → page_of s first (n + 1) ≡ 0
    → ((k : ℕ) → k < n + 1 → number_at (1024 * page_of s first k) 4 bytes ≡ page_of s first (k + 1))
    → ((k : ℕ) → k < n → number_at (1024 * page_of s first k + 4) 2 bytes ≡ 1016)
    → number_at (1024 * page_of s first n + 4) 2 bytes ≡ used → HasChain s first bytes
chain_held s first n used bytes size some most last numbers full last_one =
    let count : count_of s first ≡ n + 1 = omega arith in
    record {
      next = λ k lt.
          let below : k < n + 1 = omega arith in
          numbers k below ∙ elim (cases_lt (k + 1) (count_of s first)) [
            | inl inside ↦ sym (if-true (nat_lt (k + 1) (count_of s first)) (page_of s first (k + 1)) 0 (lt-ltb (k + 1) (count_of s first) inside))
            | inr end ↦
                let k_is : k + 1 ≡ n + 1 = omega arith in
                ap (page_of s first) k_is ∙ last ∙ sym (if-false (nat_lt (k + 1) (count_of s first)) (page_of s first (k + 1)) 0 (le-ltb (k + 1) (count_of s first) end))
          ];
      used = λ k lt. elim (cases_lt k n) [
        | inl less ↦ full k less ∙ (let e : 1016 ≡ min 1016 (size_of s first - 1016 * k) = omega arith in e)
        | inr from ↦
            let k_is : k ≡ n = omega arith in
            ap (λ j. number_at (1024 * page_of s first j + 4) 2 bytes) k_is ∙ last_one ∙ (let e : used ≡ min 1016 (size_of s first - 1016 * k) = omega arith in e)
      ];
    }

bool : (b : Bool) → (b ≡ true) ⊎ (b ≡ false)
bool true = inl refl
bool false = inr refl

-- the first page that does not fit
pub chain_bad : (s cur : Store) (f n page : ℕ) (bytes : List ℕ) → HasTaken s f n cur → page_of cur f n ≡ page
    → ((k : ℕ) → k < n → 1 ≤ page_of cur f (k + 1)) → IsChained cur f n bytes
    → ((is_free cur page ≡ false) ⊎ (IsFit (number_at (1024 * page) 4 bytes) (number_at (1024 * page + 4) 2 bytes) → ⊥)) → IsBad s bytes f page
chain_bad s cur f n page bytes t here goes_on chained why = record {
  next = cur.next;
  n = n;
  path = record { behind = here; free = t.free; distinct = t.distinct; goes_on = goes_on; numbers = chained.numbers; full = chained.full };
  bad = elim why [
    | inl used ↦ elim (bool (is_free s page)) [
      | inr before ↦ inl before
      | inl was ↦ elim (t.others page was) [
        | inl still ↦ absurd (cc)
        | inr among ↦ inr (inl among)
      ]
    ]
    | inr unfit ↦ inr (inr unfit)
  ];
}
