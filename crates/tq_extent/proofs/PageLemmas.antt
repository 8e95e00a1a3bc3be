-- Pages share no byte, of one owner or of two.
use Rattle.std.proofs.Common.{◌≡◌, ◌≢◌, ◌<◌, inl, inr, ℕ, zero, suc, ◌+◌, ◌*◌, ◌/◌, ◌%◌, Bool, true, not, List, [], ◌∷◌, length, get_or, refl, sym, ap, arith}
use Rattle.std.specs.Prelude.{◌==◌}
use Rattle.std.specs.List.{list_all}
use Rattle.std.proofs.lemmas.Bool.{eq-eqb, cases_eq, cases_order, and_parts, not-true}
use Rattle.tq_model.specs.DeviceForm.{cluster_bytes, page_bytes}
use Rattle.tq_model.specs.Site.{header_clusters, numbers_from}
use Rattle.tq_extent.specs.Clusters.{is_free, are_distinct}
use Rattle.tq_extent.specs.Pages.{page_count, page_address, AreApart, HavePagesApart, are_others}
use Rattle.tq_extent.proofs.ExtentLemmas.{all-get}

-- ---- pages share no byte

pub distinct-at : (clusters : List ℕ) (i j : ℕ) → are_distinct clusters ≡ true → i < length clusters → j < length clusters → get_or clusters i 0 ≡ get_or clusters j 0 → i ≡ j
distinct-at [] i j distinct lt lt' same = absurd (omega arith)
distinct-at (x ∷ clusters) zero zero distinct lt lt' same = refl
distinct-at (x ∷ clusters) zero (suc j) distinct lt lt' same =
    let other = not-true (x == get_or clusters j 0) (all-get (λ y. not (x == y)) clusters j 0 (and_parts (list_all (λ y. not (x == y)) clusters) (are_distinct clusters) distinct).0 (omega arith)) in
    let equal = eq-eqb x (get_or clusters j 0) same in
    absurd (cc)
distinct-at (x ∷ clusters) (suc i) zero distinct lt lt' same =
    let other = not-true (x == get_or clusters i 0) (all-get (λ y. not (x == y)) clusters i 0 (and_parts (list_all (λ y. not (x == y)) clusters) (are_distinct clusters) distinct).0 (omega arith)) in
    let equal = eq-eqb x (get_or clusters i 0) (sym same) in
    absurd (cc)
distinct-at (x ∷ clusters) (suc i) (suc j) distinct lt lt' same =
    ap suc (distinct-at clusters i j (and_parts (list_all (λ y. not (x == y)) clusters) (are_distinct clusters) distinct).1 (omega arith) (omega arith) same)

-- pages of two clusters, and two pages of one
pub clusters_apart : (a b i j : ℕ) → a ≢ b → i < 32 → j < 32 → AreApart (cluster_bytes * a + page_bytes * i) (cluster_bytes * b + page_bytes * j)
clusters_apart a b i j differs lt lt' = elim (cases_order a b) [
  | inl same ↦ absurd (differs same)
  | inr unequal ↦ elim unequal [ inl below ↦ inl (omega arith) | inr above ↦ inr (omega arith) ]
]

within_apart : (a b i j : ℕ) → a ≡ b → i ≢ j → AreApart (cluster_bytes * a + page_bytes * i) (cluster_bytes * b + page_bytes * j)
within_apart a b i j same differs = elim (cases_order i j) [
  | inl equal ↦ absurd (differs equal)
  | inr unequal ↦ elim unequal [ inl below ↦ inl (omega arith) | inr above ↦ inr (omega arith) ]
]

-- two pages of one owner
pub pages_apart : (clusters : List ℕ) (p q : ℕ) → are_distinct clusters ≡ true → p < page_count clusters → q < page_count clusters → p ≢ q → AreApart (page_address clusters p) (page_address clusters q)
pages_apart clusters p q distinct lt lt' differs =
    let a = get_or clusters (p / 32) 0 in
    let b = get_or clusters (q / 32) 0 in
    elim (cases_eq a b) [
      | inl same ↦
          let place : p / 32 ≡ q / 32 = distinct-at clusters (p / 32) (q / 32) distinct (omega arith) (omega arith) same in
          within_apart a b (p % 32) (q % 32) same (λ equal. differs (omega arith))
      | inr other ↦ clusters_apart a b (p % 32) (q % 32) other (omega arith) (omega arith)
    ]

-- pages of clusters that were free, and of others
pub free_apart : (clusters others : List ℕ) (owned : List Bool) → list_all (λ cluster. is_free cluster owned) clusters ≡ true → are_others others owned ≡ true → HavePagesApart clusters others
free_apart clusters others owned free none p q lt lt' =
    let a = get_or clusters (p / 32) 0 in
    let b = get_or others (q / 32) 0 in
    let one = all-get (λ cluster. is_free cluster owned) clusters (p / 32) 0 free (omega arith) in
    let other = not-true (is_free b owned) (all-get (λ cluster. not (is_free cluster owned)) others (q / 32) 0 none (omega arith)) in
    let differs : a ≢ b = λ same. let both = ap (λ k. is_free k owned) same in absurd (cc) in
    clusters_apart a b (p % 32) (q % 32) differs (omega arith) (omega arith)

-- ---- the header

-- nobody is given its clusters
pub header_others : (owned : List Bool) → are_others (numbers_from 0 header_clusters) owned ≡ true
header_others owned = refl
