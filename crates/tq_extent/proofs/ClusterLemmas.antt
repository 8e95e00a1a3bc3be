-- What is free, what is marked, and what may be claimed.
use Rattle.std.proofs.Common.{◌≡◌, ◌<◌, ◌≤◌, inl, inr, ℕ, zero, suc, ◌+◌, ◌-◌, Bool, true, false, cond, not, ◌&&◌, ◌||◌, List, [], ◌∷◌, ◌++◌, length, get_or, set, take, drop, refl, sym, ap, ◌∙◌, subst, arith, lt-ltb, le-leb}
use Rattle.std.specs.Prelude.{◌==◌, nat_le, nat_lt, filter}
use Rattle.std.specs.List.{list_any, list_all}
use Rattle.std.proofs.lemmas.Bool.{eq-eqb, ne_eqb, eqb-true, cases_eq, cases_lt, and_parts, and_from, or_cases, not-true}
use Rattle.std.proofs.lemmas.List.{length-set, get_or-set_other, get_or-set_same, get_or_past, ext_get_or, get_or_default, take_more, append-nil, take-append-drop, take_all}
use Rattle.std.proofs.lemmas.List.Folds.{list_all-append}
use Rattle.std.proofs.lemmas.Grind.{fold-append, flat_map-append}
use Rattle.tq_model.specs.declared.answer.Extent.{Extent}
use Rattle.tq_model.specs.Site.{Volume, header_clusters, numbers_from, covers, is_taken, lowest_free}
use Rattle.tq_extent.specs.Clusters.{is_free, is_given, free_from, free_in, clusters_of, are_distinct, can_claim, with_mark, IsOf}
use Rattle.tq_extent.specs.Bytes.{has_cluster}
use Rattle.tq_extent.proofs.ExtentLemmas.{any-numbers_from, any-clusters_of}

-- ---- tests of all numbers of a list

pub all-at : (test : ℕ → Bool) (numbers : List ℕ) (k : ℕ) → list_all test numbers ≡ true → has_cluster numbers k ≡ true → test k ≡ true
all-at test [] k all any = absurd (cc)
all-at test (x ∷ numbers) k all any =
    let parts = and_parts (test x) (list_all test numbers) all in
    elim (or_cases (x == k) (has_cluster numbers k) any) [
      | inl same ↦ subst (λ (y : ℕ). test y ≡ true) (eqb-true x k same) parts.0
      | inr later ↦ all-at test numbers k parts.1 later
    ]

pub all-weaker : (test other : ℕ → Bool) (numbers : List ℕ) → ((k : ℕ) → test k ≡ true → other k ≡ true) → list_all test numbers ≡ true → list_all other numbers ≡ true
all-weaker test other [] weaker all = refl
all-weaker test other (x ∷ numbers) weaker all =
    let parts = and_parts (test x) (list_all test numbers) all in
    and_from (other x) (list_all other numbers) (weaker x parts.0) (all-weaker test other numbers weaker parts.1)

pub all-filter : (test : ℕ → Bool) (numbers : List ℕ) → list_all test (filter test numbers) ≡ true
all-filter test [] = refl
all-filter test (x ∷ numbers) =
    elim (test x) as (λ b. test x ≡ b → list_all test (cond b (x ∷ filter test numbers) (filter test numbers)) ≡ true) [
      | true ↦ λ is. and_from (test x) (list_all test (filter test numbers)) is (all-filter test numbers)
      | false ↦ λ is. all-filter test numbers
    ] refl

pub all-take : (test : ℕ → Bool) (n : ℕ) (numbers : List ℕ) → list_all test numbers ≡ true → list_all test (take n numbers) ≡ true
all-take test zero numbers all = refl
all-take test (suc n) [] all = refl
all-take test (suc n) (x ∷ numbers) all =
    let parts = and_parts (test x) (list_all test numbers) all in
    and_from (test x) (list_all test (take n numbers)) parts.0 (all-take test n numbers parts.1)

-- the numbers up to an end, of which the first passes or does not
all-more : (test : ℕ → Bool) (at end : ℕ) → at < end → list_all test (numbers_from at (end - at)) ≡ (test at && list_all test (numbers_from (at + 1) (end - (at + 1))))
all-more test at end lt = let step : end - at ≡ suc (end - (at + 1)) = omega arith in ap (λ n. list_all test (numbers_from at n)) step

pub all-passed : (test : ℕ → Bool) (at end : ℕ) → at < end → test at ≡ true → list_all test (numbers_from (at + 1) (end - (at + 1))) ≡ list_all test (numbers_from at (end - at))
all-passed test at end lt is = sym (all-more test at end lt ∙ ap (λ b. b && list_all test (numbers_from (at + 1) (end - (at + 1)))) is)

pub all-failed : (test : ℕ → Bool) (at end : ℕ) → at < end → test at ≡ false → list_all test (numbers_from at (end - at)) ≡ false
all-failed test at end lt is = all-more test at end lt ∙ ap (λ b. b && list_all test (numbers_from (at + 1) (end - (at + 1)))) is

pub all-at-number : (test : ℕ → Bool) (first n k : ℕ) → list_all test (numbers_from first n) ≡ true → first ≤ k → k < first + n → test k ≡ true
all-at-number test first n k all from to =
    all-at test (numbers_from first n) k all (any-numbers_from k first n ∙ and_from (nat_le first k) (nat_lt k (first + n)) (le-leb first k from) (lt-ltb k (first + n) to))

pub all-at-extent : (test : ℕ → Bool) (extents : List Extent) (i : ℕ) (d : Extent) → i < length extents → list_all test (clusters_of extents) ≡ true
    → list_all test (numbers_from (get_or extents i d).first (get_or extents i d).count) ≡ true
all-at-extent test [] i d lt all = absurd (omega arith)
all-at-extent test (e ∷ extents) zero d lt all =
    (and_parts (list_all test (numbers_from e.first e.count)) (list_all test (clusters_of extents)) (sym (list_all-append test (numbers_from e.first e.count) (clusters_of extents)) ∙ all)).0
all-at-extent test (e ∷ extents) (suc i) d lt all =
    all-at-extent test extents i d (omega arith)
    (and_parts (list_all test (numbers_from e.first e.count)) (list_all test (clusters_of extents)) (sym (list_all-append test (numbers_from e.first e.count) (clusters_of extents)) ∙ all)).1

pub clusters_of-more : (extents : List Extent) (i : ℕ) (d : Extent) → i < length extents
    → clusters_of (take (i + 1) extents) ≡ clusters_of (take i extents) ++ numbers_from (get_or extents i d).first (get_or extents i d).count
clusters_of-more extents i d lt =
    let e = get_or extents i d in
    ap clusters_of (take_more extents i d lt) ∙ flat_map-append (λ (x : Extent). numbers_from x.first x.count) (take i extents) (e ∷ [])
    ∙ ap (λ (l : List ℕ). clusters_of (take i extents) ++ l) (append-nil (numbers_from e.first e.count))

-- ---- numbers that rise

-- each from this one on is larger than the one before
abbrev Rises : ℕ → List ℕ → Type 0
Rises least [] = Unit {0}
Rises least (x ∷ numbers) = (least ≤ x) × Rises (x + 1) numbers

rises-lower : (a b : ℕ) (numbers : List ℕ) → b ≤ a → Rises a numbers → Rises b numbers
rises-lower a b [] le rises = tt
rises-lower a b (x ∷ numbers) le rises = let from = rises.0 in (omega arith, rises.1)

rises-numbers_from : (first n : ℕ) → Rises first (numbers_from first n)
rises-numbers_from first zero = tt
rises-numbers_from first (suc n) = (omega arith, rises-numbers_from (first + 1) n)

rises-filter : (test : ℕ → Bool) (least : ℕ) (numbers : List ℕ) → Rises least numbers → Rises least (filter test numbers)
rises-filter test least [] rises = tt
rises-filter test least (x ∷ numbers) rises =
    let from = rises.0 in
    let rest = rises-filter test (x + 1) numbers rises.1 in
    elim (test x) as (λ b. Rises least (cond b (x ∷ filter test numbers) (filter test numbers))) [
      | true ↦ (from, rest)
      | false ↦ rises-lower (x + 1) least (filter test numbers) (omega arith) rest
    ]

rises-take : (n least : ℕ) (numbers : List ℕ) → Rises least numbers → Rises least (take n numbers)
rises-take zero least numbers rises = tt
rises-take (suc n) least [] rises = tt
rises-take (suc n) least (x ∷ numbers) rises = (rises.0, rises-take n (x + 1) numbers rises.1)

rises-other : (x least : ℕ) (numbers : List ℕ) → x < least → Rises least numbers → list_all (λ y. not (x == y)) numbers ≡ true
rises-other x least [] lt rises = refl
rises-other x least (y ∷ numbers) lt rises =
    let from = rises.0 in
    and_from (not (x == y)) (list_all (λ k. not (x == k)) numbers) (ap not (ne_eqb x y (λ same. omega arith))) (rises-other x (y + 1) numbers (omega arith) rises.1)

rises-distinct : (least : ℕ) (numbers : List ℕ) → Rises least numbers → are_distinct numbers ≡ true
rises-distinct least [] rises = refl
rises-distinct least (x ∷ numbers) rises =
    and_from (list_all (λ y. not (x == y)) numbers) (are_distinct numbers) (rises-other x (x + 1) numbers (omega arith) rises.1) (rises-distinct (x + 1) numbers rises.1)

pub numbers_from-distinct : (first n : ℕ) → are_distinct (numbers_from first n) ≡ true
numbers_from-distinct first n = rises-distinct first (numbers_from first n) (rises-numbers_from first n)

pub lowest-distinct : (n : ℕ) (owned : List Bool) → are_distinct (take n (free_in owned)) ≡ true
lowest-distinct n owned =
    let all = numbers_from header_clusters (length owned - header_clusters) in
    rises-distinct header_clusters (take n (free_in owned))
    (rises-take n header_clusters (free_in owned) (rises-filter (λ cluster. is_free cluster owned) header_clusters all (rises-numbers_from header_clusters (length owned - header_clusters))))

-- ---- free clusters

free_from-more : (at : ℕ) (owned : List Bool) → at < length owned → free_from at owned ≡ cond (is_free at owned) (at ∷ free_from (at + 1) owned) (free_from (at + 1) owned)
free_from-more at owned lt =
    let step : length owned - at ≡ suc (length owned - (at + 1)) = omega arith in
    ap (λ n. filter (λ cluster. is_free cluster owned) (numbers_from at n)) step

pub free_from-free : (at : ℕ) (owned : List Bool) → at < length owned → is_free at owned ≡ true → free_from at owned ≡ at ∷ free_from (at + 1) owned
free_from-free at owned lt is = free_from-more at owned lt ∙ ap (λ b. cond b (at ∷ free_from (at + 1) owned) (free_from (at + 1) owned)) is

pub free_from-not : (at : ℕ) (owned : List Bool) → at < length owned → is_free at owned ≡ false → free_from at owned ≡ free_from (at + 1) owned
free_from-not at owned lt is = free_from-more at owned lt ∙ ap (λ b. cond b (at ∷ free_from (at + 1) owned) (free_from (at + 1) owned)) is

pub free_from-end : (at : ℕ) (owned : List Bool) → length owned ≤ at → free_from at owned ≡ []
free_from-end at owned le =
    let none : length owned - at ≡ 0 = omega arith in
    ap (λ n. filter (λ cluster. is_free cluster owned) (numbers_from at n)) none

-- the lowest so many from a cluster on
pub take-free : (n at : ℕ) (owned : List Bool) → 0 < n → at < length owned → is_free at owned ≡ true → take n (free_from at owned) ≡ at ∷ take (n - 1) (free_from (at + 1) owned)
take-free n at owned some lt is =
    let more : n ≡ suc (n - 1) = omega arith in
    (λ i. take (more i) (free_from-free at owned lt is i))

pub take-not : (n at : ℕ) (owned : List Bool) → at < length owned → is_free at owned ≡ false → take n (free_from at owned) ≡ take n (free_from (at + 1) owned)
take-not n at owned lt is = ap (take n) (free_from-not at owned lt is)

pub take-none : {X : Type 0} (n : ℕ) (xs ys : List X) → n ≤ 0 → take n xs ≡ take n ys
take-none zero xs ys le = refl
take-none (suc n) xs ys le = absurd (omega arith)

pub take-end : (n at : ℕ) (owned : List Bool) → length owned ≤ at → take n (free_from at owned) ≡ []
take-end n at owned le = ap (take n) (free_from-end at owned le) ∙ take_all n [] (omega arith)

pub free-within : (k : ℕ) (owned : List Bool) → is_free k owned ≡ true → k < length owned
free-within k owned free =
    let none = not-true (get_or owned k true) (and_parts (nat_le header_clusters k) (not (get_or owned k true)) free).1 in
    elim (cases_lt k (length owned)) [ inl lt ↦ lt | inr past ↦ let own = get_or_past owned k true past in absurd (cc) ]

pub given-within : (k : ℕ) (owned : List Bool) → is_given k owned ≡ true → nat_lt k (length owned) ≡ true
given-within k owned given =
    let own = (and_parts (nat_le header_clusters k) (get_or owned k false) given).1 in
    elim (cases_lt k (length owned)) [ inl lt ↦ lt-ltb k (length owned) lt | inr past ↦ let none = get_or_past owned k false past in absurd (cc) ]

pub all-free-within : (numbers : List ℕ) (owned : List Bool) → list_all (λ k. is_free k owned) numbers ≡ true → list_all (λ k. nat_lt k (length owned)) numbers ≡ true
all-free-within numbers owned all = all-weaker (λ k. is_free k owned) (λ k. nat_lt k (length owned)) numbers (λ k free. lt-ltb k (length owned) (free-within k owned free)) all

pub lowest-free : (n : ℕ) (owned : List Bool) → list_all (λ k. is_free k owned) (take n (free_in owned)) ≡ true
lowest-free n owned = all-take (λ k. is_free k owned) n (free_in owned) (all-filter (λ k. is_free k owned) (numbers_from header_clusters (length owned - header_clusters)))

pub filter-agree : (test other : ℕ → Bool) (first n : ℕ) → ((k : ℕ) → first ≤ k → k < first + n → test k ≡ other k) → filter test (numbers_from first n) ≡ filter other (numbers_from first n)
filter-agree test other first zero agree = refl
filter-agree test other first (suc n) agree =
    let own : test first ≡ other first = agree first (omega arith) (omega arith) in
    let rest = filter-agree test other (first + 1) n (λ k from to. agree k (omega arith) (omega arith)) in
    λ i. cond (own i) (first ∷ rest i) (rest i)

-- the free clusters are those of the volume
pub lowest_free-is : (n : ℕ) (v : Volume) (owned : List Bool) → IsOf v owned → take n (free_in owned) ≡ lowest_free n v
lowest_free-is n v owned is =
    let size = is.clusters in
    ap (take n) (filter-agree (λ k. is_free k owned) (λ k. not (is_taken v k)) header_clusters (length owned - header_clusters)
    (λ k from to. (λ i. le-leb header_clusters k from i && not (is.taken k from (omega (arith, size)) i)))
    ∙ ap (λ n. filter (λ cluster. not (is_taken v cluster)) (numbers_from header_clusters (n - header_clusters))) size)

-- ---- marks

pub length-with_mark : (mark : Bool) (clusters : List ℕ) (owned : List Bool) → length (with_mark mark clusters owned) ≡ length owned
length-with_mark mark [] owned = refl
length-with_mark mark (x ∷ clusters) owned = length-with_mark mark clusters (set owned x mark) ∙ length-set owned x mark

pub with_mark-append : (mark : Bool) (xs ys : List ℕ) (owned : List Bool) → with_mark mark (xs ++ ys) owned ≡ with_mark mark ys (with_mark mark xs owned)
with_mark-append mark xs ys owned = fold-append (λ l cluster. set l cluster mark) owned xs ys

-- the marks of one extent more
pub with_mark-more : (mark : Bool) (extents : List Extent) (i : ℕ) (d : Extent) (owned : List Bool) → i < length extents
    → with_mark mark (clusters_of (take (i + 1) extents)) owned ≡ with_mark mark (numbers_from (get_or extents i d).first (get_or extents i d).count) (with_mark mark (clusters_of (take i extents)) owned)
with_mark-more mark extents i d owned lt =
    let e = get_or extents i d in
    ap (λ (l : List ℕ). with_mark mark l owned) (clusters_of-more extents i d lt) ∙ with_mark-append mark (clusters_of (take i extents)) (numbers_from e.first e.count) owned

-- the first of the numbers up to an end, and the others
pub with_mark-next : (mark : Bool) (at end : ℕ) (owned : List Bool) → at < end
    → with_mark mark (numbers_from (at + 1) (end - (at + 1))) (set owned at mark) ≡ with_mark mark (numbers_from at (end - at)) owned
with_mark-next mark at end owned lt = let step : suc (end - (at + 1)) ≡ end - at = omega arith in ap (λ n. with_mark mark (numbers_from at n) owned) step

same-cond : {X : Type 0} (b : Bool) (x : X) → cond b x x ≡ x
same-cond true x = refl
same-cond false x = refl

pub get_or-with_mark : (mark : Bool) (clusters : List ℕ) (owned : List Bool) (k : ℕ) (d : Bool) → k < length owned → get_or (with_mark mark clusters owned) k d ≡ cond (has_cluster clusters k) mark (get_or owned k d)
get_or-with_mark mark [] owned k d lt = refl
get_or-with_mark mark (x ∷ clusters) owned k d lt =
    let size = length-set owned x mark in
    let rest = get_or-with_mark mark clusters (set owned x mark) k d (omega (arith, size)) in
    elim (cases_eq x k) [
      | inl same ↦
          let here : get_or (set owned x mark) k d ≡ mark = subst (λ (y : ℕ). get_or (set owned y mark) k d ≡ mark) (sym same) (get_or-set_same owned k mark d lt) in
          rest ∙ ap (cond (has_cluster clusters k) mark) here ∙ same-cond (has_cluster clusters k) mark ∙ ap (λ b. cond (b || has_cluster clusters k) mark (get_or owned k d)) (sym (eq-eqb x k same))
      | inr differs ↦
          rest ∙ ap (cond (has_cluster clusters k) mark) (get_or-set_other owned x k mark d (λ same. differs (sym same)))
          ∙ ap (λ b. cond (b || has_cluster clusters k) mark (get_or owned k d)) (sym (ne_eqb x k differs))
    ]

or-cond : (a b : Bool) → cond a true b ≡ (a || b)
or-cond true b = refl
or-cond false b = refl

or-true : (a : Bool) → true ≡ (a || true)
or-true true = refl
or-true false = refl

-- what has an owner after clusters were given
pub owned-with_mark : (clusters : List ℕ) (owned : List Bool) (k : ℕ) → get_or (with_mark true clusters owned) k true ≡ (has_cluster clusters k || get_or owned k true)
owned-with_mark clusters owned k = elim (cases_lt k (length owned)) [
  | inl lt ↦ get_or-with_mark true clusters owned k true lt ∙ or-cond (has_cluster clusters k) (get_or owned k true)
  | inr past ↦
      let size = length-with_mark true clusters owned in
      get_or_past (with_mark true clusters owned) k true (omega (arith, size)) ∙ or-true (has_cluster clusters k) ∙ ap (λ b. has_cluster clusters k || b) (sym (get_or_past owned k true past))
]

pub owned-with_extents : (extents : List Extent) (owned : List Bool) (k : ℕ) → get_or (with_mark true (clusters_of extents) owned) k true ≡ (list_any (covers k) extents || get_or owned k true)
owned-with_extents extents owned k = owned-with_mark (clusters_of extents) owned k ∙ ap (λ b. b || get_or owned k true) (any-clusters_of k extents)

-- the volume after its spaces were given these extents, and after they gave them back
pub is_of-given : (v w : Volume) (extents : List Extent) (owned : List Bool) → IsOf v owned → w.clusters ≡ v.clusters
    → ((cluster : ℕ) → is_taken w cluster ≡ (list_any (covers cluster) extents || is_taken v cluster)) → IsOf w (with_mark true (clusters_of extents) owned)
is_of-given v w extents owned is same taken = record {
  clusters = length-with_mark true (clusters_of extents) owned ∙ is.clusters ∙ sym same;
  taken = λ cluster from to.
      let below : cluster < v.clusters = omega (arith, same) in
      owned-with_extents extents owned cluster ∙ ap (λ b. list_any (covers cluster) extents || b) (is.taken cluster from below) ∙ sym (taken cluster);
}

pub is_of-given_back : (v w : Volume) (extents : List Extent) (owned : List Bool) → IsOf v owned → w.clusters ≡ v.clusters
    → ((cluster : ℕ) → is_taken w cluster ≡ (not (list_any (covers cluster) extents) && is_taken v cluster)) → IsOf w (with_mark false (clusters_of extents) owned)
is_of-given_back v w extents owned is same taken = record {
  clusters = length-with_mark false (clusters_of extents) owned ∙ is.clusters ∙ sym same;
  taken = λ cluster from to.
      let size = is.clusters in
      get_or-with_mark false (clusters_of extents) owned cluster true (omega (arith, same, size)) ∙ ap (λ b. cond b false (get_or owned cluster true)) (any-clusters_of cluster extents)
      ∙ tests (list_any (covers cluster) extents) (get_or owned cluster true)
      ∙ ap (λ b. not (list_any (covers cluster) extents) && b) (is.taken cluster from (omega (arith, same))) ∙ sym (taken cluster);
}
  where
    tests : (a b : Bool) → cond a false b ≡ (not a && b)
    tests true b = refl
    tests false b = refl

pub free-with_mark : (clusters : List ℕ) (owned : List Bool) (k : ℕ) → is_free k (with_mark true clusters owned) ≡ (is_free k owned && not (has_cluster clusters k))
free-with_mark clusters owned k = ap (λ b. nat_le header_clusters k && not b) (owned-with_mark clusters owned k) ∙ tests (nat_le header_clusters k) (has_cluster clusters k) (get_or owned k true)
  where
    tests : (a b c : Bool) → (a && not (b || c)) ≡ ((a && not c) && not b)
    tests true true true = refl
    tests true true false = refl
    tests true false true = refl
    tests true false false = refl
    tests false b c = refl

-- clusters that were free are free again
pub with_mark-undone : (clusters : List ℕ) (owned : List Bool) → list_all (λ k. is_free k owned) clusters ≡ true → with_mark false clusters (with_mark true clusters owned) ≡ owned
with_mark-undone clusters owned all =
    let size = length-with_mark true clusters owned in
    ext_get_or false (with_mark false clusters (with_mark true clusters owned)) owned (length-with_mark false clusters (with_mark true clusters owned) ∙ size)
    (λ k lt.
    let within : k < length owned = subst (λ (n : ℕ). k < n) (length-with_mark false clusters (with_mark true clusters owned) ∙ size) lt in
    get_or-with_mark false clusters (with_mark true clusters owned) k false (omega (arith, size))
    ∙ ap (cond (has_cluster clusters k) false) (get_or-with_mark true clusters owned k false within)
    ∙ by_test k within (has_cluster clusters k) refl)
  where
    by_test : (k : ℕ) → k < length owned → (b : Bool) → has_cluster clusters k ≡ b → cond b false (cond b true (get_or owned k false)) ≡ get_or owned k false
    by_test k lt false is = refl
    by_test k lt true is =
        let none = not-true (get_or owned k true) (and_parts (nat_le header_clusters k) (not (get_or owned k true)) (all-at (λ x. is_free x owned) clusters k all is)).1 in
        sym (get_or_default owned k false true lt ∙ none)

-- ---- claims

pub and-true : (a : Bool) → (a && true) ≡ a
and-true true = refl
and-true false = refl

pub list_all-both : (test other : ℕ → Bool) (numbers : List ℕ) → list_all (λ k. test k && other k) numbers ≡ (list_all test numbers && list_all other numbers)
list_all-both test other [] = refl
list_all-both test other (x ∷ numbers) = ap (λ b. (test x && other x) && b) (list_all-both test other numbers) ∙ tests (test x) (other x) (list_all test numbers) (list_all other numbers)
  where
    tests : (a b c d : Bool) → ((a && b) && (c && d)) ≡ ((a && c) && (b && d))
    tests true true c d = refl
    tests true false true d = refl
    tests true false false d = refl
    tests false b c d = refl

pub list_all-same : (test other : ℕ → Bool) (numbers : List ℕ) → ((k : ℕ) → test k ≡ other k) → list_all test numbers ≡ list_all other numbers
list_all-same test other [] same = refl
list_all-same test other (x ∷ numbers) same = λ i. same x i && list_all-same test other numbers same i

-- none of the second is among the first
abbrev pub are_new : List ℕ → List ℕ → Bool
are_new xs ys = list_all (λ y. not (has_cluster xs y)) ys

pub distinct-append : (xs ys : List ℕ) → are_distinct (xs ++ ys) ≡ (are_distinct xs && (are_distinct ys && are_new xs ys))
distinct-append [] ys = sym (and-true (are_distinct ys)) ∙ ap (λ b. are_distinct ys && b) (sym (none ys))
  where
    none : (ys : List ℕ) → list_all (λ y. not false) ys ≡ true
    none [] = refl
    none (y ∷ ys) = none ys
distinct-append (x ∷ xs) ys =
    (λ i. list_all-append (λ y. not (x == y)) xs ys i && distinct-append xs ys i)
    ∙ tests (list_all (λ y. not (x == y)) xs) (list_all (λ y. not (x == y)) ys) (are_distinct xs) (are_distinct ys) (are_new xs ys)
    ∙ ap (λ b. (list_all (λ y. not (x == y)) xs && are_distinct xs) && (are_distinct ys && b))
    (sym (list_all-same (λ y. not ((x == y) || has_cluster xs y)) (λ y. not (x == y) && not (has_cluster xs y)) ys (λ y. neither (x == y) (has_cluster xs y)) ∙ list_all-both (λ y. not (x == y)) (λ y. not (has_cluster xs y)) ys))
  where
    neither : (a b : Bool) → not (a || b) ≡ (not a && not b)
    neither true b = refl
    neither false b = refl

    tests : (a b c d e : Bool) → ((a && b) && (c && (d && e))) ≡ ((a && c) && (d && (b && e)))
    tests true true c d e = refl
    tests true false true true e = refl
    tests true false true false e = refl
    tests true false false d e = refl
    tests false b c d e = refl

-- more clusters may be claimed exactly where they may be after the first were given
pub can_claim-append : (xs ys : List ℕ) (owned : List Bool) → can_claim xs owned ≡ true → can_claim (xs ++ ys) owned ≡ can_claim ys (with_mark true xs owned)
can_claim-append xs ys owned first =
    let parts = and_parts (list_all (λ k. is_free k owned) xs) (are_distinct xs) first in
    (λ i. list_all-append (λ k. is_free k owned) xs ys i && distinct-append xs ys i)
    ∙ (λ i. (parts.0 i && list_all (λ k. is_free k owned) ys) && (parts.1 i && (are_distinct ys && are_new xs ys)))
    ∙ tests (list_all (λ k. is_free k owned) ys) (are_distinct ys) (are_new xs ys)
    ∙ ap (λ b. b && are_distinct ys)
    (sym (list_all-same (λ k. is_free k (with_mark true xs owned)) (λ k. is_free k owned && not (has_cluster xs k)) ys (free-with_mark xs owned) ∙ list_all-both (λ k. is_free k owned) (λ k. not (has_cluster xs k)) ys))
  where
    tests : (a b c : Bool) → (a && (b && c)) ≡ ((a && c) && b)
    tests true true true = refl
    tests true true false = refl
    tests true false true = refl
    tests true false false = refl
    tests false b c = refl

pub can_claim-more : (xs ys : List ℕ) (owned : List Bool) → can_claim xs owned ≡ true → are_distinct ys ≡ true → can_claim (xs ++ ys) owned ≡ list_all (λ k. is_free k (with_mark true xs owned)) ys
can_claim-more xs ys owned first distinct =
    let free = list_all (λ k. is_free k (with_mark true xs owned)) ys in
    can_claim-append xs ys owned first ∙ ap (λ b. free && b) distinct ∙ and-true free

pub cannot_claim-more : (xs ys : List ℕ) (owned : List Bool) → can_claim xs owned ≡ false → can_claim (xs ++ ys) owned ≡ false
cannot_claim-more xs ys owned none =
    (λ i. list_all-append (λ k. is_free k owned) xs ys i && distinct-append xs ys i)
    ∙ tests (list_all (λ k. is_free k owned) xs) (list_all (λ k. is_free k owned) ys) (are_distinct xs) (are_distinct ys && are_new xs ys) none
  where
    tests : (a b c d : Bool) → (a && c) ≡ false → ((a && b) && (c && d)) ≡ false
    tests true true true d none = absurd (cc)
    tests true false true d none = absurd (cc)
    tests true true false d none = refl
    tests true false false d none = refl
    tests false b c d none = refl

-- one extent more of a claim, and a claim of which a first part fails
pub claim-step : (extents : List Extent) (i : ℕ) (d : Extent) (owned : List Bool) → i < length extents → can_claim (clusters_of (take i extents)) owned ≡ true
    → can_claim (clusters_of (take (i + 1) extents)) owned
    ≡ list_all (λ k. is_free k (with_mark true (clusters_of (take i extents)) owned)) (numbers_from (get_or extents i d).first (get_or extents i d).count)
claim-step extents i d owned lt first =
    let e = get_or extents i d in
    ap (λ (l : List ℕ). can_claim l owned) (clusters_of-more extents i d lt)
    ∙ can_claim-more (clusters_of (take i extents)) (numbers_from e.first e.count) owned first (numbers_from-distinct e.first e.count)

pub claim-failed : (extents : List Extent) (i : ℕ) (owned : List Bool) → can_claim (clusters_of (take i extents)) owned ≡ false → can_claim (clusters_of extents) owned ≡ false
claim-failed extents i owned none =
    ap (λ (l : List Extent). can_claim (clusters_of l) owned) (sym (take-append-drop i extents))
    ∙ ap (λ (l : List ℕ). can_claim l owned) (flat_map-append (λ (x : Extent). numbers_from x.first x.count) (take i extents) (drop i extents))
    ∙ cannot_claim-more (clusters_of (take i extents)) (clusters_of (drop i extents)) owned none
