-- The steps in which a device failed, as a run goes on.
use Rattle.std.proofs.Common.{◌≡◌, ◌<◌, ◌≤◌, ℕ, zero, suc, ◌+◌, ◌-◌, List, [], ◌∷◌, ◌++◌, Bool, true, false, cond, refl, sym, ◌∙◌, ap, subst, arith, length, get_or}
use Rattle.std.specs.Prelude.{map, nat_lt, ◌==◌}
use Rattle.std.proofs.lemmas.Bool.Decides.{nat_tests}
use Rattle.tq_host.specs.View.{Stamp, last_count}
use Rattle.tq_host.specs.Calls.{Rose, HasCauseOf}
use Rattle.tq_model.specs.MachineWithFaults.{Trace, Failures, count_before, count_at, rose_at}
use Rattle.tq_run.specs.Failures.{AreFailures}
use Rattle.tq_run.specs.Turns.{Origin, none_failed, trace_from}

abbrev pub faults_of : Stamp → ℕ
faults_of s = s.faults

-- More stamps

pub get_or_told : {A : Type 0} (f : Stamp → A) (xs ys : List Stamp) (k : ℕ) (d e : A) → k < length xs → get_or (map f (xs ++ ys)) k d ≡ get_or (map f xs) k e
get_or_told f [] ys k d e lt = absurd (omega arith)
get_or_told f (x ∷ xs) ys zero d e lt = refl
get_or_told f (x ∷ xs) ys (suc k) d e lt = get_or_told f xs ys k d e (omega arith)

pub get_or_next : {A : Type 0} (f : Stamp → A) (xs ys : List Stamp) (k : ℕ) (d : A) → get_or (map f (xs ++ ys)) (length xs + k) d ≡ get_or (map f ys) k d
get_or_next f [] ys k d = let e : 0 + k ≡ k = omega arith in ap (λ i. get_or (map f ys) i d) e
get_or_next f (x ∷ xs) ys k d = let e : suc (length xs) + k ≡ suc (length xs + k) = omega arith in ap (λ i. get_or (map f (x ∷ (xs ++ ys))) i d) e ∙ get_or_next f xs ys k d

pub count_last : (trace : Trace) (at : ℕ) → 1 ≤ at → count_before trace at ≡ get_or trace.counts (at - 1) trace.after
count_last trace at some = let later : (at == 0) ≡ false = grind (arith, nat_tests) in ap (λ (first : Bool). cond first trace.before (get_or trace.counts (at - 1) trace.after)) later

-- what is told later changes no count that was told
module _ (o : Origin) (before now : ℕ) (added more : List Stamp) where
  pub count_same : (at : ℕ) → at ≤ length added → count_before (trace_from o now (added ++ more)) at ≡ count_before (trace_from o before added) at
  count_same zero le = refl
  count_same (suc at) le = ap (λ k. cond (suc at == 0) o.faults k) (get_or_told faults_of added more (suc at - 1) now before (omega arith))

  at_same : (at : ℕ) → at < length added → count_at (trace_from o now (added ++ more)) at ≡ count_at (trace_from o before added) at
  at_same at lt = get_or_told faults_of added more at now before lt

  rose_same : (at : ℕ) → at < length added → rose_at (trace_from o now (added ++ more)) at ≡ rose_at (trace_from o before added) at
  rose_same at lt = ap (λ k. nat_lt k (count_at (trace_from o now (added ++ more)) at)) (count_same at (omega arith)) ∙ ap (nat_lt (count_before (trace_from o before added) at)) (at_same at lt)

-- What a count tells

told_more : (before now : ℕ) → before < now → nat_lt before now ≡ true
told_more before now lt = grind (arith, nat_tests)

told_rose : (before now : ℕ) → nat_lt before now ≡ true → Rose before now
told_rose before now e = let lt : before < now = grind (arith, nat_tests, e) in omega (arith, lt)

-- below its last value a count tells whether the step failed
choice_told : (b : Bool) (before now : ℕ) → HasCauseOf (b ≡ true) before now → now < last_count → b ≡ nat_lt before now
choice_told true before now cause lt = let rose : Rose before now = cause.rose refl in let more : before < now = omega (arith, rose, lt) in sym (told_more before now more)
choice_told false before now cause lt = of_bool (nat_lt before now) refl
  where
    unlike : false ≡ true → ⊥
    unlike e = cc

    of_bool : (x : Bool) → nat_lt before now ≡ x → false ≡ nat_lt before now
    of_bool false e = sym e
    of_bool true e = let lt : before < now = grind (arith, nat_tests, e) in absurd (unlike (cause.only lt))

-- The steps so far, one more, and behind it what the counts tell.
abbrev pub next_choice : Failures → ℕ → Bool → Trace → ℕ → Bool
next_choice failed n b trace at = cond (nat_lt at n) (failed at) (cond (at == n) b (rose_at trace at))

data Place (at n : ℕ) : Type 0 where
  Ahead : at < n → Place at n
  Here : at ≡ n → Place at n
  Behind : n < at → Place at n

place_of : (at n : ℕ) → Place at n
place_of zero zero = Here refl
place_of zero (suc n) = Ahead (omega arith)
place_of (suc at) zero = Behind (omega arith)
place_of (suc at) (suc n) = on (place_of at n)
  where
    on : Place at n → Place (suc at) (suc n)
    on (Ahead lt) = Ahead (omega (arith, lt))
    on (Here e) = Here (omega (arith, e))
    on (Behind lt) = Behind (omega (arith, lt))

module _ (failed : Failures) (n : ℕ) (b : Bool) (trace : Trace) where
  pub before_next : (at : ℕ) → at < n → next_choice failed n b trace at ≡ failed at
  before_next at lt = let ahead : nat_lt at n ≡ true = grind (arith, nat_tests) in ap (λ (x : Bool). cond x (failed at) (cond (at == n) b (rose_at trace at))) ahead

  pub at_next : next_choice failed n b trace n ≡ b
  at_next =
      let not_ahead : nat_lt n n ≡ false = grind (arith, nat_tests) in
      let here : (n == n) ≡ true = grind (arith, nat_tests) in
      ap (λ (x : Bool). cond x (failed n) (cond (n == n) b (rose_at trace n))) not_ahead ∙ ap (λ (x : Bool). cond x b (rose_at trace n)) here

  behind_next : (at : ℕ) → n < at → next_choice failed n b trace at ≡ rose_at trace at
  behind_next at lt =
      let not_ahead : nat_lt at n ≡ false = grind (arith, nat_tests) in
      let not_here : (at == n) ≡ false = grind (arith, nat_tests) in
      ap (λ (x : Bool). cond x (failed at) (cond (at == n) b (rose_at trace at))) not_ahead ∙ ap (λ (x : Bool). cond x b (rose_at trace at)) not_here

-- what is told of one byte
record Tells (trace : Trace) (b : Bool) (at : ℕ) : Type 0 where
  rose : b ≡ true → Rose (count_before trace at) (count_at trace at)
  only : count_before trace at < count_at trace at → b ≡ true
  told : trace.after < last_count → b ≡ rose_at trace at

by_count : (trace : Trace) (at : ℕ) → Tells trace (rose_at trace at) at
by_count trace at = record { rose = told_rose (count_before trace at) (count_at trace at); only = told_more (count_before trace at) (count_at trace at); told = λ lt. refl }

-- With one more step that failed or not, by the count before it and the count with it.
module _ (o : Origin) (before now : ℕ) (added more : List Stamp) (failed : Failures) (are : AreFailures (trace_from o before added) failed) (later : before ≤ now)
    (b : Bool) (x y : ℕ) (is_x : count_before (trace_from o now (added ++ more)) (length added) ≡ x) (is_y : count_at (trace_from o now (added ++ more)) (length added) ≡ y)
    (cause : HasCauseOf (b ≡ true) x y) (below : y ≤ now) where
  abbrev trace : Trace
  trace = trace_from o now (added ++ more)

  so_far : (at : ℕ) → at < length added → Tells trace (failed at) at
  so_far at lt = record {
    rose = λ e. subst (λ k. Rose k (count_at trace at)) (sym (count_same o before now added more at (omega arith))) (subst (Rose (count_before (trace_from o before added) at)) (sym (at_same o before now added more at lt)) (are.rose at e));
    only = λ rises. are.only at (subst (λ k. k < count_at (trace_from o before added) at) (count_same o before now added more at (omega arith)) (subst (λ k. count_before trace at < k) (at_same o before now added more at lt) rises));
    told = λ low. are.told (omega (arith, low, later)) at ∙ sym (rose_same o before now added more at lt);
  }

  this : Tells trace b (length added)
  this = record {
    rose = λ e. subst (λ k. Rose k (count_at trace (length added))) (sym is_x) (subst (Rose x) (sym is_y) (cause.rose e));
    only = λ rises. cause.only (subst (λ k. k < y) is_x (subst (λ k. count_before trace (length added) < k) is_y rises));
    told = λ low. choice_told b x y cause (omega (arith, low, below)) ∙ ap (λ k. nat_lt k y) (sym is_x) ∙ ap (nat_lt (count_before trace (length added))) (sym is_y);
  }

  tells : (at : ℕ) → Tells trace (next_choice failed (length added) b trace at) at
  tells at = by_place (place_of at (length added))
    where
      by_place : Place at (length added) → Tells trace (next_choice failed (length added) b trace at) at
      by_place (Ahead lt) = subst (λ (c : Bool). Tells trace c at) (sym (before_next failed (length added) b trace at lt)) (so_far at lt)
      by_place (Here e) = subst (λ k. Tells trace (next_choice failed (length added) b trace k) k) (sym e) (subst (λ (c : Bool). Tells trace c (length added)) (sym (at_next failed (length added) b trace)) this)
      by_place (Behind lt) = subst (λ (c : Bool). Tells trace c at) (sym (behind_next failed (length added) b trace at lt)) (by_count trace at)

  pub failures_next : AreFailures (trace_from o now (added ++ more)) (next_choice failed (length added) b (trace_from o now (added ++ more)))
  failures_next = record { rose = λ at. (tells at).rose; only = λ at. (tells at).only; told = λ low at. (tells at).told low }

-- at the start no step failed
pub none_failing : (o : Origin) (now : ℕ) → now ≡ o.faults → AreFailures (trace_from o now []) none_failed
none_failing o now same = record { rose = λ at e. absurd (unlike e); only = λ at lt. absurd (flat at lt); told = λ low at. level at }
  where
    unlike : false ≡ true → ⊥
    unlike e = cc

    equal : (at : ℕ) → count_before (trace_from o now []) at ≡ now
    equal zero = sym same
    equal (suc at) = count_last (trace_from o now []) (suc at) (omega arith)

    flat : (at : ℕ) → count_before (trace_from o now []) at < now → ⊥
    flat at lt = omega (arith, lt, equal at)

    level : (at : ℕ) → false ≡ rose_at (trace_from o now []) at
    level at = sym (ap (λ k. nat_lt k now) (equal at) ∙ (let not : nat_lt now now ≡ false = grind (arith, nat_tests) in not))
