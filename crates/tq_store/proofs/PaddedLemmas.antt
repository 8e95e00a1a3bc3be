-- Numbers and runs that stand behind others.
use Rattle.std.proofs.Common.{◌≡◌, inl, inr, ◌<◌, ◌≤◌, ℕ, ◌+◌, ◌-◌, ◌^◌, List, ◌++◌, length, get_or, take, drop, refl, sym, ap, subst, ◌∙◌, arith}
use Rattle.std.proofs.lemmas.List.{drop-drop, drop-take, take-take, get_or_append_left, get_or-append_right, get_or_past}
use Rattle.tq_host.proofs.Bytes.{before_or_after}
use Rattle.tq_field.specs.Digits.{digits}
use Rattle.tq_field.specs.Places.{run_at, number_at, with_run}
use Rattle.tq_field.proofs.Runs.{number_at-here, get_or-with_run, get_or-with_run_below, get_or-with_run_above}
use Rattle.tq_store.specs.Page.{IsZeroPadded}

-- a number whose digits stand behind these bytes
pub number_behind : (at width x : ℕ) (xs ys all : List ℕ) → all ≡ xs ++ (digits width x ++ ys) → length xs ≡ at → x < 256 ^ width → number_at at width all ≡ x
number_behind at width x xs ys all is long fits = ap (number_at at width) is ∙ number_at-here at width x xs ys long fits

-- a run of a run
pub run_at-run_at : (k m at n : ℕ) (bytes : List ℕ) → k + m ≤ n → run_at k m (run_at at n bytes) ≡ run_at (at + k) m bytes
run_at-run_at k m at n bytes within =
    let e : n ≡ k + (n - k) = omega arith in
    ap (λ (j : ℕ). take m (drop k (take j (drop at bytes)))) e
    ∙ ap (take m) (drop-take k (n - k) (drop at bytes))
    ∙ take-take m (n - k) (drop k (drop at bytes)) (omega arith)
    ∙ ap (take m) (drop-drop k at bytes)

-- zeros behind some bytes are written over
pub put_behind : (at : ℕ) (start run old : List ℕ) → at + length run ≤ length old → length start ≡ at → IsZeroPadded start old
    → IsZeroPadded (start ++ run) (with_run at (length run) run old)
put_behind at start run old within long begins i = elim (before_or_after i at) [
  | inl below ↦
      get_or-with_run_below at (length run) run old i 0 below (omega arith) ∙ begins i
      ∙ sym (get_or_append_left start run 0 i (omega (arith, long)))
  | inr from_at ↦
      let right = get_or-append_right start run at i 0 long from_at in
      elim (before_or_after i (at + length run)) [
        | inl inside ↦
            let split : i ≡ at + (i - at) = omega arith in
            ap (λ j. get_or (with_run at (length run) run old) j 0) split
            ∙ get_or-with_run at (length run) run old (i - at) 0 refl (omega arith) (omega arith) ∙ sym right
        | inr past ↦
            get_or-with_run_above at (length run) run old i 0 refl (omega arith) past ∙ begins i
            ∙ get_or_past start i 0 (omega (arith, long)) ∙ sym (get_or_past run (i - at) 0 (omega arith)) ∙ sym right
      ]
]

-- the same, where the run is known by an equation
pub put_spelt : (at : ℕ) (start run is old new : List ℕ) → ((s : List ℕ) → length s ≡ at → IsZeroPadded s old → IsZeroPadded (s ++ run) new) → run ≡ is
    → length start ≡ at → IsZeroPadded start old → IsZeroPadded (start ++ is) new
put_spelt at start run is old new puts same long begins = subst (λ (r : List ℕ). IsZeroPadded (start ++ r) new) same (puts start long begins)
