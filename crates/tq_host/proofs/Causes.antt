-- How the causes of failed calls go on from call to call.
use Rattle.std.proofs.Common.{◌≡◌, ◌<◌, ◌≤◌, ℕ, Result, Ok, Err, refl, subst, arith}
use Rattle.std.specs.Prelude.{IsErr}
use Rattle.tq_host.specs.Calls.{HasCause, HasCauseOf}

no_err : (T E : Type 0) (x : T) → IsErr {T = T} {E = E} (Ok x) → ⊥
no_err T E x err = cc

-- no call was made
pub cause_none : {T E : Type 0} (x : T) (n : ℕ) → HasCause {T = T} {E = E} n n (Ok x)
cause_none x n = record { later = omega arith; ok = refl; failed = tt }

-- the same of another value
pub cause_ok : {T E S F : Type 0} (x : T) (y : S) (before now : ℕ) → HasCause {T = T} {E = E} before now (Ok x) → HasCause {T = S} {E = F} before now (Ok y)
cause_ok x y before now cause = record { later = cause.later; ok = cause.ok; failed = tt }

-- `?` hands an error on
pub cause_err : {T E S F : Type 0} (e : E) (f : F) (before now : ℕ) → HasCause {T = T} {E = E} before now (Err e) → HasCause {T = S} {E = F} before now (Err f)
cause_err e f before now cause = record { later = cause.later; ok = tt; failed = cause.failed }

-- a call that answered Ok, and then any other
pub cause_then : {T E S F : Type 0} (x : T) (r : Result S F) (before mid now : ℕ) → HasCause {T = T} {E = E} before mid (Ok x) → HasCause mid now r → HasCause before now r
cause_then x r before mid now first second = subst (λ n. HasCause n now r) first.ok second

-- a call with several answers that did not fail left the count
pub kept_count : (failed : Type 0) (before now : ℕ) → HasCauseOf failed before now → (failed → ⊥) → now ≡ before
kept_count failed before now cause fine = same before now cause.later (λ lt. fine (cause.only lt))
  where
    same : (a b : ℕ) → a ≤ b → (a < b → ⊥) → b ≡ a
    same a b le none = grind (arith, le, none)

-- no call was made, and it did not fail
pub cause_of_none : (failed : Type 0) (n : ℕ) → (failed → ⊥) → HasCauseOf failed n n
cause_of_none failed n fine = record { later = omega arith; rose = λ f. absurd (fine f); only = λ lt. absurd (omega arith) }

-- a call that fails exactly where this one does
pub cause_of_result : {T E : Type 0} (failed : Type 0) (r : Result T E) (before now : ℕ) → HasCause before now r → (failed → IsErr r) → (IsErr r → failed) → HasCauseOf failed before now
cause_of_result {T = T} {E = E} failed (Ok x) before now cause to from = record { later = cause.later; rose = λ f. absurd (no_err T E x (to f)); only = λ lt. absurd (omega (arith, cause.ok)) }
cause_of_result failed (Err e) before now cause to from = record { later = cause.later; rose = λ f. cause.failed; only = λ lt. from refl }

-- one that was handed the error of this call
pub cause_of_err : {T E : Type 0} (failed : Type 0) (e : E) (before now : ℕ) → HasCause {T = T} {E = E} before now (Err e) → failed → HasCauseOf failed before now
cause_of_err failed e before now cause is = record { later = cause.later; rose = λ f. cause.failed; only = λ lt. is }

-- a call that answered Ok, and then any other
pub cause_of_then : {T E : Type 0} (failed : Type 0) (x : T) (before mid now : ℕ) → HasCause {T = T} {E = E} before mid (Ok x) → HasCauseOf failed mid now → HasCauseOf failed before now
cause_of_then failed x before mid now first second = subst (λ n. HasCauseOf failed n now) first.ok second

-- a call with several answers that did not fail, and then any other
pub cause_of_on : (first_failed failed : Type 0) (before mid now : ℕ) → HasCauseOf first_failed before mid → (first_failed → ⊥) → HasCauseOf failed mid now → HasCauseOf failed before now
cause_of_on first_failed failed before mid now first fine second = subst (λ n. HasCauseOf failed n now) (kept_count first_failed before mid first fine) second

-- the same said in other words
pub cause_of_same : (failed other : Type 0) (before now : ℕ) → (failed → other) → (other → failed) → HasCauseOf failed before now → HasCauseOf other before now
cause_of_same failed other before now to from cause = record { later = cause.later; rose = λ f. cause.rose (from f); only = λ lt. to (cause.only lt) }

-- a call whose every error is that the outside failed
pub cause_of_each : {T E : Type 0} (r : Result T E) (before now : ℕ) → HasCauseOf (IsErr r) before now → HasCause before now r
cause_of_each {T = T} {E = E} (Ok x) before now cause = record { later = cause.later; ok = kept_count (IsErr {T = T} {E = E} (Ok x)) before now cause (no_err T E x); failed = tt }
cause_of_each (Err e) before now cause = record { later = cause.later; ok = tt; failed = cause.rose refl }
