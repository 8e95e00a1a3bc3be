-- There are three criteria, so distinct ones are at most three.
use Rattle.std.proofs.Common.{◌≡◌, ◌≢◌, ◌<◌, ◌≤◌, ℕ, List, [], ◌∷◌, length, Some, refl, ap, arith}
use Rattle.tq_types.specs.declared.orders.Criterion.{Criterion}
use Rattle.tq_types.specs.declared.orders.Criterion.TheVariants.{Priority, Time, Expiration}
use Rattle.tq_types.specs.Order.{IsDistinct}

index : Criterion → ℕ
index Priority = 0
index Time = 1
index Expiration = 2

small : (c : Criterion) → index c < 3
unfolding index
small Priority = omega arith
small Time = omega arith
small Expiration = omega arith

same : (a b : Criterion) → index a ≡ index b → a ≡ b
unfolding index
same Priority Priority e = refl
same Priority Time e = cc
same Priority Expiration e = cc
same Time Priority e = cc
same Time Time e = refl
same Time Expiration e = cc
same Expiration Priority e = cc
same Expiration Time e = cc
same Expiration Expiration e = refl

four : (a b c d : Criterion) → a ≢ b → a ≢ c → a ≢ d → b ≢ c → b ≢ d → c ≢ d → ⊥
four a b c d ab ac ad bc bd cd =
    let p : index a ≢ index b = λ e. ab (same a b e) in
    let q : index a ≢ index c = λ e. ac (same a c e) in
    let r : index a ≢ index d = λ e. ad (same a d e) in
    let s : index b ≢ index c = λ e. bc (same b c e) in
    let t : index b ≢ index d = λ e. bd (same b d e) in
    let u : index c ≢ index d = λ e. cd (same c d e) in
    omega (arith, small a, small b, small c, small d)

pub length-distinct : (criteria : List Criterion) → IsDistinct criteria → length criteria ≤ 3
length-distinct [] h = omega arith
length-distinct (a ∷ []) h = omega arith
length-distinct (a ∷ b ∷ []) h = omega arith
length-distinct (a ∷ b ∷ c ∷ []) h = omega arith
length-distinct (a ∷ b ∷ c ∷ d ∷ rest) h =
    absurd (four a b c d
    (λ e. h 0 1 (omega arith) (omega arith) (ap Some e)) (λ e. h 0 2 (omega arith) (omega arith) (ap Some e))
    (λ e. h 0 3 (omega arith) (omega arith) (ap Some e)) (λ e. h 1 2 (omega arith) (omega arith) (ap Some e))
    (λ e. h 1 3 (omega arith) (omega arith) (ap Some e)) (λ e. h 2 3 (omega arith) (omega arith) (ap Some e)))
