-- The label order is a total order, and never takes two messages for one.
use Rattle.std.proofs.Common.{◌≡◌, ℕ, Bool, true, false, Option, Some, None, List, [], ◌∷◌, Ordering, Less, Equal, Greater, refl, sym, ap, ◌∙◌, ◌++◌, ◌-◌, length, arith, length-append}
use Rattle.std.specs.Ordering.{nat_cmp, ordering_then, ordering_reverse}
use Rattle.std.specs.Cmp.{IsTotalOrder}
use Rattle.std.specs.Cmp.Lexicographic.{slice_cmp}
use Rattle.std.proofs.lemmas.Cmp.{ranked, nat_cmp_total, on_total, then_total, back_total, lists_total, tied_itself}
use Rattle.std.proofs.lemmas.List.{get_or_push}
use Rattle.tq_types.specs.Label.{arrival_cmp, none_last_cmp, criterion_cmp, criteria_cmp, last_cmp, cmp_by_test, root_cmp, path_cmp, label_cmp}
use Rattle.tq_types.specs.Placed.{own_arrival, placed_before}
use Rattle.tq_types.specs.declared.identifiers.Arrival.{Arrival}
use Rattle.tq_types.specs.declared.orders.Criterion.{Criterion}
use Rattle.tq_types.specs.declared.orders.Criterion.TheVariants.{Priority, Time, Expiration}
use Rattle.tq_types.specs.declared.orders.Last.{Last}
use Rattle.tq_types.specs.declared.orders.Last.TheVariants.{Fifo, Lifo}
use Rattle.tq_types.specs.declared.orders.Order.{Order}
use Rattle.tq_types.specs.declared.labels.Root.{Root}
use Rattle.tq_types.specs.declared.labels.Label.{Label}

-- ---- values before none

module _ {X : Type 0} {R : X → X → Ordering} (o : IsTotalOrder R) where
  turned : (x y : Option X) → none_last_cmp R x y ≡ ordering_reverse (none_last_cmp R y x)
  turned (Some x) (Some y) = o.antisymm x y
  turned (Some x) None = refl
  turned None (Some y) = refl
  turned None None = refl

  chained : (x y z : Option X) → none_last_cmp R x y ≡ Less → none_last_cmp R y z ≡ Less → none_last_cmp R x z ≡ Less
  chained (Some x) (Some y) (Some z) h g = o.trans x y z h g
  chained (Some x) (Some y) None h g = refl
  chained (Some x) None (Some z) h g = cc
  chained (Some x) None None h g = cc
  chained None (Some y) z h g = cc
  chained None None z h g = cc

  alike : (x y z : Option X) → none_last_cmp R x y ≡ Equal → none_last_cmp R x z ≡ none_last_cmp R y z
  alike (Some x) (Some y) (Some z) h = o.congr x y z h
  alike (Some x) (Some y) None h = refl
  alike (Some x) None z h = cc
  alike None (Some y) z h = cc
  alike None None z h = refl

  pub none_last_total : IsTotalOrder (none_last_cmp R)
  none_last_total = record { antisymm = turned; trans = chained; congr = alike }

-- ---- a test first

by_test-turned : (b c : Bool) (r r' s s' : Ordering) → r ≡ ordering_reverse r' → s ≡ ordering_reverse s'
    → cmp_by_test b c r s ≡ ordering_reverse (cmp_by_test c b r' s')
by_test-turned true true r r' s s' h g = h
by_test-turned true false r r' s s' h g = refl
by_test-turned false true r r' s s' h g = refl
by_test-turned false false r r' s s' h g = g

by_test-chained : (b c d : Bool) (xy yz xz xy' yz' xz' : Ordering) → (xy ≡ Less → yz ≡ Less → xz ≡ Less) → (xy' ≡ Less → yz' ≡ Less → xz' ≡ Less)
    → cmp_by_test b c xy xy' ≡ Less → cmp_by_test c d yz yz' ≡ Less → cmp_by_test b d xz xz' ≡ Less
by_test-chained true true true xy yz xz xy' yz' xz' f f' h g = f h g
by_test-chained true true false xy yz xz xy' yz' xz' f f' h g = refl
by_test-chained true false true xy yz xz xy' yz' xz' f f' h g = cc
by_test-chained true false false xy yz xz xy' yz' xz' f f' h g = refl
by_test-chained false true d xy yz xz xy' yz' xz' f f' h g = cc
by_test-chained false false true xy yz xz xy' yz' xz' f f' h g = cc
by_test-chained false false false xy yz xz xy' yz' xz' f f' h g = f' h g

by_test-alike : (b c d : Bool) (xy xz yz xy' xz' yz' : Ordering) → (xy ≡ Equal → xz ≡ yz) → (xy' ≡ Equal → xz' ≡ yz')
    → cmp_by_test b c xy xy' ≡ Equal → cmp_by_test b d xz xz' ≡ cmp_by_test c d yz yz'
by_test-alike true true true xy xz yz xy' xz' yz' f f' h = f h
by_test-alike true true false xy xz yz xy' xz' yz' f f' h = refl
by_test-alike true false d xy xz yz xy' xz' yz' f f' h = cc
by_test-alike false true d xy xz yz xy' xz' yz' f f' h = cc
by_test-alike false false true xy xz yz xy' xz' yz' f f' h = refl
by_test-alike false false false xy xz yz xy' xz' yz' f f' h = f' h

pub by_test_total : {K : Type 0} (p : K → Bool) {R S : K → K → Ordering} → IsTotalOrder R → IsTotalOrder S
    → IsTotalOrder (λ x y. cmp_by_test (p x) (p y) (R x y) (S x y))
by_test_total p {R} {S} r s =
    record {
      antisymm = λ x y. by_test-turned (p x) (p y) (R x y) (R y x) (S x y) (S y x) (r.antisymm x y) (s.antisymm x y);
      trans = λ x y z. by_test-chained (p x) (p y) (p z) (R x y) (R y z) (R x z) (S x y) (S y z) (S x z) (r.trans x y z) (s.trans x y z);
      congr = λ x y z. by_test-alike (p x) (p y) (p z) (R x y) (R x z) (R y z) (S x y) (S x z) (S y z) (r.congr x y z) (s.congr x y z);
    }

-- ---- the comparisons of labels

pub arrival_total : IsTotalOrder arrival_cmp
arrival_total = then_total (on_total (λ a. a.epoch) nat_cmp_total) (on_total (λ a. a.number) nat_cmp_total)

pub criterion_total : (criterion : Criterion) → IsTotalOrder (criterion_cmp criterion)
criterion_total Priority = back_total (on_total (λ r. r.priority) nat_cmp_total)
criterion_total Time = on_total (λ r. r.available) nat_cmp_total
criterion_total Expiration = on_total (λ r. r.expiration) (none_last_total nat_cmp_total)

pub criteria_total : (criteria : List Criterion) → IsTotalOrder (criteria_cmp criteria)
criteria_total [] = record { antisymm = λ x y. refl; trans = λ x y z h g. h; congr = λ x y z h. refl }
criteria_total (criterion ∷ criteria) = then_total (criterion_total criterion) (criteria_total criteria)

pub last_total : (last : Last) → IsTotalOrder (last_cmp last)
last_total Fifo = arrival_total
last_total Lifo = back_total arrival_total

pub root_total : (order : Order) → IsTotalOrder (root_cmp order)
root_total order =
    by_test_total (λ r. r.top) (back_total (on_total (λ r. r.arrival) arrival_total))
    (then_total (criteria_total order.criteria) (on_total (λ r. r.arrival) (last_total order.last)))

-- a path with an end behind it, which comes last
ended : List Arrival → List (Option Arrival)
ended [] = None ∷ []
ended (x ∷ xs) = Some x ∷ ended xs

path-ended : (a b : List Arrival) → path_cmp a b ≡ slice_cmp (none_last_cmp arrival_cmp) (ended a) (ended b)
unfolding ended
path-ended [] [] = refl
path-ended [] (y ∷ ys) = refl
path-ended (x ∷ xs) [] = refl
path-ended (x ∷ xs) (y ∷ ys) = ap (ordering_then (arrival_cmp x y)) (path-ended xs ys)

pub path_total : IsTotalOrder path_cmp
path_total =
    let o = lists_total (none_last_total arrival_total) in
    record {
      antisymm = λ x y. path-ended x y ∙ o.antisymm (ended x) (ended y) ∙ ap ordering_reverse (sym (path-ended y x));
      trans = λ x y z h g.
          path-ended x z ∙ o.trans (ended x) (ended y) (ended z) (sym (path-ended x y) ∙ h) (sym (path-ended y z) ∙ g);
      congr = λ x y z h. path-ended x z ∙ o.congr (ended x) (ended y) (ended z) (sym (path-ended x y) ∙ h) ∙ sym (path-ended y z);
    }

-- the label order of any queue is total: turned round it gives the other answer, it chains, and labels that it does not tell apart are alike to every third
pub label_total : (order : Order) → IsTotalOrder (label_cmp order)
unfolding label_cmp
label_total order = then_total (on_total (λ l. l.root) (root_total order)) (on_total (λ l. l.path) path_total)

-- ---- what the order does not tell apart

then-equal : (r s : Ordering) → ordering_then r s ≡ Equal → (r ≡ Equal) × (s ≡ Equal)
then-equal Less s h = cc
then-equal Equal s h = (refl, h)
then-equal Greater s h = cc

nat-equal : (x y : ℕ) → nat_cmp x y ≡ Equal → x ≡ y
nat-equal x y h = ranked x y Equal (sym h)

pub arrival-equal : (a b : Arrival) → arrival_cmp a b ≡ Equal → a ≡ b
arrival-equal a b h =
    let parts = then-equal (nat_cmp a.epoch b.epoch) (nat_cmp a.number b.number) h in
    let epoch = nat-equal a.epoch b.epoch parts.0 in
    let number = nat-equal a.number b.number parts.1 in
    λ i. record { epoch = epoch i; number = number i }

pub path-equal : (a b : List Arrival) → path_cmp a b ≡ Equal → a ≡ b
path-equal [] [] h = refl
path-equal [] (y ∷ ys) h = cc
path-equal (x ∷ xs) [] h = cc
path-equal (x ∷ xs) (y ∷ ys) h =
    let parts = then-equal (arrival_cmp x y) (path_cmp xs ys) h in
    let first = arrival-equal x y parts.0 in
    let rest = path-equal xs ys parts.1 in
    λ i. first i ∷ rest i

last-equal : (last : Last) (a b : Arrival) → last_cmp last a b ≡ Equal → a ≡ b
last-equal Fifo a b h = arrival-equal a b h
last-equal Lifo a b h = sym (arrival-equal b a h)

by_test-equal : (b c : Bool) (r s : Ordering) {P : Type 0} → cmp_by_test b c r s ≡ Equal → (r ≡ Equal → P) → (s ≡ Equal → P) → (b ≡ c) × P
by_test-equal true true r s h f g = (refl, f h)
by_test-equal true false r s h f g = cc
by_test-equal false true r s h f g = cc
by_test-equal false false r s h f g = (refl, g h)

pub root-equal : (order : Order) (a b : Root) → root_cmp order a b ≡ Equal → (a.top ≡ b.top) × (a.arrival ≡ b.arrival)
root-equal order a b h =
    by_test-equal a.top b.top (arrival_cmp b.arrival a.arrival)
    (ordering_then (criteria_cmp order.criteria a b) (last_cmp order.last a.arrival b.arrival)) h
    (λ e. sym (arrival-equal b.arrival a.arrival e))
    (λ e. last-equal order.last a.arrival b.arrival
    (then-equal (criteria_cmp order.criteria a b) (last_cmp order.last a.arrival b.arrival) e).1)

-- labels that the order does not tell apart have roots of one arrival, both on top or neither, and one path
pub label-equal : (order : Order) (a b : Label) → label_cmp order a b ≡ Equal
    → (a.root.top ≡ b.root.top) × (a.root.arrival ≡ b.root.arrival) × (a.path ≡ b.path)
unfolding label_cmp
label-equal order a b h =
    let parts = then-equal (root_cmp order a.root b.root) (path_cmp a.path b.path) h in
    let root = root-equal order a.root b.root parts.0 in
    (root.0, root.1, path-equal a.path b.path parts.1)

-- so they place one message
pub own-equal : (order : Order) (a b : Label) → label_cmp order a b ≡ Equal → own_arrival a ≡ own_arrival b
own-equal order a b h = let same = label-equal order a b h in cc

-- ---- a message that is placed before another

longer-first : (path : List Arrival) (a : Arrival) → path_cmp (path ++ a ∷ []) path ≡ Less
longer-first [] a = refl
longer-first (x ∷ path) a = ap (λ o. ordering_then o (path_cmp (path ++ a ∷ []) path)) (tied_itself arrival_total x) ∙ longer-first path a

pub placed-first : (order : Order) (label : Label) (a : Arrival) → label_cmp order (placed_before label a) label ≡ Less
unfolding label_cmp
placed-first order label a =
    ap (λ o. ordering_then o (path_cmp (label.path ++ a ∷ []) label.path)) (tied_itself (root_total order) label.root)
    ∙ longer-first label.path a

pub own_arrival-placed : (label : Label) (a : Arrival) → own_arrival (placed_before label a) ≡ a
own_arrival-placed label a =
    let long : length label.path ≡ length (label.path ++ a ∷ []) - 1 = omega (arith, length-append label.path (a ∷ [])) in
    get_or_push label.path a label.root.arrival (length (label.path ++ a ∷ []) - 1) long
