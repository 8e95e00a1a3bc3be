-- The order of labels in a queue: the first of the comparisons below that tells two labels apart.
use Rattle.std.specs.Prelude.{Bool, true, false, ℕ, Option, Some, None, List, [], ◌∷◌}
use Rattle.std.specs.declared.cmp.Ordering.{Ordering}
use Rattle.std.specs.declared.cmp.Ordering.TheVariants.{Less, Equal, Greater}
use Rattle.std.specs.Ordering.{nat_cmp, on, flip_args, then_cmp, ordering_then}
use Rattle.tq_types.specs.declared.identifiers.Arrival.{Arrival}
use Rattle.tq_types.specs.declared.orders.Criterion.{Criterion}
use Rattle.tq_types.specs.declared.orders.Criterion.TheVariants.{Priority, Time, Expiration}
use Rattle.tq_types.specs.declared.orders.Last.{Last}
use Rattle.tq_types.specs.declared.orders.Last.TheVariants.{Fifo, Lifo}
use Rattle.tq_types.specs.declared.orders.Order.{Order}
use Rattle.tq_types.specs.declared.labels.Root.{Root}
use Rattle.tq_types.specs.declared.labels.Label.{Label}

-- the older arrival first
abbrev pub arrival_cmp : Arrival → Arrival → Ordering
arrival_cmp = then_cmp (on (λ a. a.epoch) nat_cmp) (on (λ a. a.number) nat_cmp)

-- a value before none
abbrev pub none_last_cmp : {X : Type 0} → (X → X → Ordering) → Option X → Option X → Ordering
none_last_cmp cmp (Some x) (Some y) = cmp x y
none_last_cmp cmp (Some x) None = Less
none_last_cmp cmp None (Some y) = Greater
none_last_cmp cmp None None = Equal

-- the earlier expiration first, and none last
abbrev pub expiration_cmp : Option ℕ → Option ℕ → Ordering
expiration_cmp = none_last_cmp nat_cmp

-- the higher priority, the earlier available time or the earlier expiration first
abbrev pub criterion_cmp : Criterion → Root → Root → Ordering
criterion_cmp Priority = flip_args (on (λ r. r.priority) nat_cmp)
criterion_cmp Time = on (λ r. r.available) nat_cmp
criterion_cmp Expiration = on (λ r. r.expiration) expiration_cmp

-- the criteria in turn
abbrev pub criteria_cmp : List Criterion → Root → Root → Ordering
criteria_cmp [] a b = Equal
criteria_cmp (criterion ∷ criteria) a b = ordering_then (criterion_cmp criterion a b) (criteria_cmp criteria a b)

-- the older arrival first, or the newer
abbrev pub last_cmp : Last → Arrival → Arrival → Ordering
last_cmp Fifo = arrival_cmp
last_cmp Lifo = flip_args arrival_cmp

-- what a test holds of comes first; `both` decides where it holds of the two, `neither` where of none
abbrev pub cmp_by_test : Bool → Bool → Ordering → Ordering → Ordering
cmp_by_test true true both neither = both
cmp_by_test true false both neither = Less
cmp_by_test false true both neither = Greater
cmp_by_test false false both neither = neither

-- roots on top first, the newest of them first; the others by the criteria, and then the arrivals
abbrev pub root_cmp : Order → Root → Root → Ordering
root_cmp order a b =
    cmp_by_test a.top b.top (arrival_cmp b.arrival a.arrival)
    (ordering_then (criteria_cmp order.criteria a b) (last_cmp order.last a.arrival b.arrival))

-- place by place the smaller arrival first; a path that ends comes after one that goes on
abbrev pub path_cmp : List Arrival → List Arrival → Ordering
path_cmp [] [] = Equal
path_cmp [] (y ∷ ys) = Greater
path_cmp (x ∷ xs) [] = Less
path_cmp (x ∷ xs) (y ∷ ys) = ordering_then (arrival_cmp x y) (path_cmp xs ys)

-- the roots, and where they are alike the paths
unfoldable pub label_cmp : Order → Label → Label → Ordering
label_cmp order a b = ordering_then (root_cmp order a.root b.root) (path_cmp a.path b.path)
