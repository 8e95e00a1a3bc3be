-- The paths of labels.
use Rattle.std.specs.Prelude.{Bool, List, ◌==◌}
use Rattle.std.specs.Ordering.{on, eq_of_both}
use Rattle.std.specs.Cmp.Lexicographic.{pointwise}
use Rattle.tq_types.specs.declared.identifiers.Arrival.{Arrival}

abbrev pub unset : Arrival
unset = record { epoch = 0; number = 0 }

-- what `==` answers of two arrivals, and of two paths
abbrev pub arrival_eq : Arrival → Arrival → Bool
arrival_eq = eq_of_both (on (λ a. a.epoch) ◌==◌) (on (λ a. a.number) ◌==◌)

abbrev pub path_eq : List Arrival → List Arrival → Bool
path_eq = pointwise arrival_eq
