-- What `==` says of two paths.
use Rattle.std.proofs.Common.{◌≡◌, List, refl, ap, eqb, eqb-true, eq-eqb}
use Rattle.std.specs.Bool.{Decides}
use Rattle.std.proofs.lemmas.Bool.{and_parts, and_from}
use Rattle.std.proofs.lemmas.Slice.Eq.{slice_eq-Decides}
use Rattle.tq_types.specs.Path.{arrival_eq, path_eq}
use Rattle.tq_types.specs.declared.identifiers.Arrival.{Arrival}

pub arrival_eq-Decides : (a b : Arrival) → Decides (arrival_eq a b) (a ≡ b)
arrival_eq-Decides a b = (
  λ e.
      let parts = and_parts (eqb a.epoch b.epoch) (eqb a.number b.number) e in
      let epoch = eqb-true a.epoch b.epoch parts.0 in
      let number = eqb-true a.number b.number parts.1 in
      λ i. record { epoch = epoch i; number = number i },
  λ e.
      and_from (eqb a.epoch b.epoch) (eqb a.number b.number) (eq-eqb a.epoch b.epoch (ap (λ (x : Arrival). x.epoch) e))
      (eq-eqb a.number b.number (ap (λ (x : Arrival). x.number) e)),
)

pub path_eq-Decides : (a b : List Arrival) → Decides (path_eq a b) (a ≡ b)
path_eq-Decides a b = slice_eq-Decides arrival_eq-Decides a b (path_eq a b) refl
