-- What an order is: its criteria, the most significant first, and how the arrivals decide.
use Rattle.std.specs.Prelude.{List}
use Rattle.tq_types.specs.declared.orders.Criterion.{Criterion}
use Rattle.tq_types.specs.declared.orders.Last.{Last}

pub record OrderValue : Type 0 where
  pub criteria : List Criterion
  pub last : Last
