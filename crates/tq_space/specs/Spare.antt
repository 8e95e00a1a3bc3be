-- Lists for the keys of queues to come.
use Rattle.std.specs.Prelude.{◌≡◌, ℕ, ◌+◌, ◌≤◌, [], Vec, vec_len, vec_capacity}
use Rattle.std.specs.List.{All}
use Rattle.std.specs.declared.alloc.Global.{Global}

-- an empty list with room for so many keys
pub record IsSpare (ready : ℕ) (keys : Vec ℕ Global) : Type 0 where
  pub empty : keys.items ≡ []
  pub room : vec_len keys + ready ≤ vec_capacity keys

-- so many lists, each with room for so many keys
pub record HasSpare (ready : ℕ) (spare : Vec (Vec ℕ Global) Global) : Type 0 where
  pub count : ready ≤ vec_len spare
  pub each : All (IsSpare ready) spare.items
