-- The calls that are to fail.
use Rattle.std.specs.Prelude.{◌≡◌, ◌⊎◌, ℕ, [], ◌∷◌, ◌++◌, get_or, set, Contains}
use Rattle.tq_host.specs.declared.kind.CallKind.{CallKind}
use Rattle.tq_host.specs.declared.plan.Planned.{Planned}
use Rattle.tq_host.specs.declared.plan.Planned.TheVariants.{Call, OfKind}
use Rattle.tq_host.specs.declared.plan.Plan.{Plan}
use Rattle.tq_host.specs.Calls.{next_count}
use Rattle.tq_host.specs.Kinds.{number_of}

-- how many calls of this kind were made
abbrev pub made_of : Plan → CallKind → ℕ
made_of plan kind = get_or plan.by_kind (number_of kind) 0

-- the next call, of this kind, is to fail
abbrev pub IsToFail : Plan → CallKind → Type 0
IsToFail plan kind = Contains plan.planned.items (Call plan.made) ⊎ Contains plan.planned.items (OfKind kind (made_of plan kind))

-- a call of this kind was made
abbrev pub made : CallKind → Plan → Plan
made kind plan = record plan { made = next_count plan.made; by_kind = set plan.by_kind (number_of kind) (next_count (made_of plan kind)) }

-- the same calls were made
pub record IsMadeSame (old new : Plan) : Type 0 where
  pub made : new.made ≡ old.made
  pub by_kind : new.by_kind ≡ old.by_kind

pub record IsPlanSame (old new : Plan) : Type 0 where
  pub calls : IsMadeSame old new
  pub planned : new.planned.items ≡ old.planned.items

-- one more call is to fail
pub record IsPlanAdded (planned : Planned) (old new : Plan) : Type 0 where
  pub calls : IsMadeSame old new
  pub added : new.planned.items ≡ old.planned.items ++ planned ∷ []
