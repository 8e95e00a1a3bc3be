-- Plans that the log of a space takes.
use Rattle.std.specs.Prelude.{◌≡◌, ◌≤◌, ℕ, ◌+◌, [], ◌∷◌}
use Rattle.tq_types.specs.declared.identifiers.Arrival.{Arrival}
use Rattle.tq_model.specs.declared.space.SpaceMove.{SpaceMove}
use Rattle.tq_model.specs.Moves.{IndexedSpace}
use Rattle.tq_model.specs.Plain.{KeepsAllAtCrash, IsNewer}
use Rattle.tq_model.specs.SpaceLog.{IsSaid, size_in_log, CanFollowBy}
use Rattle.tq_space.specs.declared.plans.Plan.{Plan}
use Rattle.tq_space.specs.Applied.{plan_applied}
use Rattle.tq_space.specs.Plain.{CanMove}

-- No purge, and one move, which can be made now and which a payload says.
pub record IsLoggable (s : IndexedSpace) (plan : Plan) : Type 0 where
  pub purge : plan.purge ≡ []
  pub move : SpaceMove
  pub moves : plan.moves ≡ move ∷ []
  pub can : CanMove move s
  pub said : IsSaid s move

-- the bytes that it takes of the log, beside its gate and its length
abbrev pub size_of : Plan → ℕ
size_of plan = size_in_log plan.moves

-- it may come next in a log whose epochs are up to this one
abbrev pub MayFollow : ℕ → IndexedSpace → Plan → Type 0
MayFollow epoch s plan = CanFollowBy epoch s plan.moves

-- The log takes the plan, in so many bytes; a crash after it changes nothing. Where the next arrival is newer than all of the space, the plan may come next, and once
-- it has taken so many numbers, the next arrival is newer again.
pub record IsDurable (next : Arrival) (bytes numbers : ℕ) (s : IndexedSpace) (plan : Plan) : Type 0 where
  pub loggable : IsLoggable s plan
  pub size : size_of plan ≡ bytes
  pub follows : 1 ≤ next.epoch → IsNewer next.epoch next.number s → MayFollow next.epoch s plan
  pub lasts : KeepsAllAtCrash s → KeepsAllAtCrash (plan_applied plan s)
  pub newer : IsNewer next.epoch next.number s → IsNewer next.epoch (next.number + numbers) (plan_applied plan s)
