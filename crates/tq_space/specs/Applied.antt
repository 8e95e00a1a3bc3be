-- What a plan makes of a space.
use Rattle.tq_model.specs.Moves.{IndexedSpace, moved_by, purged_of}
use Rattle.tq_space.specs.declared.plans.Plan.{Plan}

-- the purge, and then the moves
abbrev pub plan_applied : Plan → IndexedSpace → IndexedSpace
plan_applied plan s = moved_by plan.moves (purged_of plan.purge s)
