use Rattle.std.proofs.Common.{ℕ, ◌<◌, ◌≤◌, ◌+◌, get_or, vec_len, vec_capacity}
use Rattle.tq_space.specs.declared.shelf.HeldQueue.{HeldQueue}
use Rattle.tq_space.specs.Grown.{AreGrown}
use Rattle.tq_space.proofs.shelf.reserve_keys.Given as goal

abbrev pub invariant-loop-at : goal.invariant-loop-at
invariant-loop-at l =
    AreGrown l.initial.queues l.queues
    × ((k : ℕ) (d : HeldQueue) → k < l.at → vec_len (get_or l.queues k d).keys + l.more ≤ vec_capacity (get_or l.queues k d).keys)
