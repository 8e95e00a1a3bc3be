use Rattle.std.proofs.Common.{◌≡◌, ◌≤◌, reverse, vec_len}
use Rattle.tq_model.specs.Moves.{moved_by}
use Rattle.tq_space.specs.Plain.{CanMoveBy}
use Rattle.tq_space.proofs.space.Space.make_all.Given as goal

abbrev pub invariant-loop-item : goal.invariant-loop-item
invariant-loop-item l =
    (moved_by (reverse l.left.items) l.self.held ≡ moved_by l.fn.moves l.fn.self.held)
    × CanMoveBy (reverse l.left.items) l.self.held × (vec_len l.left ≤ l.self.ready)

abbrev pub decreases-loop-item : goal.decreases-loop-item
decreases-loop-item l = goal.left-loop-item l
