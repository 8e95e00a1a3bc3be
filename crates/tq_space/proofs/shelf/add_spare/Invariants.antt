use Rattle.std.proofs.Common.{ℕ, ◌≤◌, ◌-◌, vec_len}
use Rattle.std.specs.List.{All}
use Rattle.tq_space.specs.Spare.{IsSpare, HasSpare}
use Rattle.tq_space.proofs.shelf.add_spare.Given as goal

abbrev pub invariant-loop-alloc : goal.invariant-loop-alloc
invariant-loop-alloc l = record {
  kept : (n : ℕ) → n ≤ l.more → HasSpare n l.initial.spare → HasSpare n l.spare;
  added : All (IsSpare l.more) l.initial.spare.items → All (IsSpare l.more) l.spare.items;
}

abbrev pub decreases-loop-alloc : goal.decreases-loop-alloc
decreases-loop-alloc l = l.more - vec_len l.spare
