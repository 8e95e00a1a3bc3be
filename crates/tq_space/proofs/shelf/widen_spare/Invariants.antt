use Rattle.std.proofs.Common.{ℕ, ◌<◌, get_or}
use Rattle.std.specs.Prelude.{Vec}
use Rattle.std.specs.List.{All}
use Rattle.std.specs.declared.alloc.Global.{Global}
use Rattle.tq_space.specs.Spare.{IsSpare}
use Rattle.tq_space.proofs.shelf.widen_spare.Given as goal

abbrev pub invariant-loop-at : goal.invariant-loop-at
invariant-loop-at l = record {
  kept : (n : ℕ) → All (IsSpare n) l.initial.spare → All (IsSpare n) l.spare;
  room : (n : ℕ) → All (IsSpare n) l.initial.spare → (k : ℕ) (d : Vec ℕ Global) → k < l.at → IsSpare l.more (get_or l.spare k d);
}
