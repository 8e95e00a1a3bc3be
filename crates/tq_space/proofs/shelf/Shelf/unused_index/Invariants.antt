use Rattle.std.proofs.Common.{◌≡◌, ℕ, ◌<◌, true}
use Rattle.std.specs.List.{list_any}
use Rattle.tq_model.specs.Moves.{has_index}
use Rattle.tq_space.proofs.shelf.Shelf.unused_index.Given as goal

abbrev pub invariant-loop-index : goal.invariant-loop-index
invariant-loop-index l = (i : ℕ) → i < l.index → list_any (has_index i) l.self.queues ≡ true
