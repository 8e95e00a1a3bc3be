-- What a contract sees of a space.
use Rattle.std.specs.Prelude.{ℕ, List}
use Rattle.tq_model.specs.Moves.{IndexedQueue, IndexedSpace}

-- the queues by name with their indices, and for how many more moves there is room without memory
pub record ShelfValue : Type 0 where
  pub queues : List IndexedQueue
  pub ready : ℕ

-- a space, and for how many more moves there is room without memory
pub record SpaceState : Type 0 where
  pub held : IndexedSpace
  pub ready : ℕ
