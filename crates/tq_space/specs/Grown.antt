-- Queues whose keys got more room.
use Rattle.std.specs.Prelude.{◌≡◌, ℕ, ◌+◌, ◌≤◌, ◌<◌, List, length, slice_index_or, vec_len, vec_capacity}
use Rattle.std.specs.List.{All}
use Rattle.tq_space.specs.declared.shelf.HeldQueue.{HeldQueue}

-- the same queue, with as much room or more
pub record IsGrown (q q' : HeldQueue) : Type 0 where
  pub index : q'.index ≡ q.index
  pub def : q'.def ≡ q.def
  pub keys_are : q'.keys.items ≡ q.keys.items
  pub len : vec_len q'.keys ≡ vec_len q.keys
  pub room : vec_capacity q.keys ≤ vec_capacity q'.keys

pub record AreGrown (queues queues' : List HeldQueue) : Type 0 where
  pub long : length queues' ≡ length queues
  pub each : (k : ℕ) (d : HeldQueue) → k < length queues → IsGrown (slice_index_or queues k d) (slice_index_or queues' k d)

-- each queue has room for so many more keys
abbrev pub HasRoomIn : ℕ → List HeldQueue → Type 0
HasRoomIn ready queues = All (λ q. vec_len q.keys + ready ≤ vec_capacity q.keys) queues
