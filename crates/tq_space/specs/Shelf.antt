-- The queues of a space as keys of entries.
use Rattle.std.specs.Prelude.{◌≡◌, ℕ, ◌+◌, ◌≤◌, ◌==◌, List, map, Option, vec_len, vec_capacity}
use Rattle.std.specs.List.{count_by, sum_by}
use Rattle.tq_types.specs.declared.messages.Entry.{Entry}
use Rattle.slab.specs.Slab.{slab_len}
use Rattle.tq_model.specs.Moves.{IndexedQueue, queue_of}
use Rattle.tq_space.specs.declared.shelf.HeldQueue.{HeldQueue}
use Rattle.tq_space.specs.declared.shelf.Shelf.TheInside.{Inside}
use Rattle.tq_space.specs.State.{ShelfValue}
use Rattle.tq_space.specs.Grown.{HasRoomIn}
use Rattle.tq_space.specs.Spare.{HasSpare}
use Rattle.tq_space.specs.Slots.{slot_at, entry_at, slot_count, IsPlainSlot}

abbrev pub indexed_at : List (Option Entry) → HeldQueue → IndexedQueue
indexed_at slots q = record { index = q.index; queue = queue_of q.def (map (entry_at slots) q.keys.items) }

-- how often a key is listed
abbrev pub key_count : ℕ → List HeldQueue → ℕ
key_count key queues = sum_by (λ q. count_by (λ k. k == key) q.keys.items) queues

-- each key is listed once where it has an entry, and else not; no index stands twice
pub record IsListed (slots : List (Option Entry)) (queues : List HeldQueue) : Type 0 where
  pub keys : (key : ℕ) → key_count key queues ≡ slot_count (slot_at slots key)
  pub indices : (index : ℕ) → count_by (λ q. q.index == index) queues ≤ 1
  pub plain : (key : ℕ) → IsPlainSlot (slot_at slots key)

-- there is room for as many moves as are ready, and for the keys of as many new queues
pub record IsShelf (s : Inside) : Type 0 where
  pub listed : IsListed s.entries.slots s.queues.items
  pub entry_room : slab_len s.entries + s.ready ≤ s.entries.capacity
  pub key_room : HasRoomIn s.ready s.queues.items
  pub queue_room : vec_len s.queues + s.ready ≤ vec_capacity s.queues
  pub spare : HasSpare s.ready s.spare

abbrev pub shelf_view : Inside → ShelfValue
shelf_view s = record { queues = map (indexed_at s.entries.slots) s.queues.items; ready = s.ready }
