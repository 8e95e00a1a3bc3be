-- What is read of the queues of a space.
use Rattle.std.specs.Prelude.{ℕ, ◌≤◌, Bool, List}
use Rattle.std.specs.List.{count_by}
use Rattle.tq_model.specs.Space.{is_named}
use Rattle.tq_model.specs.Moves.{IndexedQueue, has_index}

abbrev pub indexed_named : List ℕ → IndexedQueue → Bool
indexed_named name q = is_named name q.queue

-- no index stands twice
abbrev pub HasDistinctIndices : List IndexedQueue → Type 0
HasDistinctIndices queues = (index : ℕ) → count_by (has_index index) queues ≤ 1
