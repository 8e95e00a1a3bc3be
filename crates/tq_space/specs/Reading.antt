-- What a shelf tells of a queue.
use Rattle.std.specs.Prelude.{ℕ, Option, Some, None}
use Rattle.std.specs.List.{find}
use Rattle.tq_model.specs.declared.calls.DequeueCall.{DequeueCall}
use Rattle.tq_model.specs.Space.{Entry}
use Rattle.tq_model.specs.Moves.{IndexedQueue}
use Rattle.tq_model.specs.DequeueStep.{can_answer}
use Rattle.tq_space.specs.declared.shelf.Named.{Named}

abbrev pub named_of : IndexedQueue → Named
named_of q = record { index = q.index; qos = q.queue.qos }

abbrev pub answer_in : DequeueCall → ℕ → Option IndexedQueue → Option Entry
answer_in call clock None = None
answer_in call clock (Some q) = find (can_answer call clock) q.queue.items
