-- The calls on a space.
use Rattle.std.specs.Prelude.{◌≡◌, ◌≤◌, ℕ, List, false, length}
use Rattle.tq_types.specs.declared.identifiers.Arrival.{Arrival}
use Rattle.tq_model.specs.declared.calls.EnqueueAsk.{EnqueueAsk}
use Rattle.tq_model.specs.declared.calls.DequeueAsk.{DequeueAsk}
use Rattle.tq_model.specs.Space.{Space}
use Rattle.tq_model.specs.SpaceForm.{longest_body}
use Rattle.tq_model.specs.Step.{SpaceOutcome, enqueue_outcome, dequeue_outcome, queue_outcome}
use Rattle.tq_space.specs.Plain.{IsPlainEnqueue, IsPlainDequeue, IsBareEnqueue}
use Rattle.tq_coord.specs.declared.planning.SpaceCall.{SpaceCall}
use Rattle.tq_coord.specs.declared.planning.SpaceCall.TheVariants.{Enqueue, Dequeue, CreateQueue}

-- what the machine's space makes of it
abbrev pub outcome_of : SpaceCall → Space → SpaceOutcome
outcome_of (Enqueue ask) s = enqueue_outcome ask s
outcome_of (Dequeue ask) s = dequeue_outcome ask s
outcome_of (CreateQueue c) s = queue_outcome c.queue s

-- the space
abbrev pub space_name : SpaceCall → List ℕ
space_name (Enqueue ask) = ask.call.space
space_name (Dequeue ask) = ask.call.space
space_name (CreateQueue c) = c.space

-- how many numbers of messages it takes where it is granted
abbrev pub numbers_asked : SpaceCall → ℕ
numbers_asked (Enqueue ask) = 1
numbers_asked (Dequeue ask) = 0
numbers_asked (CreateQueue c) = 0

-- What can be asked for now

-- an enqueue of the message of this arrival: a body that is no longer than a body may be, and nothing beside it
pub record IsAskedEnqueue (next : Arrival) (ask : EnqueueAsk) : Type 0 where
  pub short : length ask.call.body ≤ longest_body
  pub arrival : ask.next ≡ next
  pub clock : ask.clock ≡ 0
  pub plain : IsPlainEnqueue ask
  pub bare : IsBareEnqueue ask.call

-- a dequeue that takes its message
pub record IsAskedDequeue (ask : DequeueAsk) : Type 0 where
  pub takes : ask.call.peek ≡ false
  pub clock : ask.clock ≡ 0
  pub plain : IsPlainDequeue ask

-- what may be asked of the space, when the next message has this arrival
abbrev pub IsAsked : Arrival → SpaceCall → Type 0
IsAsked next (Enqueue ask) = IsAskedEnqueue next ask
IsAsked next (Dequeue ask) = IsAskedDequeue ask
IsAsked next (CreateQueue c) = Unit {0}
