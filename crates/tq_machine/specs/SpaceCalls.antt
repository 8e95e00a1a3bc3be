-- A call on a space as the machine takes it, and what comes of it.
use Rattle.std.specs.Prelude.{◌≡◌, ◌≤◌, ℕ, List, false, None}
use Rattle.tq_types.specs.declared.identifiers.Arrival.{Arrival}
use Rattle.tq_machine.specs.declared.space_call.SpaceCall.{SpaceCall}
use Rattle.tq_machine.specs.declared.space_call.SpaceCall.TheVariants.{Queue, Enqueue, Dequeue}
use Rattle.tq_machine.specs.declared.space_call.Reply.{Reply}
use Rattle.tq_model.specs.declared.calls.EnqueueWords.{EnqueueWords}
use Rattle.tq_model.specs.declared.calls.DequeueWords.{DequeueWords}
use Rattle.tq_model.specs.declared.calls.EnqueueAsk.{EnqueueAsk}
use Rattle.tq_model.specs.declared.calls.DequeueAsk.{DequeueAsk}
use Rattle.tq_model.specs.CallChecks.{enqueue_call, dequeue_call}
use Rattle.tq_model.specs.Space.{Space}
use Rattle.tq_model.specs.Site.{SpaceOnDevice}
use Rattle.tq_model.specs.Step.{SpaceOutcome, LoggedOutcome, queue_outcome, enqueue_outcome, dequeue_outcome, through_log, with_outcome}

-- what words ask for outside transactions, at this clock
abbrev pub enqueue_asked : EnqueueWords → ℕ → Arrival → EnqueueAsk
enqueue_asked w clock next = record { call = enqueue_call w clock; clock = clock; owner = None; transactional = false; heuristic = 0; next = next }

abbrev pub dequeue_asked : DequeueWords → ℕ → DequeueAsk
dequeue_asked w clock = record { call = dequeue_call w; clock = clock; owner = None; transactional = false; heuristic = 0 }

abbrev pub space_name : SpaceCall → List ℕ
space_name (Queue c) = c.now.space
space_name (Enqueue e) = e.words.now.space
space_name (Dequeue e) = e.words.now.space

abbrev pub outcome_of : SpaceCall → Space → SpaceOutcome
outcome_of (Queue c) s = queue_outcome c.now.queue s
outcome_of (Enqueue e) s = enqueue_outcome (enqueue_asked e.words.now e.clock e.next) s
outcome_of (Dequeue e) s = dequeue_outcome (dequeue_asked e.words.now e.clock) s

abbrev pub logged_outcome : SpaceCall → SpaceOnDevice → LoggedOutcome
logged_outcome call p = through_log p.pages p.logged p.space (outcome_of call p.space)

abbrev pub after_call : SpaceCall → SpaceOnDevice → SpaceOnDevice
after_call call p = with_outcome (logged_outcome call p) p

-- the reply tells what came of the call
pub record IsReply (o : LoggedOutcome) (reply : Reply) : Type 0 where
  pub answer : reply.answer ≡ o.answer
  pub numbers : reply.numbers ≡ o.numbers
  pub few : reply.numbers ≤ 1
