-- The dequeue step on one space, of a call that is outside transactions.
use Rattle.std.specs.Prelude.{ℕ, Bool, true, false, ◌&&◌, if◌then◌else◌, List, [], Option, Some, None}
use Rattle.std.specs.List.{find}
use Rattle.std.specs.Str.{bytes_eq}
use Rattle.tq_types.specs.declared.identifiers.MsgId.{MsgId}
use Rattle.tq_types.specs.declared.identifiers.CorrId.{CorrId}
use Rattle.tq_model.specs.declared.calls.DequeueCall.{DequeueCall}
use Rattle.tq_model.specs.declared.calls.DequeueAsk.{DequeueAsk}
use Rattle.tq_model.specs.declared.calls.CallAnswer.{CallAnswer}
use Rattle.tq_model.specs.declared.calls.CallAnswer.TheVariants.{Dequeued, BadQueue, NoMessage}
use Rattle.tq_model.specs.CallFlags.{wants_id}
use Rattle.tq_model.specs.Space.{Space, Queue, Entry, BodyContent, Here, Stored, same_id, queue_named, space_without, is_eligible, purged}
use Rattle.tq_model.specs.EnqueueStep.{CallOutcome}

-- whether an item has the identifier that is asked for, if one is
abbrev pub has_asked_id : Option MsgId → MsgId → Bool
has_asked_id None id = true
has_asked_id (Some asked) id = same_id id asked

abbrev pub has_asked_corr : Option CorrId → Option CorrId → Bool
has_asked_corr None corr = true
has_asked_corr (Some asked) None = false
has_asked_corr (Some asked) (Some corr) = bytes_eq corr.bytes asked.bytes

abbrev pub is_candidate : DequeueCall → Entry → Bool
is_candidate call item = has_asked_id call.id item.message.id && has_asked_corr call.corr item.message.corr

abbrev pub can_answer : DequeueCall → ℕ → Entry → Bool
can_answer call clock item = is_candidate call item && is_eligible clock item

-- the entry that the call is answered with: the first eligible candidate of the queue
abbrev pub found_in : DequeueCall → ℕ → Option Queue → Option Entry
found_in call clock None = None
found_in call clock (Some queue) = find (can_answer call clock) queue.items

-- the bytes of a body that is kept here
abbrev pub content_bytes : BodyContent → List ℕ
content_bytes (Here bytes) = bytes
content_bytes (Stored n) = []

abbrev pub delivered : DequeueCall → Entry → CallAnswer
delivered call item =
    Dequeued (record {
      body = content_bytes item.message.body;
      urcode = item.message.urcode;
      id = if wants_id call.asked then Some item.message.id else None;
    })

abbrev pub dequeue_answer : DequeueCall → Option Queue → Option Entry → CallAnswer
dequeue_answer call None found = BadQueue
dequeue_answer call (Some queue) None = NoMessage
dequeue_answer call (Some queue) (Some item) = delivered call item

-- a peek leaves the entry, another call removes it
abbrev pub taken_from : Space → DequeueCall → Option Entry → Space
taken_from s call None = s
taken_from s call (Some item) = if call.peek then s else space_without item.message.id s

-- The step: the space is purged, and the first eligible candidate is handed out.
abbrev pub dequeue_step : Space → DequeueAsk → CallOutcome
dequeue_step before ask =
    let s = purged ask.clock before in
    let queue = queue_named ask.call.queue s.queues in
    let found = found_in ask.call ask.clock queue in
    record { space = taken_from s ask.call found; answer = dequeue_answer ask.call queue found }

-- The refusal, where no entry answers the call.
abbrev pub refusal_at : Option Queue → Option Entry → Option CallAnswer
refusal_at None found = Some BadQueue
refusal_at (Some queue) None = Some NoMessage
refusal_at (Some queue) (Some item) = None

abbrev pub dequeue_refusal : Space → DequeueAsk → Option CallAnswer
dequeue_refusal before ask =
    let s = purged ask.clock before in
    let queue = queue_named ask.call.queue s.queues in
    refusal_at queue (found_in ask.call ask.clock queue)
