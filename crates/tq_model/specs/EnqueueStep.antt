-- The enqueue step on one space, of a call that is outside transactions and placed plainly.
use Rattle.std.specs.Prelude.{pos, false, if◌then◌else◌, [], length, Option, Some, None, option_map}
use Rattle.tq_types.specs.declared.identifiers.Arrival.{Arrival}
use Rattle.tq_types.specs.declared.identifiers.MsgId.{MsgId}
use Rattle.tq_types.specs.declared.labels.Label.{Label}
use Rattle.tq_types.specs.declared.messages.Qos.{Qos}
use Rattle.tq_types.specs.declared.messages.Qos.TheVariants as qualities
use Rattle.tq_types.specs.declared.messages.AskedQos.{AskedQos}
use Rattle.tq_types.specs.declared.messages.AskedQos.TheVariants.{Default, Persistent, NonPersistent}
use Rattle.tq_model.specs.declared.calls.EnqueueCall.{EnqueueCall}
use Rattle.tq_model.specs.declared.calls.EnqueueAsk.{EnqueueAsk}
use Rattle.tq_model.specs.declared.calls.CallAnswer.{CallAnswer}
use Rattle.tq_model.specs.declared.calls.CallAnswer.TheVariants.{Enqueued, BadQueue, NoSpace}
use Rattle.tq_model.specs.Space.{Space, Queue, Entry, Message, Free, Here, queue_named, with_entry_in, purged}
use Rattle.tq_model.specs.Room.{pages_at, first_lacking, message_rooms}

pub record CallOutcome : Type 0 where
  pub space : Space
  pub answer : CallAnswer

-- the quality that is asked for, or the queue's default
abbrev pub quality : AskedQos → Qos → Qos
quality Default default = default
quality Persistent default = qualities.Persistent
quality NonPersistent default = qualities.NonPersistent

-- the identifier of the message to come
abbrev pub next_id : Space → Arrival → MsgId
next_id s next = record { site = s.site; space = s.number; epoch = next.epoch; number = next.number }

-- the label of a message that is placed by its own attributes
abbrev pub plain_label : EnqueueCall → Arrival → Label
plain_label call next =
    record {
      root = record { top = false; priority = call.priority; available = call.available; expiration = call.expiration; arrival = next };
      path = [];
    }

abbrev pub message_to_come : EnqueueCall → Qos → MsgId → Message
message_to_come call qos id =
    record {
      id = id;
      corr = call.corr;
      replyq = call.replyq;
      failq = call.failq;
      priority = call.priority;
      available = call.available;
      expiration = call.expiration;
      qos = qos;
      reply_qos = call.reply_qos;
      urcode = pos 0;
      retries = 0;
      body = Here call.body;
    }

abbrev pub entry_to_come : Space → Queue → EnqueueCall → Arrival → Entry
entry_to_come s queue call next =
    record {
      label = plain_label call next;
      mark = Free;
      message = message_to_come call (quality call.qos queue.qos) (next_id s next);
    }

-- The first refusal by the queue and by room, of a space before and after the line's purge.
abbrev pub room_refusal : Space → Space → EnqueueCall → Queue → Option CallAnswer
room_refusal before s call queue = option_map NoSpace (first_lacking (message_rooms before s (pages_at (quality call.qos queue.qos) (length call.body))))

abbrev pub enqueue_refusal_at : Space → Space → EnqueueCall → Option Queue → Option CallAnswer
enqueue_refusal_at before s call None = Some BadQueue
enqueue_refusal_at before s call (Some queue) = room_refusal before s call queue

abbrev pub enqueue_refusal : Space → EnqueueAsk → Option CallAnswer
enqueue_refusal before ask = let s = purged ask.clock before in enqueue_refusal_at before s ask.call (queue_named ask.call.queue s.queues)

-- a granted enqueue: the message is in its queue, free at once
abbrev pub with_message : Space → EnqueueCall → Arrival → Option Queue → Space
with_message s call next None = s
with_message s call next (Some queue) = record s { queues = with_entry_in call.queue (entry_to_come s queue call next) s.queues }

abbrev pub enqueued : Space → EnqueueCall → Arrival → CallOutcome
enqueued s call next =
    record {
      space = with_message s call next (queue_named call.queue s.queues);
      answer = Enqueued (if call.want_id then Some (next_id s next) else None);
    }

-- refused, with the space as it was, or granted
abbrev pub unless_refused : Option CallAnswer → Space → CallOutcome → CallOutcome
unless_refused (Some refusal) s granted = record { space = s; answer = refusal }
unless_refused None s granted = granted

-- The step: the space is purged, the refusals are tried, and where none comes the message is there.
abbrev pub enqueue_step : Space → EnqueueAsk → CallOutcome
enqueue_step before ask =
    let s = purged ask.clock before in
    unless_refused (enqueue_refusal before ask) s (enqueued s ask.call ask.next)
