-- The entry of an enqueue that is granted, and the rooms of an enqueue, by their parts.
use Rattle.std.specs.Prelude.{ℕ, pos, List, [], ◌∷◌}
use Rattle.tq_types.specs.declared.identifiers.MsgId.{MsgId}
use Rattle.tq_types.specs.declared.messages.Qos.{Qos}
use Rattle.tq_types.specs.declared.messages.Mark.TheVariants as marks
use Rattle.tq_types.specs.declared.messages.Message.{Message}
use Rattle.tq_types.specs.declared.messages.Entry.{Entry}
use Rattle.tq_types.specs.declared.rooms.Lack.{Lack}
use Rattle.tq_types.specs.declared.rooms.Resource.TheVariants.{Messages, Pages}
use Rattle.tq_model.specs.declared.calls.EnqueueAsk.{EnqueueAsk}
use Rattle.tq_model.specs.declared.calls.EnqueueCall.{EnqueueCall}
use Rattle.tq_model.specs.EnqueueStep.{plain_label}

abbrev pub new_message : EnqueueCall → Qos → MsgId → Message
new_message call qos id =
    record {
      id = id;
      corr = call.corr;
      replyq = call.replyq;
      failq = call.failq;
      priority = call.priority;
      available = call.available;
      expiration = call.expiration;
      qos = qos;
      reply_qos = call.reply_qos;
      urcode = pos 0;
      retries = 0;
      body = call.body;
    }

-- the entry of the call in the queue of that index, of that quality and identifier
abbrev pub entry_of : EnqueueAsk → ℕ → Qos → MsgId → Entry
entry_of ask index qos id = record { queue = index; label = plain_label ask.call ask.next; mark = marks.Free; message = new_message ask.call qos id }

abbrev pub rooms : ℕ → ℕ → ℕ → ℕ → ℕ → List Lack
rooms messages message_limit pages page_limit need =
    (record { resource = Messages; need = 1; held = messages; limit = message_limit })
    ∷ (record { resource = Pages; need = need; held = pages; limit = page_limit }) ∷ []
