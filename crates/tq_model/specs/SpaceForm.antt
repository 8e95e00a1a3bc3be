-- The form in which a space stands on its device, for now: a page of its own, a page of zeros, and a gated log with one payload for
-- each change of the space.
use Rattle.std.specs.Prelude.{ℕ, ◌+◌, ◌-◌, ◌*◌, ◌==◌, ◌&&◌, not, nat_le, nat_lt, Bool, false, if◌then◌else◌, List, [], ◌∷◌, ◌++◌, length, get_or, drop, codes, pos, Option, Some, None}
use Rattle.std.specs.Option.{option_and_then}
use Rattle.std.specs.List.{list_any}
use Rattle.tq_field.specs.Digits.{digits}
use Rattle.tq_field.specs.Places.{run_at, number_at}
use Rattle.tq_types.specs.declared.identifiers.Arrival.{Arrival}
use Rattle.tq_types.specs.declared.identifiers.MsgId.{MsgId}
use Rattle.tq_types.specs.declared.labels.Label.{Label}
use Rattle.tq_types.specs.declared.messages.Qos.TheVariants as qualities
use Rattle.tq_types.specs.declared.messages.AskedQos.TheVariants as asked
use Rattle.tq_types.specs.declared.messages.Mark.TheVariants as marks
use Rattle.tq_types.specs.declared.messages.Message.{Message}
use Rattle.tq_types.specs.declared.messages.Entry.{Entry}
use Rattle.tq_types.specs.declared.orders.Last.TheVariants as lasts
use Rattle.tq_model.specs.declared.space.Shape.{Shape}
use Rattle.tq_model.specs.declared.space.QueueDef.{QueueDef}
use Rattle.tq_model.specs.declared.space.SpaceMove.{SpaceMove}
use Rattle.tq_model.specs.declared.space.SpaceMove.TheVariants.{Insert, Remove, PutQueue}
use Rattle.tq_model.specs.declared.record.SpaceRecord.{SpaceRecord}
use Rattle.tq_model.specs.declared.record.SpaceRecord.TheVariants.{Added, Gone, QueueMade}
use Rattle.tq_model.specs.Names.{is_name}
use Rattle.tq_model.specs.Space.{is_named, limits_of}
use Rattle.tq_model.specs.Moves.{IndexedQueue, IndexedSpace, space_of, has_index, indexed_holds, moved}
use Rattle.tq_model.specs.Room.{pages_for, messages_held, pages_held}

-- Page 0

pub record RawSpace : Type 0 where
  pub mark : List ℕ
  pub version : ℕ
  pub queues : ℕ
  pub messages : ℕ
  pub transactions : ℕ
  pub memory : ℕ
  pub error_size : ℕ
  pub error : List ℕ  -- as many bytes as its size says

-- what a page 0 says
abbrev pub raw_space : List ℕ → RawSpace
raw_space page = record {
  mark = run_at 0 8 page;
  version = number_at 8 2 page;
  queues = number_at 10 2 page;
  messages = number_at 12 2 page;
  transactions = number_at 14 2 page;
  memory = number_at 16 8 page;
  error_size = get_or page 24 0;
  error = run_at 25 (get_or page 24 0) page;
}

abbrev pub error_name : RawSpace → Option (List ℕ)
error_name r = if r.error_size == 0 then None else Some r.error

-- the space's creation, its pages being known from elsewhere
abbrev pub shape_of : ℕ → RawSpace → Shape
shape_of pages r = record { pages = pages; queues = r.queues; messages = r.messages; transactions = r.transactions; memory = r.memory; error = error_name r }

-- the first bytes of page 0; all behind them is zero
abbrev pub error_spelt : Option (List ℕ) → List ℕ
error_spelt None = 0 ∷ []
error_spelt (Some name) = length name ∷ name

abbrev pub page_spelt : Shape → List ℕ
page_spelt s = codes "TQSPROV1" ++ digits 2 1 ++ digits 2 s.queues ++ digits 2 s.messages ++ digits 2 s.transactions ++ digits 8 s.memory ++ error_spelt s.error

-- Payloads

abbrev pub spelt : SpaceRecord → List ℕ
spelt (Added queue arrival body) = 1 ∷ digits 2 queue ++ digits 4 arrival.epoch ++ digits 4 arrival.number ++ body
spelt (Gone arrival) = 2 ∷ digits 4 arrival.epoch ++ digits 4 arrival.number
spelt (QueueMade index name) = 3 ∷ digits 2 index ++ length name ∷ name

-- the most bytes of a body
abbrev pub longest_body : ℕ
longest_body = 65536

abbrev pub arrival_at : ℕ → List ℕ → Arrival
arrival_at at bytes = record { epoch = number_at at 4 bytes; number = number_at (at + 4) 4 bytes }

-- what the bytes behind a payload's kind say
abbrev pub added_in : List ℕ → Option SpaceRecord
added_in bytes = if nat_le 10 (length bytes) && nat_le (length bytes) (10 + longest_body) then Some (Added (number_at 0 2 bytes) (arrival_at 2 bytes) (drop 10 bytes)) else None

abbrev pub gone_in : List ℕ → Option SpaceRecord
gone_in bytes = if length bytes == 8 then Some (Gone (arrival_at 0 bytes)) else None

abbrev pub queue_in : List ℕ → Option SpaceRecord
queue_in bytes = if nat_le 3 (length bytes) && get_or bytes 2 0 + 3 == length bytes && is_name (drop 3 bytes) then Some (QueueMade (number_at 0 2 bytes) (drop 3 bytes)) else None

-- what a payload says, and None where it is not spelt
abbrev pub record_in : List ℕ → Option SpaceRecord
record_in [] = None
record_in (kind ∷ bytes) = if kind == 1 then added_in bytes else (if kind == 2 then gone_in bytes else (if kind == 3 then queue_in bytes else None))

-- What a record does

abbrev pub id_in : IndexedSpace → Arrival → MsgId
id_in s arrival = record { site = s.site; space = s.number; epoch = arrival.epoch; number = arrival.number }

-- the label of a message that no call has placed in another way
abbrev pub arrival_label : Arrival → Label
arrival_label arrival = record { root = record { top = false; priority = 50; available = 0; expiration = None; arrival = arrival }; path = [] }

abbrev pub plain_message : MsgId → List ℕ → Message
plain_message id body =
    record {
      id = id;
      corr = None;
      replyq = None;
      failq = None;
      priority = 50;
      available = 0;
      expiration = None;
      qos = qualities.Persistent;
      reply_qos = asked.Default;
      urcode = pos 0;
      retries = 0;
      body = body;
    }

abbrev pub plain_entry : ℕ → Arrival → MsgId → List ℕ → Entry
plain_entry queue arrival id body = record { queue = queue; label = arrival_label arrival; mark = marks.Free; message = plain_message id body }

-- a queue as it is made where nothing more is asked for
abbrev pub default_queue : List ℕ → QueueDef
default_queue name = record { name = name; order = record { criteria = []; last = lasts.Fifo }; top = false; before = false; qos = qualities.Persistent; retries = 0; delay = 0 }

abbrev pub move_of : IndexedSpace → SpaceRecord → SpaceMove
move_of s (Added queue arrival body) = Insert (plain_entry queue arrival (id_in s arrival) body)
move_of s (Gone arrival) = Remove (id_in s arrival)
move_of s (QueueMade index name) = PutQueue index (default_queue name)

-- Which records may follow

abbrev pub holds_arrival : IndexedSpace → Arrival → Bool
holds_arrival s arrival = list_any (indexed_holds (id_in s arrival)) s.queues

abbrev pub holds_name : List ℕ → IndexedQueue → Bool
holds_name name q = is_named name q.queue

-- a new message, of an epoch up to this one, for which there are a queue and room
abbrev pub can_add : ℕ → IndexedSpace → ℕ → Arrival → List ℕ → Bool
can_add epoch s queue arrival body =
    list_any (has_index queue) s.queues && (nat_le 1 arrival.epoch && nat_le arrival.epoch epoch) && not (holds_arrival s arrival)
    && nat_lt (messages_held (space_of s)) s.limits.messages && nat_le (pages_held (space_of s) + pages_for (length body)) s.limits.pages

-- a queue of a new name under a new index
abbrev pub can_make : IndexedSpace → ℕ → List ℕ → Bool
can_make s index name = nat_lt index s.limits.queues && not (list_any (has_index index) s.queues) && not (list_any (holds_name name) s.queues)

abbrev pub can_follow : ℕ → IndexedSpace → SpaceRecord → Bool
can_follow epoch s (Added queue arrival body) = can_add epoch s queue arrival body
can_follow epoch s (Gone arrival) = holds_arrival s arrival
can_follow epoch s (QueueMade index name) = can_make s index name

-- the space with one record more, where it may follow
abbrev pub followed : ℕ → IndexedSpace → SpaceRecord → Option IndexedSpace
followed epoch s r = if can_follow epoch s r then Some (moved (move_of s r) s) else None

abbrev pub followed_by : ℕ → IndexedSpace → List ℕ → Option IndexedSpace
followed_by epoch s payload = option_and_then (followed epoch s) (record_in payload)

-- What payloads, one after another, make of a space; epochs are up to this one.
abbrev pub replayed : ℕ → List (List ℕ) → IndexedSpace → Option IndexedSpace
replayed epoch [] s = Some s
replayed epoch (payload ∷ payloads) s = option_and_then (replayed epoch payloads) (followed_by epoch s payload)

-- a space without queues
abbrev pub empty_space : Shape → ℕ → ℕ → IndexedSpace
empty_space shape site number = record { site = site; number = number; limits = limits_of shape; error = shape.error; queues = []; owners = [] }

-- The room of the log

-- the bytes of the log of a space with so many pages
abbrev pub log_bytes : ℕ → ℕ
log_bytes pages = 1024 * (pages - 2)

-- the lengths of payloads
abbrev pub added_length : List ℕ → ℕ
added_length body = 11 + length body

abbrev pub gone_length : ℕ
gone_length = 9

abbrev pub made_length : List ℕ → ℕ
made_length name = 4 + length name
