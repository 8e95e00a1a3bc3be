-- Moves: a space whose queues have indices, and what a list of moves makes of it.
use Rattle.std.specs.Prelude.{ℕ, ◌==◌, Bool, if◌then◌else◌, List, [], ◌∷◌, map, Option, Some, None}
use Rattle.std.specs.List.{find, list_any, insert, remove, position_or_len}
use Rattle.tq_types.specs.declared.identifiers.MsgId.{MsgId}
use Rattle.tq_types.specs.declared.messages.Mark.{Mark as HeldMark}
use Rattle.tq_types.specs.declared.messages.Mark.TheVariants as marks
use Rattle.tq_types.specs.declared.messages.Message.{Message as HeldMessage}
use Rattle.tq_types.specs.declared.messages.Entry.{Entry as HeldEntry}
use Rattle.tq_model.specs.declared.space.Change.{Change}
use Rattle.tq_model.specs.declared.space.QueueDef.{QueueDef}
use Rattle.tq_model.specs.declared.space.SpaceMove.{SpaceMove}
use Rattle.tq_model.specs.declared.space.SpaceMove.TheVariants.{Insert, Remove, Replace, PutQueue, DropQueue}
use Rattle.tq_model.specs.Space.{Owner, Session, Mark, Free, Adding, Taking, Here, Message, Entry, Queue, Limits, Space, change_first, has_id, holds_id, with_entry, without_entry, name_before}

pub record IndexedQueue : Type 0 where
  pub index : ℕ
  pub queue : Queue

-- an owner and the number that stands for it in the marks of a space
pub record NumberedOwner : Type 0 where
  pub number : ℕ
  pub owner : Owner

pub record IndexedSpace : Type 0 where
  pub site : ℕ
  pub number : ℕ
  pub limits : Limits
  pub error : Option (List ℕ)
  pub queues : List IndexedQueue  -- ascending by name
  pub owners : List NumberedOwner  -- the owners whose numbers can stand in a mark, beside sessions

abbrev pub the_queue : IndexedQueue → Queue
the_queue q = q.queue

abbrev pub space_of : IndexedSpace → Space
space_of s = record { site = s.site; number = s.number; limits = s.limits; error = s.error; queues = map the_queue s.queues }

-- What stands in an entry

-- for now only sessions can have entries
abbrev pub session_owners : ℕ → Owner
session_owners n = Session n

-- whose number stands in a mark: the first of these that has it, or the session of that number
abbrev pub owner_in : List NumberedOwner → ℕ → Owner
owner_in [] = session_owners
owner_in (o ∷ owners) = λ n. if o.number == n then o.owner else owner_in owners n

abbrev pub mark_view : (ℕ → Owner) → HeldMark → Mark
mark_view owners marks.Free = Free
mark_view owners (marks.Adding n) = Adding (owners n)
mark_view owners (marks.Taking n) = Taking (owners n)

abbrev pub message_view : HeldMessage → Message
message_view m =
    record {
      id = m.id;
      corr = m.corr;
      replyq = m.replyq;
      failq = m.failq;
      priority = m.priority;
      available = m.available;
      expiration = m.expiration;
      qos = m.qos;
      reply_qos = m.reply_qos;
      urcode = m.urcode;
      retries = m.retries;
      body = Here m.body;
    }

abbrev pub entry_view : (ℕ → Owner) → HeldEntry → Entry
entry_view owners e = record { label = e.label; mark = mark_view owners e.mark; message = message_view e.message }

abbrev pub message_after_change : Change → Message → Message
message_after_change c message = record message { priority = c.priority; available = c.available; expiration = c.expiration; retries = c.retries }

abbrev pub after_change : (ℕ → Owner) → Change → Entry → Entry
after_change owners c item = record { label = c.label; mark = mark_view owners c.mark; message = message_after_change c item.message }

abbrev pub queue_of : QueueDef → List Entry → Queue
queue_of d items =
    record {
      name = d.name;
      order = d.order;
      top = d.top;
      before = d.before;
      qos = d.qos;
      retries = d.retries;
      delay = d.delay;
      items = items;
    }

-- One move

abbrev pub has_index : ℕ → IndexedQueue → Bool
has_index index q = q.index == index

abbrev pub on_queue : (Queue → Queue) → IndexedQueue → IndexedQueue
on_queue change q = record q { queue = change q.queue }

abbrev pub entry_inserted : ℕ → Entry → List IndexedQueue → List IndexedQueue
entry_inserted index item queues = change_first (has_index index) (on_queue (with_entry item)) queues

abbrev pub indexed_holds : MsgId → IndexedQueue → Bool
indexed_holds id q = holds_id id q.queue

abbrev pub entry_removed : MsgId → List IndexedQueue → List IndexedQueue
entry_removed id queues = change_first (indexed_holds id) (on_queue (without_entry id)) queues

abbrev pub entry_with_id : MsgId → List IndexedQueue → Option Entry
entry_with_id id [] = None
entry_with_id id (q ∷ qs) = if holds_id id q.queue then find (has_id id) q.queue.items else entry_with_id id qs

abbrev pub entry_replaced : (ℕ → Owner) → Change → Option Entry → List IndexedQueue → List IndexedQueue
entry_replaced owners c None queues = queues
entry_replaced owners c (Some item) queues = entry_inserted c.queue (after_change owners c item) (entry_removed c.id queues)

abbrev pub comes_before : List ℕ → IndexedQueue → Bool
comes_before name q = name_before name q.queue.name

abbrev pub queue_added : ℕ → QueueDef → List IndexedQueue → List IndexedQueue
queue_added index d queues = insert queues (position_or_len (comes_before d.name) queues) (record { index = index; queue = queue_of d [] })

abbrev pub queue_put : ℕ → QueueDef → List IndexedQueue → List IndexedQueue
queue_put index d queues =
    if list_any (has_index index) queues then change_first (has_index index) (on_queue (λ queue. queue_of d queue.items)) queues
    else queue_added index d queues

abbrev pub queue_dropped : ℕ → List IndexedQueue → List IndexedQueue
queue_dropped index queues = remove queues (position_or_len (has_index index) queues)

abbrev pub queues_moved : (ℕ → Owner) → SpaceMove → List IndexedQueue → List IndexedQueue
queues_moved owners (Insert e) queues = entry_inserted e.queue (entry_view owners e) queues
queues_moved owners (Remove id) queues = entry_removed id queues
queues_moved owners (Replace c) queues = entry_replaced owners c (entry_with_id c.id queues) queues
queues_moved owners (PutQueue index d) queues = queue_put index d queues
queues_moved owners (DropQueue index) queues = queue_dropped index queues

abbrev pub moved : SpaceMove → IndexedSpace → IndexedSpace
moved move s = record s { queues = queues_moved (owner_in s.owners) move s.queues }

-- the moves one after another
abbrev pub moved_by : List SpaceMove → IndexedSpace → IndexedSpace
moved_by [] s = s
moved_by (move ∷ moves) s = moved_by moves (moved move s)

-- the entries of these identifiers go, one after another
abbrev pub purged_of : List MsgId → IndexedSpace → IndexedSpace
purged_of [] s = s
purged_of (id ∷ ids) s = purged_of ids (moved (Remove id) s)
