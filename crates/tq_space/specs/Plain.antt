-- What calls and moves are restricted to for now.
use Rattle.std.specs.Prelude.{◌≡◌, ◌≢◌, ℕ, ◌+◌, ◌≤◌, true, false, List, [], ◌∷◌, length, Option, Some, None}
use Rattle.std.specs.List.{All, list_any, find}
use Rattle.tq_types.specs.declared.messages.Mark.TheVariants.{Free}
use Rattle.tq_types.specs.declared.messages.AskedQos.TheVariants.{Default, NonPersistent}
use Rattle.tq_types.specs.declared.messages.Entry.{Entry}
use Rattle.tq_model.specs.declared.calls.Place.TheVariants.{Plain}
use Rattle.tq_model.specs.declared.calls.EnqueueCall.{EnqueueCall}
use Rattle.tq_model.specs.declared.calls.EnqueueAsk.{EnqueueAsk}
use Rattle.tq_model.specs.declared.calls.DequeueAsk.{DequeueAsk}
use Rattle.tq_model.specs.declared.space.Change.{Change}
use Rattle.tq_model.specs.declared.space.SpaceMove.{SpaceMove}
use Rattle.tq_model.specs.declared.space.SpaceMove.TheVariants.{Insert, Remove, Replace, PutQueue, DropQueue}
use Rattle.tq_model.specs.Moves.{IndexedQueue, IndexedSpace, moved, space_of, has_index}
use Rattle.tq_model.specs.Room.{messages_held, pages_held, pages_at}

-- an enqueue outside transactions, placed plainly, without an expiration, and persistent if its queue's default is
pub record IsPlainEnqueue (ask : EnqueueAsk) : Type 0 where
  pub outside : ask.transactional ≡ false
  pub place : ask.call.place ≡ Plain
  pub expiration : ask.call.expiration ≡ None
  pub quality : ask.call.qos ≢ NonPersistent

-- a dequeue outside transactions
abbrev pub IsPlainDequeue : DequeueAsk → Type 0
IsPlainDequeue ask = ask.transactional ≡ false

-- an entry that no transaction holds and that does not expire
pub record IsPlainEntry (e : Entry) : Type 0 where
  pub mark : e.mark ≡ Free
  pub expiration : e.message.expiration ≡ None

-- a change after which no transaction holds the entry and it does not expire
pub record IsPlainChange (c : Change) : Type 0 where
  pub mark : c.mark ≡ Free
  pub expiration : c.expiration ≡ None

-- no entry expires
abbrev pub HasNoExpirations : List IndexedQueue → Type 0
HasNoExpirations queues = All (λ q. All (λ item. item.message.expiration ≡ None) q.queue.items) queues

-- Which moves can be made

-- an entry that is put in: its queue is there, and what it leaves is within the limits of the space's creation
pub record CanInsert (e : Entry) (s : IndexedSpace) : Type 0 where
  pub plain : IsPlainEntry e
  pub there : list_any (has_index e.queue) s.queues ≡ true
  pub messages : messages_held (space_of s) + 1 ≤ s.limits.messages
  pub pages : pages_held (space_of s) + pages_at e.message.qos (length e.message.body) ≤ s.limits.pages

-- an entry that is changed: the queue that it comes to is there
pub record CanReplace (c : Change) (s : IndexedSpace) : Type 0 where
  pub plain : IsPlainChange c
  pub there : list_any (has_index c.queue) s.queues ≡ true

-- if there is a queue, it has no entries
abbrev pub HasNoEntries : Option IndexedQueue → Type 0
HasNoEntries None = Unit {0}
HasNoEntries (Some q) = q.queue.items ≡ []

-- a queue that is dropped
abbrev pub CanDrop : ℕ → IndexedSpace → Type 0
CanDrop index s = HasNoEntries (find (has_index index) s.queues)

-- a move that can be made now: a removal and a queue that is put can always be
abbrev pub CanMove : SpaceMove → IndexedSpace → Type 0
CanMove (Insert e) s = CanInsert e s
CanMove (Remove id) s = Unit {0}
CanMove (Replace c) s = CanReplace c s
CanMove (PutQueue index d) s = Unit {0}
CanMove (DropQueue index) s = CanDrop index s

-- the moves can be made one after another
abbrev pub CanMoveBy : List SpaceMove → IndexedSpace → Type 0
CanMoveBy [] s = Unit {0}
CanMoveBy (move ∷ moves) s = CanMove move s × CanMoveBy moves (moved move s)

-- an enqueue that asks for nothing but its message: no placement, time or quality, and no field of the message beside its body
pub record IsBareEnqueue (call : EnqueueCall) : Type 0 where
  pub priority : call.priority ≡ 50
  pub available : call.available ≡ 0
  pub expiration : call.expiration ≡ None
  pub corr : call.corr ≡ None
  pub replyq : call.replyq ≡ None
  pub failq : call.failq ≡ None
  pub qos : call.qos ≡ Default
  pub reply_qos : call.reply_qos ≡ Default
