-- A space: its queues by name, and the entries of each in the order of their labels.
use Rattle.std.specs.Prelude.{ℕ, ◌+◌, ◌-◌, ◌*◌, ◌/◌, ◌==◌, ◌&&◌, nat_le, Bool, true, false, not, cond, List, [], ◌∷◌, length, map, filter, Option, Some, None, ℤ}
use Rattle.std.specs.List.{find, list_any, insert, remove, position_or_len}
use Rattle.std.specs.Ordering.{is_lt, nat_cmp}
use Rattle.std.specs.Cmp.Lexicographic.{slice_cmp}
use Rattle.std.specs.Str.{bytes_eq}
use Rattle.tq_types.specs.Label.{label_cmp}
use Rattle.tq_types.specs.OrderValue.{OrderValue}
use Rattle.tq_types.specs.XId.{XIdValue}
use Rattle.tq_types.specs.declared.identifiers.MsgId.{MsgId}
use Rattle.tq_types.specs.declared.identifiers.CorrId.{CorrId}
use Rattle.tq_types.specs.declared.labels.Label.{Label}
use Rattle.tq_types.specs.declared.messages.Qos.{Qos}
use Rattle.tq_types.specs.declared.messages.Qos.TheVariants.{Persistent, NonPersistent}
use Rattle.tq_types.specs.declared.messages.AskedQos.{AskedQos}
use Rattle.tq_model.specs.declared.space.Shape.{Shape}

-- a transaction: a session's, a forwarder's call, or a branch by its space's number and its identifier
pub data Owner : Type 0 where
  Session : ℕ → Owner
  Forwarder : ℕ → Owner
  Branch : ℕ → XIdValue → Owner

-- whether a transaction holds an entry
pub data Mark : Type 0 where
  Free : Mark
  Adding : Owner → Mark
  Taking : Owner → Mark

-- a body: its bytes, or its length where the bytes are on pages
pub data BodyContent : Type 0 where
  Here : List ℕ → BodyContent
  Stored : ℕ → BodyContent

abbrev pub body_length : BodyContent → ℕ
body_length (Here bytes) = length bytes
body_length (Stored n) = n

pub record Message : Type 0 where
  pub id : MsgId
  pub corr : Option CorrId
  pub replyq : Option (List ℕ)
  pub failq : Option (List ℕ)
  pub priority : ℕ
  pub available : ℕ
  pub expiration : Option ℕ
  pub qos : Qos
  pub reply_qos : AskedQos
  pub urcode : ℤ
  pub retries : ℕ
  pub body : BodyContent

-- an entry of a queue
pub record Entry : Type 0 where
  pub label : Label
  pub mark : Mark
  pub message : Message

pub record Queue : Type 0 where
  pub name : List ℕ
  pub order : OrderValue
  pub top : Bool
  pub before : Bool
  pub qos : Qos
  pub retries : ℕ
  pub delay : ℕ
  pub items : List Entry  -- ascending by the label order

-- the limits of a space's creation, the pages being those for messages
pub record Limits : Type 0 where
  pub pages : ℕ
  pub queues : ℕ
  pub messages : ℕ
  pub transactions : ℕ
  pub memory : ℕ

pub record Space : Type 0 where
  pub site : ℕ
  pub number : ℕ
  pub limits : Limits
  pub error : Option (List ℕ)  -- the name of the error queue
  pub queues : List Queue  -- ascending by name

-- A new space

abbrev pub divided_up : ℕ → ℕ → ℕ
divided_up n by = (n + (by - 1)) / by

-- the pages of one copy of the slots, and of one copy of the log
abbrev pub slot_pages : Shape → ℕ
slot_pages s = divided_up (64 + 512 * s.queues + 64 * s.messages + 160 * s.transactions) 1024

abbrev pub log_pages : Shape → ℕ
log_pages s = 16 + divided_up (72 * s.messages) 1024

abbrev pub overhead_pages : Shape → ℕ
overhead_pages s = 1 + 2 * (slot_pages s + log_pages s)

abbrev pub limits_of : Shape → Limits
limits_of s =
    record {
      pages = s.pages - overhead_pages s;
      queues = s.queues;
      messages = s.messages;
      transactions = s.transactions;
      memory = s.memory;
    }

-- a space without queues
abbrev pub new_space : Shape → ℕ → ℕ → Space
new_space s site number = record { site = site; number = number; limits = limits_of s; error = s.error; queues = [] }

-- Finding

abbrev pub same_id : MsgId → MsgId → Bool
same_id a b = a.site == b.site && a.space == b.space && a.epoch == b.epoch && a.number == b.number

abbrev pub has_id : MsgId → Entry → Bool
has_id id item = same_id item.message.id id

abbrev pub is_named : List ℕ → Queue → Bool
is_named name queue = bytes_eq queue.name name

abbrev pub queue_named : List ℕ → List Queue → Option Queue
queue_named name queues = find (is_named name) queues

-- the list with the first that passes the test changed
abbrev pub change_first : {X : Type 0} → (X → Bool) → (X → X) → List X → List X
change_first test change [] = []
change_first test change (x ∷ xs) = cond (test x) (change x ∷ xs) (x ∷ change_first test change xs)

-- Entries in their places

-- whether the item's label stands before the other's
abbrev pub stands_before : OrderValue → Entry → Entry → Bool
stands_before order item other = is_lt (label_cmp order item.label other.label)

-- the items with one more, right before the first that its label stands before
abbrev pub placed : OrderValue → Entry → List Entry → List Entry
placed order item items = insert items (position_or_len (stands_before order item) items) item

abbrev pub with_entry : Entry → Queue → Queue
with_entry item queue = record queue { items = placed queue.order item queue.items }

-- the items without the one of that identifier
abbrev pub dropped : MsgId → List Entry → List Entry
dropped id items = remove items (position_or_len (has_id id) items)

abbrev pub holds_id : MsgId → Queue → Bool
holds_id id queue = list_any (has_id id) queue.items

abbrev pub without_entry : MsgId → Queue → Queue
without_entry id queue = record queue { items = dropped id queue.items }

-- the queues without the entry of that identifier
abbrev pub without : MsgId → List Queue → List Queue
without id queues = change_first (holds_id id) (without_entry id) queues

abbrev pub with_entry_in : List ℕ → Entry → List Queue → List Queue
with_entry_in name item queues = change_first (is_named name) (with_entry item) queues

-- the space without the entry of that identifier
abbrev pub space_without : MsgId → Space → Space
space_without id s = record s { queues = without id s.queues }

-- whether a name comes before another
abbrev pub name_before : List ℕ → List ℕ → Bool
name_before a b = is_lt (slice_cmp nat_cmp a b)

-- the queues, ascending by name, with one more
abbrev pub comes_after : List ℕ → Queue → Bool
comes_after name queue = name_before name queue.name

abbrev pub queues_with : Queue → List Queue → List Queue
queues_with queue queues = insert queues (position_or_len (comes_after queue.name) queues) queue

-- Eligible and expired

abbrev pub is_free : Mark → Bool
is_free Free = true
is_free (Adding owner) = false
is_free (Taking owner) = false

abbrev pub is_adding : Mark → Bool
is_adding Free = false
is_adding (Adding owner) = true
is_adding (Taking owner) = false

abbrev pub is_persistent : Qos → Bool
is_persistent Persistent = true
is_persistent NonPersistent = false

-- at most t, where there is one
abbrev pub is_past : ℕ → Option ℕ → Bool
is_past t None = false
is_past t (Some at) = nat_le at t

abbrev pub is_eligible : ℕ → Entry → Bool
is_eligible t item = is_free item.mark && nat_le item.message.available t && not (is_past t item.message.expiration)

abbrev pub is_expired : ℕ → Entry → Bool
is_expired t item = is_free item.mark && is_past t item.message.expiration

-- The purge at t: the Free entries go whose expiration is at most t.
abbrev pub purged_queue : ℕ → Queue → Queue
purged_queue t queue = record queue { items = filter (λ item. not (is_expired t item)) queue.items }

abbrev pub purged : ℕ → Space → Space
purged t s = record s { queues = map (purged_queue t) s.queues }

-- What a crash leaves of a space: messages that are persistent and that no transaction was adding, all of them free.
abbrev pub outlives : Entry → Bool
outlives item = is_persistent item.message.qos && not (is_adding item.mark)

abbrev pub freed : Entry → Entry
freed item = record item { mark = Free }

abbrev pub crashed_queue : Queue → Queue
crashed_queue queue = record queue { items = map freed (filter outlives queue.items) }

abbrev pub crashed : Space → Space
crashed s = record s { queues = map crashed_queue s.queues }
