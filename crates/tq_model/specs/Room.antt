-- The room of a space: what is needed and held, and the limit.
use Rattle.std.specs.Prelude.{ℕ, ◌+◌, nat_lt, Bool, List, [], ◌∷◌, length, Option}
use Rattle.std.specs.List.{sum_by, find}
use Rattle.tq_types.specs.declared.rooms.Lack.{Lack}
use Rattle.tq_types.specs.declared.rooms.Resource.TheVariants.{Messages, Pages}
use Rattle.tq_types.specs.declared.messages.Qos.{Qos}
use Rattle.tq_types.specs.declared.messages.Qos.TheVariants.{Persistent, NonPersistent}
use Rattle.tq_model.specs.Space.{Space, Queue, Entry, body_length, divided_up}

-- the pages of a message with a body of n bytes
abbrev pub pages_for : ℕ → ℕ
pages_for n = divided_up (256 + n) 1016

-- the pages that a message takes: none where it is not persistent
abbrev pub pages_at : Qos → ℕ → ℕ
pages_at Persistent n = pages_for n
pages_at NonPersistent n = 0

abbrev pub pages_of_entry : Entry → ℕ
pages_of_entry item = pages_at item.message.qos (body_length item.message.body)

abbrev pub queue_pages : Queue → ℕ
queue_pages queue = sum_by pages_of_entry queue.items

-- the pages of all persistent entries
abbrev pub pages_held : Space → ℕ
pages_held s = sum_by queue_pages s.queues

-- all entries
abbrev pub messages_held : Space → ℕ
messages_held s = sum_by (λ queue. length queue.items) s.queues

abbrev pub is_lacking : Lack → Bool
is_lacking room = nat_lt room.limit (room.need + room.held)

-- the first of the resources that is lacking
abbrev pub first_lacking : List Lack → Option Lack
first_lacking rooms = find is_lacking rooms

abbrev pub messages_room : Space → Lack
messages_room s = record { resource = Messages; need = 1; held = messages_held s; limit = s.limits.messages }

-- the pages of the entries that the line's purge drops still count as held in it
abbrev pub pages_room : Space → ℕ → Lack
pages_room before need = record { resource = Pages; need = need; held = pages_held before; limit = before.limits.pages }

-- what a message that takes so many pages needs in a space that the line has purged
abbrev pub message_rooms : Space → Space → ℕ → List Lack
message_rooms before s pages = messages_room s ∷ pages_room before pages ∷ []
