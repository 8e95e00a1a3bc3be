-- The space that slots and chains stand for, slot by slot.
use Rattle.std.specs.Prelude.{◌≡◌, ◌⊎◌, ◌≤◌, ◌<◌, ◌+◌, ℕ, ◌&&◌, not, Bool, true, false, List, [], map, length, Option, Some, None}
use Rattle.std.specs.List.{All, list_any}
use Rattle.std.specs.FinMap.{empty}
use Rattle.tq_types.specs.Label.{arrival_cmp}
use Rattle.tq_types.specs.declared.messages.Entry.{Entry as HeldEntry}
use Rattle.tq_model.specs.declared.space.QueueDef.{QueueDef}
use Rattle.tq_model.specs.declared.space.Shape.{Shape}
use Rattle.tq_model.specs.declared.space.SpaceMove.TheVariants.{Insert, PutQueue}
use Rattle.tq_model.specs.Moves.{IndexedQueue, IndexedSpace, entry_view, has_index, moved, queue_of, session_owners, space_of}
use Rattle.tq_model.specs.Plain.{SurvivesCrash}
use Rattle.tq_model.specs.Room.{messages_held, pages_held}
use Rattle.tq_model.specs.Space.{Entry, overhead_pages}
use Rattle.tq_model.specs.SpaceForm.{empty_space, holds_arrival, holds_name}
use Rattle.tq_extent.specs.Bytes.{owned_bytes}
use Rattle.tq_pages.specs.Content.{HasChain, IsBad, chain_bytes}
use Rattle.tq_pages.specs.Store.{Store, HasAdded, IsStore, count_of, free_pages, is_free, page_of}
use Rattle.tq_slots.specs.declared.record.BranchSlot.{BranchSlot}
use Rattle.tq_slots.specs.declared.record.MessageSlot.{MessageSlot}
use Rattle.tq_slots.specs.declared.record.QueueSlot.{QueueSlot}
use Rattle.tq_slots.specs.KeptEntries.{kept_in}
use Rattle.tq_slots.specs.MessageForm as form
use Rattle.tq_slots.specs.MessageSlots.{IndexedEntry, said_with_chain, says, slot_arrival}
use Rattle.tq_slots.specs.QueueForm.{queue_of_slot}
use Rattle.tq_slots.specs.QueueSlots.{HaveQueues, the_def}
use Rattle.tq_slots.specs.SlotImages.{RawSlots, used_in, used_of}
use Rattle.tq_slots.specs.SlotTable.{table_of}
use Rattle.tq_slots.specs.SpaceOrder.{IsInOrder}
use Rattle.tq_slots.specs.SpaceReading.{is_bare_entry, is_bare_queue, message_at, message_in, with_queues}
use Rattle.tq_slots.specs.MessageSlots.{UsedSlot}
use Rattle.tq_store.specs.declared.place.SpacePlace.{SpacePlace}
use Rattle.tq_store.specs.File.{IsHeld}
use Rattle.tq_store.specs.Sound.{IsSpaceOf}
use Rattle.tq_store.specs.Stored.{HasStore, HoldsSpace, IsUsedAt}

abbrev pub slots_of : List QueueSlot → List MessageSlot → List BranchSlot → RawSlots
slots_of queues messages branches = record { queues = queues; messages = messages; branches = branches }

-- What is loaded, whatever slots it is of

-- an entry that lasts, has nothing that is not built, and is named by this space
pub record IsLoadedEntry (site number : ℕ) (item : Entry) : Type 0 where
  pub bare : is_bare_entry item ≡ true
  pub lasts : SurvivesCrash item
  pub own : (item.message.id.site ≡ site) × (item.message.id.space ≡ number)

pub record IsLoadedQueue (site number : ℕ) (q : IndexedQueue) : Type 0 where
  pub def : is_bare_queue (queue_of (the_def q) []) ≡ true
  pub items : All (IsLoadedEntry site number) q.queue.items

-- Of these queue slots a space is loaded.
pub record IsLoaded (site number : ℕ) (shape : Shape) (queues : List QueueSlot) (s : IndexedSpace) : Type 0 where
  pub is : s ≡ with_queues (empty_space shape site number) s.queues
  pub have : HaveQueues (map queue_of_slot queues) s.queues
  pub order : IsInOrder s
  pub each : All (IsLoadedQueue site number) s.queues

-- Queues

-- a space with the queue of a slot, where it has one
abbrev pub queue_taken : ℕ → Option QueueDef → IndexedSpace → IndexedSpace
queue_taken index None s = s
queue_taken index (Some d) s = moved (PutQueue index d) s

-- its name is new, and it has nothing that is not built
abbrev pub can_take : Option QueueDef → IndexedSpace → Bool
can_take None s = true
can_take (Some d) s = not (list_any (holds_name d.name) s.queues) && is_bare_queue (queue_of d [])

-- Of queue slots, and no message slots.
pub record HasQueues (site number : ℕ) (shape : Shape) (queues : List QueueSlot) (s : IndexedSpace) : Type 0 where
  pub loaded : IsLoaded site number shape queues s
  pub messages : messages_held (space_of s) ≡ 0
  pub pages : pages_held (space_of s) ≡ 0
  pub kept : kept_in s ≡ empty

-- Messages

-- the page is one of a chain of the store
pub record IsOnChain (store : Store) (page : ℕ) : Type 0 where
  pub first : ℕ
  pub at : ℕ
  pub below : at < count_of store first
  pub is : page_of store first at ≡ page

-- What is in memory of these slots. Each page that is not free is of a chain, or of the overhead.
pub record HasFilled (place : SpacePlace) (shape : Shape) (clusters : List ℕ) (queues : List QueueSlot) (messages : List MessageSlot) (s : IndexedSpace)
    (pages : Store) : Type 0 where
  pub loaded : IsLoaded place.site place.number shape queues s
  pub few : messages_held (space_of s) ≤ length messages
  pub store : HasStore shape clusters (slots_of queues messages []) pages
  pub dev : pages.dev ≡ place.dev
  pub room : free_pages pages + pages_held (space_of s) ≡ s.limits.pages
  pub covered : (page : ℕ) → overhead_pages shape ≤ page → page < shape.pages → (is_free pages page ≡ true) ⊎ IsOnChain pages page
  pub held : IsHeld place.site place.number (slots_of queues messages []) pages s

-- What the owner's bytes have of these slots.
pub record HasRead (site number : ℕ) (shape : Shape) (messages : List MessageSlot) (s : IndexedSpace) (store : Store) (bytes : List ℕ) : Type 0 where
  pub chains : (i : ℕ) (m : UsedSlot) → IsUsedAt (slots_of [] messages []) i m → HasChain store m.first bytes
  pub kept : table_of arrival_cmp slot_arrival (says site number (message_at shape bytes)) (map used_of messages) ≡ Some (kept_in s)

-- a slot and the bytes of its chain say this entry, which has nothing that is not built
pub record IsMessage (site number : ℕ) (slot : MessageSlot) (stored : List ℕ) (e : HeldEntry) : Type 0 where
  pub said : said_with_chain site number (used_in slot) (message_in stored) ≡ Some (record { queue = e.queue; entry = entry_view session_owners e })
  pub bare : is_bare_entry (entry_view session_owners e) ≡ true

-- whether an entry is said that has nothing that is not built
abbrev pub is_said_bare : Option IndexedEntry → Bool
is_said_bare None = false
is_said_bare (Some e) = is_bare_entry e.entry

-- The message of a slot came into a space and a store.
pub record HasEntered (site number : ℕ) (slot : MessageSlot) (s s' : IndexedSpace) (old new : Store) (told : Type 0) (bytes : List ℕ) : Type 0 where
  pub stored : List ℕ
  pub item : HeldEntry
  pub there : list_any (has_index slot.queue) s.queues ≡ true
  pub first_one : holds_arrival s (form.slot_arrival slot) ≡ false
  pub some : 1 ≤ length stored
  pub sound : IsStore new
  pub added : HasAdded old slot.first (length stored) new
  pub message : IsMessage site number slot stored item
  pub space : s' ≡ moved (Insert item) s
  pub chain : told → HasChain new slot.first bytes
  pub read : told → stored ≡ chain_bytes new slot.first bytes

-- a chain is stored from the page of a slot on, whose bytes are not those of its message
pub record IsUnsaid (site number : ℕ) (slot : MessageSlot) (old : Store) (bytes : List ℕ) : Type 0 where
  pub new : Store
  pub size : ℕ
  pub some : 1 ≤ size
  pub sound : IsStore new
  pub added : HasAdded old slot.first size new
  pub chain : HasChain new slot.first bytes
  pub unsaid : is_said_bare (said_with_chain site number (used_in slot) (message_in (chain_bytes new slot.first bytes))) ≡ false

-- Why a slot is not one more: its queue is not there, or its arrival is there already, or no chain is stored from its page on that
-- shares no page with another, or that is not the chain of its message.
abbrev pub IsUnfit : ℕ → ℕ → MessageSlot → IndexedSpace → Store → List ℕ → Type 0
IsUnfit site number slot s old bytes =
    (list_any (has_index slot.queue) s.queues ≡ false)
    ⊎ ((holds_arrival s (form.slot_arrival slot) ≡ true) ⊎ (((page : ℕ) × IsBad old bytes slot.first page) ⊎ IsUnsaid site number slot old bytes))

-- The whole

-- What is in memory of a space with these slots, whatever slots of branches there are.
pub record IsFilled (place : SpacePlace) (shape : Shape) (clusters : List ℕ) (queues : List QueueSlot) (messages : List MessageSlot) (s : IndexedSpace)
    (pages : Store) : Type 0 where
  pub is : s ≡ with_queues (empty_space shape place.site place.number) s.queues
  pub space : IsSpaceOf place shape s
  pub store : (branches : List BranchSlot) → HasStore shape clusters (slots_of queues messages branches) pages
  pub dev : pages.dev ≡ place.dev
  pub room : free_pages pages + pages_held (space_of s) ≡ s.limits.pages

-- What an image has of it.
pub record IsFilledFrom (place : SpacePlace) (shape : Shape) (clusters : List ℕ) (raw : RawSlots) (s : IndexedSpace) (store : Store)
    (image : List ℕ) : Type 0 where
  pub holds : HoldsSpace place.site place.number shape clusters raw s image
  pub chains : (i : ℕ) (m : UsedSlot) → IsUsedAt raw i m → HasChain store m.first (owned_bytes clusters image)
