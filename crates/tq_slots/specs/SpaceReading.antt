-- What the pages of a space stand for: its creation on its first page, the slots of the chosen area with the records of its log, and
-- the chains of its messages.
use Rattle.std.specs.Prelude.{ℕ, zero, suc, ◌+◌, ◌-◌, ◌*◌, ◌%◌, ◌==◌, ◌&&◌, ◌||◌, nat_le, nat_lt, Bool, true, false, if◌then◌else◌, List, [], ◌∷◌, length, get_or, drop, codes, Option, Some, None, option_map, unwrap_or, is_some, not, ℤ, pos, negsuc}
use Rattle.std.specs.Option.{option_and_then}
use Rattle.std.specs.List.{list_all, flat_map}
use Rattle.std.specs.Str.{bytes_eq}
use Rattle.tq_types.specs.declared.identifiers.Arrival.{Arrival}
use Rattle.tq_types.specs.declared.labels.Label.{Label}
use Rattle.tq_types.specs.declared.messages.Qos.{Qos}
use Rattle.tq_types.specs.declared.messages.Qos.TheVariants.{Persistent, NonPersistent}
use Rattle.tq_types.specs.declared.messages.AskedQos.{AskedQos}
use Rattle.tq_types.specs.declared.messages.AskedQos.TheVariants as asked
use Rattle.tq_types.specs.declared.orders.Last.{Last}
use Rattle.tq_types.specs.declared.orders.Last.TheVariants.{Fifo, Lifo}
use Rattle.tq_field.specs.Places.{run_at, number_at}
use Rattle.tq_field.specs.GatedLog.{log_reading}
use Rattle.tq_model.specs.declared.space.Shape.{Shape}
use Rattle.tq_model.specs.Names.{is_name}
use Rattle.tq_model.specs.Space.{Message, Entry, Queue, overhead_pages, slot_pages, log_pages}
use Rattle.tq_model.specs.Room.{messages_held, pages_held}
use Rattle.tq_model.specs.Site.{most_queues, most_transactions, most_messages, most_memory}
use Rattle.tq_model.specs.Moves.{IndexedQueue, IndexedSpace, space_of}
use Rattle.tq_model.specs.DeviceForm.{page_bytes, first_page}
use Rattle.tq_model.specs.SpaceForm.{RawSpace, raw_space, shape_of, empty_space}
use Rattle.tq_model.specs.Reading.{hold_all, no_two}
use Rattle.tq_slots.specs.declared.record.MessageSlot.{MessageSlot}
use Rattle.tq_slots.specs.declared.record.QueueSlot.{QueueSlot}
use Rattle.tq_slots.specs.declared.record.BranchSlot.{BranchSlot}
use Rattle.tq_slots.specs.declared.record.Set.{Set}
use Rattle.tq_slots.specs.declared.record.Set.TheVariants as sets
use Rattle.tq_slots.specs.declared.message.Header.{Header}
use Rattle.tq_slots.specs.RecordForm.{Record, record_read}
use Rattle.tq_slots.specs.MessageForm.{header_size, header_read, is_free_slot}
use Rattle.tq_slots.specs.QueueForm.{is_queue_slot, is_unused, are_one_number}
use Rattle.tq_slots.specs.MessageSlots.{UsedSlot, Slots, Chain, Chains}
use Rattle.tq_slots.specs.QueueSlots.{queues_read, used_slots}
use Rattle.tq_slots.specs.SlotImages.{RawSlots, slots_in, queue_slots_in, with_record}
use Rattle.tq_slots.specs.BaseForm.{raw_slots, has_base_mark}

-- The first page

abbrev pub creation_tests : ℕ → RawSpace → List Bool
creation_tests pages r =
    bytes_eq r.mark (codes "TQSPACE1")
    ∷ (r.version == 1)
    ∷ (nat_le 1 r.queues && nat_le r.queues most_queues)
    ∷ (nat_le 1 r.messages && nat_le r.messages most_messages)
    ∷ (nat_le 1 r.transactions && nat_le r.transactions most_transactions)
    ∷ nat_le r.memory most_memory
    ∷ (r.error_size == 0 || is_name r.error)
    ∷ nat_lt (overhead_pages (shape_of pages r)) pages
    ∷ []

-- the creation of the space with so many pages and these bytes, where its first page says one
abbrev pub creation_in : ℕ → List ℕ → Option Shape
creation_in pages bytes =
    let r = raw_space (first_page bytes) in
    if hold_all (creation_tests pages r) then Some (shape_of pages r) else None

-- The slots

-- the byte of the first page that chooses an area
abbrev pub selector_place : ℕ
selector_place = 512

-- the pages of an area: a base of slots, and a log behind it
abbrev pub area_pages : Shape → ℕ
area_pages s = slot_pages s + log_pages s

-- the first page of the chosen area: the one behind page 0 by an even byte, the other by an odd one
abbrev pub area_page : Shape → ℕ → ℕ
area_page s selector = if selector % 2 == 0 then 1 else 1 + area_pages s

abbrev pub area_start : Shape → List ℕ → ℕ
area_start s bytes = page_bytes * area_page s (get_or bytes selector_place 0)

abbrev pub base_bytes : Shape → List ℕ → List ℕ
base_bytes s bytes = run_at (area_start s bytes) (page_bytes * slot_pages s) bytes

abbrev pub log_of_space : Shape → List ℕ → List ℕ
log_of_space s bytes = run_at (area_start s bytes + page_bytes * slot_pages s) (page_bytes * log_pages s) bytes

-- the records that payloads spell; none where one of them spells none
abbrev pub records_in : List (List ℕ) → Option (List Record)
records_in [] = Some []
records_in (payload ∷ payloads) = option_and_then (λ r. option_map (λ more. r ∷ more) (records_in payloads)) (record_read payload)

-- there is a slot of that kind and index
abbrev pub has_place : RawSlots → Set → Bool
has_place raw (sets.Message index m) = nat_lt index (length raw.messages)
has_place raw (sets.Queue index q) = nat_lt index (length raw.queues)
has_place raw (sets.Branch index b) = nat_lt index (length raw.branches)

abbrev pub have_places : RawSlots → Record → Bool
have_places raw r = list_all (has_place raw) r.sets

-- the slots with the sets of records, one record after another
abbrev pub with_records : List Record → RawSlots → RawSlots
with_records [] raw = raw
with_records (r ∷ more) raw = with_records more (with_record r.sets raw)

-- the slots that records make of others; none where one of them sets a slot that is not there
abbrev pub slots_with : RawSlots → List Record → Option RawSlots
slots_with raw records = if list_all (have_places raw) records then Some (with_records records raw) else None

abbrev pub base_slots : Shape → List ℕ → Option RawSlots
base_slots s base = if has_base_mark base then Some (raw_slots s.queues s.messages s.transactions base) else None

-- the slots that a base and payloads make; none where one of them is not spelt
abbrev pub slots_by : Shape → List ℕ → List (List ℕ) → Option RawSlots
slots_by s base payloads = option_and_then (λ raw. option_and_then (slots_with raw) (records_in payloads)) (base_slots s base)

-- the slots of a space of that creation with these bytes
abbrev pub slots_stored : Shape → List ℕ → Option RawSlots
slots_stored s bytes = option_and_then (slots_by s (base_bytes s bytes)) (log_reading (log_of_space s bytes))

-- The chains

-- the page behind a page of a chain, 0 behind the last one, and the bytes used in it
abbrev pub page_after : List ℕ → ℕ → ℕ
page_after bytes page = number_at (page_bytes * page) 4 bytes

abbrev pub used_in_page : List ℕ → ℕ → ℕ
used_in_page bytes page = number_at (page_bytes * page + 4) 2 bytes

-- the bytes of a page that are for its chain
abbrev pub most_used : ℕ
most_used = 1016

-- a page of a chain is one of those for messages, from the first up to the end of them, and all of it is used but of a last one
abbrev pub is_chain_page : ℕ → ℕ → List ℕ → ℕ → Bool
is_chain_page first end bytes page =
    (nat_le first page && nat_lt page end) && (nat_le 1 (used_in_page bytes page) && nat_le (used_in_page bytes page) most_used)
    && (page_after bytes page == 0 || used_in_page bytes page == most_used)

-- the pages of the chain that begins at a page; none where one of them is no such page, or where there are more than so many, as there
-- are where a page comes again
unfoldable pub chain_from : ℕ → ℕ → ℕ → List ℕ → ℕ → Option (List ℕ)
chain_from zero first end bytes page = None
chain_from (suc most) first end bytes page =
    if is_chain_page first end bytes page
    then (if page_after bytes page == 0 then Some (page ∷ []) else option_map (λ pages. page ∷ pages) (chain_from most first end bytes (page_after bytes page)))
    else None

-- the pages of a chain of the space
abbrev pub chain_in : Shape → List ℕ → ℕ → Option (List ℕ)
chain_in s bytes page = chain_from (s.pages - overhead_pages s) (overhead_pages s) s.pages bytes page

-- the bytes that pages join to
abbrev pub joined : List ℕ → List ℕ → List ℕ
joined bytes pages = flat_map (λ page. run_at (page_bytes * page + 8) (used_in_page bytes page) bytes) pages

abbrev pub chain_with : Header → List ℕ → Chain
chain_with h body =
    record {
      arrival = h.arrival;
      path = h.path;
      corr = h.corr;
      replyq = h.replyq;
      failq = h.failq;
      reply_qos = h.reply_qos;
      urcode = h.urcode;
      body = body;
    }

-- the message that these bytes are: its header, and its body behind it
abbrev pub message_in : List ℕ → Option Chain
message_in bytes = option_map (λ h. chain_with h (drop header_size bytes)) (header_read (length bytes) bytes)

abbrev pub message_at : Shape → List ℕ → Chains
message_at s bytes page = option_and_then (λ pages. message_in (joined bytes pages)) (chain_in s bytes page)

-- the pages of the chain of a slot, none where it has no chain
abbrev pub pages_of_slot : Shape → List ℕ → UsedSlot → List ℕ
pages_of_slot s bytes slot = unwrap_or (chain_in s bytes slot.first) []

abbrev pub pages_of_slots : Shape → List ℕ → Slots → List ℕ
pages_of_slots s bytes slots = flat_map (pages_of_slot s bytes) (used_slots slots)

-- What is judged of slots, each by itself

abbrev pub is_message_or_empty : MessageSlot → Bool
is_message_or_empty m = m.mark == 0 || is_free_slot m

abbrev pub is_queue_or_unused : QueueSlot → Bool
is_queue_or_unused q = is_unused q || is_queue_slot q

-- for now no slot of a branch is used
abbrev pub is_no_branch : BranchSlot → Bool
is_no_branch b = b.state == 0

abbrev pub slot_tests : RawSlots → List Bool
slot_tests raw = list_all is_no_branch raw.branches ∷ list_all is_queue_or_unused raw.queues ∷ list_all is_message_or_empty raw.messages ∷ []

-- What the format has and no line makes yet gives no reading either. These tests go when it is built.

abbrev pub is_bare_label : Label → Bool
is_bare_label l =
    not l.root.top && (l.root.priority == 50 && l.root.available == 0) && not (is_some l.root.expiration) && length l.path == 0

abbrev pub is_default_quality : AskedQos → Bool
is_default_quality asked.Default = true
is_default_quality asked.Persistent = false
is_default_quality asked.NonPersistent = false

abbrev pub is_zero : ℤ → Bool
is_zero (pos n) = n == 0
is_zero (negsuc n) = false

abbrev pub is_bare_message : Message → Bool
is_bare_message m =
    (m.priority == 50 && m.available == 0 && m.retries == 0) && not (is_some m.expiration)
    && (not (is_some m.corr) && not (is_some m.replyq) && not (is_some m.failq)) && (is_default_quality m.reply_qos && is_zero m.urcode)

abbrev pub is_bare_entry : Entry → Bool
is_bare_entry e = is_bare_label e.label && is_bare_message e.message

abbrev pub is_fifo : Last → Bool
is_fifo Fifo = true
is_fifo Lifo = false

abbrev pub is_persistent_queue : Qos → Bool
is_persistent_queue Persistent = true
is_persistent_queue NonPersistent = false

abbrev pub is_bare_queue : Queue → Bool
is_bare_queue q =
    (length q.order.criteria == 0 && is_fifo q.order.last) && (not q.top && not q.before) && is_persistent_queue q.qos
    && (q.retries == 0 && q.delay == 0) && list_all is_bare_entry q.items

-- The space

abbrev pub with_queues : IndexedSpace → List IndexedQueue → IndexedSpace
with_queues s queues = record s { queues = queues }

-- the messages, and their pages, are no more than the space has been made for; no queue and no message has what is not built
abbrev pub space_tests : IndexedSpace → List Bool
space_tests s =
    nat_le (messages_held (space_of s)) s.limits.messages
    ∷ nat_le (pages_held (space_of s)) s.limits.pages
    ∷ list_all (λ (q : IndexedQueue). is_bare_queue q.queue) s.queues
    ∷ []

-- what the slots of a space hold, with the chains among its bytes
abbrev pub space_held : ℕ → ℕ → Shape → List ℕ → RawSlots → Option IndexedSpace
space_held site number shape bytes raw =
    option_map (with_queues (empty_space shape site number)) (queues_read site number (queue_slots_in raw) (slots_in raw) (message_at shape bytes))

-- no page is in two chains, and all slots are what they have to be
abbrev pub are_sound : Shape → List ℕ → RawSlots → Bool
are_sound shape bytes raw = hold_all (slot_tests raw) && no_two are_one_number (pages_of_slots shape bytes (slots_in raw))

abbrev pub tested : IndexedSpace → Option IndexedSpace
tested s = if hold_all (space_tests s) then Some s else None

abbrev pub space_by : ℕ → ℕ → Shape → List ℕ → RawSlots → Option IndexedSpace
space_by site number shape bytes raw = if are_sound shape bytes raw then option_and_then tested (space_held site number shape bytes raw) else None

abbrev pub space_made : ℕ → ℕ → List ℕ → Shape → Option IndexedSpace
space_made site number bytes shape = option_and_then (space_by site number shape bytes) (slots_stored shape bytes)

-- the space of that number, of so many pages, that these bytes stand for
abbrev pub space_read : ℕ → ℕ → ℕ → List ℕ → Option IndexedSpace
space_read site number pages bytes = option_and_then (space_made site number bytes) (creation_in pages bytes)
