-- How the header of a message is spelt and read, and which entry a message slot and a header make together.
use Rattle.std.specs.Prelude.{ℕ, zero, suc, ◌≡◌, ◌+◌, ◌-◌, ◌/◌, ◌%◌, ◌<◌, ◌≤◌, ◌==◌, ◌&&◌, ◌||◌, nat_le, nat_lt, not, Bool, true, false, if◌then◌else◌, List, [], ◌∷◌, ◌++◌, length, get_or, Option, Some, None, ℤ, pos, negsuc}
use Rattle.std.specs.List.{flat_map, list_all, AllByRecursion}
use Rattle.tq_field.specs.Digits.{digits}
use Rattle.tq_field.specs.Places.{run_at, number_at}
use Rattle.tq_types.specs.declared.identifiers.Arrival.{Arrival}
use Rattle.tq_types.specs.declared.identifiers.CorrId.{CorrId}
use Rattle.tq_types.specs.declared.labels.Label.{Label}
use Rattle.tq_types.specs.declared.messages.Qos.TheVariants.{Persistent}
use Rattle.tq_types.specs.declared.messages.AskedQos.{AskedQos}
use Rattle.tq_types.specs.declared.messages.AskedQos.TheVariants as asked
use Rattle.tq_types.specs.declared.messages.Entry.{Entry as HeldEntry}
use Rattle.tq_types.specs.declared.messages.Mark.TheVariants as marks
use Rattle.tq_types.specs.Placed.{own_arrival}
use Rattle.tq_types.specs.Path.{arrival_eq}
use Rattle.tq_model.specs.Names.{is_name}
use Rattle.tq_model.specs.Space.{Free, Stored, body_length, Message, Entry}
use Rattle.tq_slots.specs.declared.record.MessageSlot.{MessageSlot}
use Rattle.tq_slots.specs.declared.message.Header.{Header}
use Rattle.tq_slots.specs.Fields.{Field, Number, Run, fields_spelt}

-- The header

-- bytes with zeros behind them, so many in all
abbrev pub filled : ℕ → List ℕ → List ℕ
filled n bytes = bytes ++ digits (n - length bytes) 0

-- the bits of a number that are set where something is there
abbrev pub bit_of : {X : Type 0} → ℕ → Option X → ℕ
bit_of bit None = 0
bit_of bit (Some x) = bit

-- two's complement in 4 bytes
abbrev pub complement : ℤ → ℕ
complement (pos n) = n
complement (negsuc n) = 4294967295 - n

abbrev pub from_complement : ℕ → ℤ
from_complement n = if nat_lt n 2147483648 then pos n else negsuc (4294967295 - n)

abbrev pub quality_number : AskedQos → ℕ
quality_number asked.Default = 0
quality_number asked.Persistent = 1
quality_number asked.NonPersistent = 2

abbrev pub quality_of : ℕ → AskedQos
quality_of n = if n == 0 then asked.Default else if n == 1 then asked.Persistent else asked.NonPersistent

abbrev pub corr_bytes : Option CorrId → List ℕ
corr_bytes None = digits 32 0
corr_bytes (Some c) = c.bytes

abbrev pub name_bytes : Option (List ℕ) → List ℕ
name_bytes None = []
name_bytes (Some name) = name

abbrev pub arrival_bytes : Arrival → List ℕ
arrival_bytes a = digits 4 a.epoch ++ digits 4 a.number

abbrev pub header_fields : Header → List Field
header_fields h =
    Number 4 h.arrival.epoch ∷ Number 4 h.arrival.number ∷ Number 4 h.body_length
    ∷ Number 1 (bit_of 1 h.corr + bit_of 2 h.replyq + bit_of 4 h.failq) ∷ Number 1 (quality_number h.reply_qos) ∷ Number 2 0
    ∷ Number 4 (complement h.urcode) ∷ Run 32 (corr_bytes h.corr)
    ∷ Number 1 (length (name_bytes h.replyq)) ∷ Run 15 (filled 15 (name_bytes h.replyq))
    ∷ Number 1 (length (name_bytes h.failq)) ∷ Run 15 (filled 15 (name_bytes h.failq))
    ∷ Number 1 (length h.path) ∷ Number 3 0 ∷ Run 128 (filled 128 (flat_map arrival_bytes h.path)) ∷ Number 40 0 ∷ []

-- a header of 256 bytes
abbrev pub header_spelt : Header → List ℕ
header_spelt h = fields_spelt (header_fields h)

-- a message on its pages
abbrev pub message_spelt : Header → List ℕ → List ℕ
message_spelt h body = header_spelt h ++ body

-- the number of bytes of a header, and the most of a body
abbrev pub header_size : ℕ
header_size = 256

abbrev pub most_body : ℕ
most_body = 65536

-- Reading

-- whether a number of a byte has that bit
abbrev pub has_bit : ℕ → ℕ → Bool
has_bit bit n = n / bit % 2 == 1

-- whether a name stands at a place, behind its length
abbrev pub is_name_at : ℕ → List ℕ → Bool
is_name_at at bytes = nat_le (get_or bytes at 0) 15 && is_name (run_at (at + 1) (get_or bytes at 0) bytes)

-- a text, where it is a name
abbrev pub named : List ℕ → Option (List ℕ)
named text = if is_name text then Some text else None

abbrev pub name_where : Bool → ℕ → List ℕ → Option (List ℕ)
name_where has at bytes = if has && nat_le (get_or bytes at 0) 15 then named (run_at (at + 1) (get_or bytes at 0) bytes) else None

abbrev pub corr_where : Bool → ℕ → List ℕ → Option CorrId
corr_where has at bytes = if has then Some (record { bytes = run_at at 32 bytes }) else None

-- so many arrivals one behind another
unfoldable pub arrivals_at : ℕ → ℕ → List ℕ → List Arrival
arrivals_at zero at bytes = []
arrivals_at (suc n) at bytes = record { epoch = number_at at 4 bytes; number = number_at (at + 4) 4 bytes } ∷ arrivals_at n (at + 8) bytes

-- the numbers of a header are within their limits, and its body has the bytes that follow it, of so many in all
abbrev pub is_header : ℕ → List ℕ → Bool
is_header joined bytes =
    nat_le header_size (length bytes) && nat_le (number_at 8 4 bytes) most_body && joined == header_size + number_at 8 4 bytes
    && nat_le (get_or bytes 12 0) 7 && nat_le (get_or bytes 13 0) 2 && nat_le (get_or bytes 84 0) 16
    && (not (has_bit 2 (get_or bytes 12 0)) || is_name_at 52 bytes)
    && (not (has_bit 4 (get_or bytes 12 0)) || is_name_at 68 bytes)

abbrev pub header_at : List ℕ → Header
header_at bytes =
    record {
      arrival = record { epoch = number_at 0 4 bytes; number = number_at 4 4 bytes };
      body_length = number_at 8 4 bytes;
      corr = corr_where (has_bit 1 (get_or bytes 12 0)) 20 bytes;
      replyq = name_where (has_bit 2 (get_or bytes 12 0)) 52 bytes;
      failq = name_where (has_bit 4 (get_or bytes 12 0)) 68 bytes;
      reply_qos = quality_of (get_or bytes 13 0);
      urcode = from_complement (number_at 16 4 bytes);
      path = arrivals_at (get_or bytes 84 0) 88 bytes;
    }

-- the header that these bytes spell, where a chain that begins with them has so many bytes in all
unfoldable pub header_read : ℕ → List ℕ → Option Header
header_read joined bytes = if is_header joined bytes then Some (header_at bytes) else None

-- a code of 4 bytes
abbrev pub IsCode : ℤ → Type 0
IsCode (pos n) = n < 2147483648
IsCode (negsuc n) = n < 2147483648

abbrev pub IsNameOrNone : Option (List ℕ) → Type 0
IsNameOrNone None = Unit {0}
IsNameOrNone (Some name) = is_name name ≡ true

abbrev pub IsArrival : Arrival → Type 0
IsArrival a = (a.epoch < 4294967296) × (a.number < 4294967296)

-- a header that can be spelt, before a body of its length
pub record IsHeader (h : Header) : Type 0 where
  pub arrival : IsArrival h.arrival
  pub body : h.body_length ≤ most_body
  pub corr : length (corr_bytes h.corr) ≡ 32
  pub replyq : IsNameOrNone h.replyq
  pub failq : IsNameOrNone h.failq
  pub urcode : IsCode h.urcode
  pub short : length h.path ≤ 16
  pub path : AllByRecursion IsArrival h.path

-- Entries

-- the header of a message
abbrev pub header_of : Label → Message → Header
header_of label m =
    record {
      arrival = record { epoch = m.id.epoch; number = m.id.number };
      body_length = body_length m.body;
      corr = m.corr;
      replyq = m.replyq;
      failq = m.failq;
      reply_qos = m.reply_qos;
      urcode = m.urcode;
      path = label.path;
    }

abbrev pub header_of_entry : Entry → Header
header_of_entry e = header_of e.label e.message

-- a moment, or 0 where there is none
abbrev pub moment_or_zero : Option ℕ → ℕ
moment_or_zero None = 0
moment_or_zero (Some at) = at

abbrev pub top_bit : Bool → ℕ
top_bit true = 1
top_bit false = 0

-- the slot of a Free entry of that queue, whose chain begins at that page
abbrev pub slot_of_entry : ℕ → ℕ → Entry → MessageSlot
slot_of_entry queue first e =
    let m = e.message in
    let root = e.label.root in
    record {
      mark = 1;
      branch = 0;
      queue = queue;
      bits = top_bit root.top + bit_of 2 m.expiration + bit_of 4 root.expiration;
      priority = m.priority;
      root_priority = root.priority;
      numbers = length e.label.path;
      retries = m.retries;
      first = first;
      epoch = m.id.epoch;
      number = m.id.number;
      available = m.available;
      expiration = moment_or_zero m.expiration;
      root_available = root.available;
      root_expiration = moment_or_zero root.expiration;
      root_epoch = root.arrival.epoch;
      root_number = root.arrival.number;
    }

-- a moment, where a bit says that there is one
abbrev pub moment_where : Bool → ℕ → Option ℕ
moment_where has at = if has then Some at else None

abbrev pub slot_arrival : MessageSlot → Arrival
slot_arrival s = record { epoch = s.epoch; number = s.number }

-- the path of a label: none, or the header's
abbrev pub slot_path : MessageSlot → Header → List Arrival
slot_path s h = if s.numbers == 0 then [] else h.path

abbrev pub label_of : MessageSlot → Header → Label
label_of s h =
    record {
      root = record {
        top = has_bit 1 s.bits;
        priority = s.root_priority;
        available = s.root_available;
        expiration = moment_where (has_bit 4 s.bits) s.root_expiration;
        arrival = record { epoch = s.root_epoch; number = s.root_number };
      };
      path = slot_path s h;
    }

-- the entry that they make in a space of this site and number
abbrev pub entry_with : ℕ → ℕ → MessageSlot → Header → Entry
entry_with site number s h =
    record {
      label = label_of s h;
      mark = Free;
      message = record {
        id = record { site = site; space = number; epoch = s.epoch; number = s.number };
        corr = h.corr;
        replyq = h.replyq;
        failq = h.failq;
        priority = s.priority;
        available = s.available;
        expiration = moment_where (has_bit 2 s.bits) s.expiration;
        qos = Persistent;
        reply_qos = h.reply_qos;
        urcode = h.urcode;
        retries = s.retries;
        body = Stored h.body_length;
      };
    }

-- seconds from 1970 on, the last of the year 9999
abbrev pub last_moment : ℕ
last_moment = 253402300799

abbrev pub is_priority : ℕ → Bool
is_priority n = nat_le 1 n && nat_le n 100

-- whether the times of a slot are moments, an expiration where a bit says that there is one
abbrev pub has_moments : MessageSlot → Bool
has_moments s =
    nat_le s.available last_moment && (not (has_bit 2 s.bits) || nat_le s.expiration last_moment)
    && nat_le s.root_available last_moment && (not (has_bit 4 s.bits) || nat_le s.root_expiration last_moment)

-- whether an arrival is of an epoch: the first one is 1
abbrev pub has_epoch : Arrival → Bool
has_epoch a = nat_le 1 a.epoch

-- whether the arrivals of a slot are of epochs, its message's and its root's
abbrev pub has_epochs : MessageSlot → Bool
has_epochs s = nat_le 1 s.epoch && nat_le 1 s.root_epoch

-- whether a slot is that of a Free entry, its numbers being within their limits
abbrev pub is_free_slot : MessageSlot → Bool
is_free_slot s = s.mark == 1 && s.branch == 0 && nat_le s.bits 7 && is_priority s.priority && is_priority s.root_priority && has_moments s && has_epochs s

-- whether a slot and a header are of one message: one arrival, of which the label ends, and no path or the header's, of epochs all
abbrev pub go_together : MessageSlot → Header → Bool
go_together s h =
    arrival_eq (slot_arrival s) h.arrival && (s.numbers == 0 || s.numbers == length h.path) && list_all has_epoch (slot_path s h)
    && arrival_eq (own_arrival (label_of s h)) (slot_arrival s)

-- The entry of a message slot and the header at its first page, for now of a Free one; none where they break a rule.
unfoldable pub entry_of_slot : ℕ → ℕ → MessageSlot → Header → Option Entry
entry_of_slot site number s h = if is_free_slot s && go_together s h then Some (entry_with site number s h) else None

-- an entry as it is held in a queue, with that body
abbrev pub held_entry : ℕ → List ℕ → Entry → HeldEntry
held_entry queue body e =
    let m = e.message in
    record {
      queue = queue;
      label = e.label;
      mark = marks.Free;
      message = record {
        id = m.id;
        corr = m.corr;
        replyq = m.replyq;
        failq = m.failq;
        priority = m.priority;
        available = m.available;
        expiration = m.expiration;
        qos = m.qos;
        reply_qos = m.reply_qos;
        urcode = m.urcode;
        retries = m.retries;
        body = body;
      };
    }

-- a slot without what is not read of it
abbrev pub read_slot : MessageSlot → MessageSlot
read_slot s =
    record s {
      expiration = if has_bit 2 s.bits then s.expiration else 0;
      root_expiration = if has_bit 4 s.bits then s.root_expiration else 0;
    }

-- a header without what is not read of it beside this slot
abbrev pub read_header : MessageSlot → Header → Header
read_header s h = record h { path = slot_path s h }

-- a moment within its limit, where there is one
abbrev pub is_moment_or_none : Option ℕ → Bool
is_moment_or_none None = true
is_moment_or_none (Some at) = nat_le at last_moment

-- an entry that a slot and a header can stand for, in a space of this site and number
pub record HasSlot (site number : ℕ) (e : Entry) : Type 0 where
  pub free : e.mark ≡ Free
  pub persistent : e.message.qos ≡ Persistent
  pub stored : e.message.body ≡ Stored (body_length e.message.body)
  pub site_is : e.message.id.site ≡ site
  pub space_is : e.message.id.space ≡ number
  pub own : own_arrival e.label ≡ record { epoch = e.message.id.epoch; number = e.message.id.number }
  pub priority : is_priority e.message.priority ≡ true
  pub root_priority : is_priority e.label.root.priority ≡ true
  pub available : nat_le e.message.available last_moment ≡ true
  pub expiration : is_moment_or_none e.message.expiration ≡ true
  pub root_available : nat_le e.label.root.available last_moment ≡ true
  pub root_expiration : is_moment_or_none e.label.root.expiration ≡ true
  pub epoch : nat_le 1 e.message.id.epoch ≡ true
  pub root_epoch : has_epoch e.label.root.arrival ≡ true
  pub path : list_all has_epoch e.label.path ≡ true
