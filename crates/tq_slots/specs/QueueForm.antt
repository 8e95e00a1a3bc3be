-- The slot of a queue: the one that is made of a queue, and the queue that a slot gives.
use Rattle.std.specs.Prelude.{ℕ, ◌≡◌, ◌+◌, ◌==◌, ◌&&◌, nat_le, Bool, true, false, if◌then◌else◌, List, length, take, map, Option, Some, None}
use Rattle.std.specs.List.{list_all}
use Rattle.tq_types.specs.declared.messages.Qos.{Qos}
use Rattle.tq_types.specs.declared.messages.Qos.TheVariants.{Persistent, NonPersistent}
use Rattle.tq_types.specs.declared.orders.Criterion.{Criterion}
use Rattle.tq_types.specs.declared.orders.Criterion.TheVariants.{Priority, Time, Expiration}
use Rattle.tq_types.specs.declared.orders.Last.{Last}
use Rattle.tq_types.specs.declared.orders.Last.TheVariants.{Fifo, Lifo}
use Rattle.tq_types.specs.Order.{IsDistinct}
use Rattle.tq_types.specs.OrderValue.{OrderValue}
use Rattle.tq_model.specs.declared.space.QueueDef.{QueueDef}
use Rattle.tq_model.specs.Names.{is_name}
use Rattle.tq_model.specs.Reading.{no_two}
use Rattle.tq_slots.specs.declared.record.QueueSlot.{QueueSlot}
use Rattle.tq_slots.specs.MessageForm.{filled, has_bit, last_moment}

-- Numbers

abbrev pub criterion_number : Criterion → ℕ
criterion_number Priority = 1
criterion_number Time = 2
criterion_number Expiration = 3

abbrev pub criterion_of : ℕ → Criterion
criterion_of n = if n == 1 then Priority else if n == 2 then Time else Expiration

abbrev pub last_number : Last → ℕ
last_number Fifo = 1
last_number Lifo = 2

abbrev pub last_of : ℕ → Last
last_of n = if n == 1 then Fifo else Lifo

abbrev pub qos_number : Qos → ℕ
qos_number Persistent = 1
qos_number NonPersistent = 2

abbrev pub qos_of : ℕ → Qos
qos_of n = if n == 1 then Persistent else NonPersistent

-- that bit of a number, where it is set
abbrev pub bit_if : ℕ → Bool → ℕ
bit_if bit true = bit
bit_if bit false = 0

-- Writing

abbrev pub slot_of_queue : QueueDef → QueueSlot
slot_of_queue d =
    record {
      used = 1;
      name_length = length d.name;
      name = filled 127 d.name;
      count = length d.order.criteria;
      criteria = filled 3 (map criterion_number d.order.criteria);
      last = last_number d.order.last;
      rights = bit_if 1 d.top + bit_if 2 d.before;
      qos = qos_number d.qos;
      retries = d.retries;
      delay = d.delay;
    }

-- Reading

-- the name's bytes, and the criteria's numbers: what stands behind them is not read
abbrev pub slot_name : QueueSlot → List ℕ
slot_name s = take s.name_length s.name

abbrev pub slot_criteria : QueueSlot → List ℕ
slot_criteria s = take s.count s.criteria

abbrev pub is_criterion : ℕ → Bool
is_criterion n = nat_le 1 n && nat_le n 3

abbrev pub is_one_or_two : ℕ → Bool
is_one_or_two n = nat_le 1 n && nat_le n 2

abbrev pub are_one_number : ℕ → ℕ → Bool
are_one_number a b = a == b

-- criteria, of which none is repeated
abbrev pub are_criteria : List ℕ → Bool
are_criteria numbers = list_all is_criterion numbers && no_two are_one_number numbers

-- whether a slot is used, and its name is one
abbrev pub has_queue_name : QueueSlot → Bool
has_queue_name s = s.used == 1 && nat_le s.name_length 15 && is_name (slot_name s)

-- whether it has an order
abbrev pub has_queue_order : QueueSlot → Bool
has_queue_order s = nat_le s.count 3 && are_criteria (slot_criteria s) && is_one_or_two s.last

-- whether its other numbers are within their limits
abbrev pub has_queue_numbers : QueueSlot → Bool
has_queue_numbers s = nat_le s.rights 3 && is_one_or_two s.qos && nat_le s.delay last_moment

abbrev pub is_queue_slot : QueueSlot → Bool
is_queue_slot s = has_queue_name s && has_queue_order s && has_queue_numbers s

abbrev pub order_in_slot : QueueSlot → OrderValue
order_in_slot s = record { criteria = map criterion_of (slot_criteria s); last = last_of s.last }

abbrev pub queue_in_slot : QueueSlot → QueueDef
queue_in_slot s =
    record {
      name = slot_name s;
      order = order_in_slot s;
      top = has_bit 1 s.rights;
      before = has_bit 2 s.rights;
      qos = qos_of s.qos;
      retries = s.retries;
      delay = s.delay;
    }

-- The queue of a slot; none where it is unused, or breaks a rule.
unfoldable pub queue_of_slot : QueueSlot → Option QueueDef
queue_of_slot s = if is_queue_slot s then Some (queue_in_slot s) else None

-- a slot of no queue: nothing else is read of it
abbrev pub is_unused : QueueSlot → Bool
is_unused s = s.used == 0

-- a slot without what is not read of it
abbrev pub read_queue_slot : QueueSlot → QueueSlot
read_queue_slot s = record s { name = filled 127 (slot_name s); criteria = filled 3 (slot_criteria s) }

-- a queue that a slot can stand for
pub record HasQueueSlot (d : QueueDef) : Type 0 where
  pub name : is_name d.name ≡ true
  pub distinct : IsDistinct d.order.criteria
  pub delay : nat_le d.delay last_moment ≡ true

-- the runs of a slot have their widths, as those of each value of its type
pub record HasWidths (s : QueueSlot) : Type 0 where
  pub name : length s.name ≡ 127
  pub criteria : length s.criteria ≡ 3
