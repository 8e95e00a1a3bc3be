-- The first page of a space.
use Rattle.std.specs.Prelude.{◌≡◌, ℕ, ◌++◌, ◌&&◌, nat_le, nat_lt, if◌then◌else◌, Bool, true, List, [], length, get_or, codes, Option, Some, None}
use Rattle.tq_field.specs.Digits.{digits}
use Rattle.tq_model.specs.declared.space.Shape.{Shape}
use Rattle.tq_model.specs.Names.{is_name}
use Rattle.tq_model.specs.Space.{overhead_pages}
use Rattle.tq_model.specs.SpaceForm.{RawSpace, raw_space, shape_of, error_spelt}
use Rattle.tq_model.specs.Site.{most_queues, most_transactions, most_messages, most_memory}
use Rattle.tq_model.specs.Reading.{hold_all}
use Rattle.tq_slots.specs.SpaceReading.{creation_tests}

-- the bytes are these, and behind them zeros
abbrev pub IsZeroPadded : List ℕ → List ℕ → Type 0
IsZeroPadded start bytes = (i : ℕ) → get_or bytes i 0 ≡ get_or start i 0

-- the mark and the numbers of a first page
abbrev pub numbers_spelt : Shape → List ℕ
numbers_spelt s = codes "TQSPACE1" ++ digits 2 1 ++ digits 2 s.queues ++ digits 2 s.messages ++ digits 2 s.transactions ++ digits 8 s.memory

-- the first bytes of a first page; all behind them is zero
abbrev pub page_spelt : Shape → List ℕ
page_spelt s = numbers_spelt s ++ error_spelt s.error

-- the first page of a space of that shape, read
abbrev pub error_size : Option (List ℕ) → ℕ
error_size None = 0
error_size (Some name) = length name

abbrev pub error_bytes : Option (List ℕ) → List ℕ
error_bytes None = []
error_bytes (Some name) = name

abbrev pub raw_of : Shape → RawSpace
raw_of s = record {
  mark = codes "TQSPACE1";
  version = 1;
  queues = s.queues;
  messages = s.messages;
  transactions = s.transactions;
  memory = s.memory;
  error_size = error_size s.error;
  error = error_bytes s.error;
}

-- the numbers of a creation are within their limits, and the pages are more than the overhead
abbrev pub are_limits : Shape → Bool
are_limits s =
    (nat_le 1 s.queues && nat_le s.queues most_queues) && (nat_le 1 s.messages && nat_le s.messages most_messages)
    && (nat_le 1 s.transactions && nat_le s.transactions most_transactions) && nat_le s.memory most_memory && nat_lt (overhead_pages s) s.pages

-- no error queue, or one whose name is a name
abbrev pub is_error : Option (List ℕ) → Bool
is_error None = true
is_error (Some name) = is_name name

abbrev pub is_creation : Shape → Bool
is_creation s = are_limits s && is_error s.error

-- the shape of the space with so many pages and this first page, if it is the first page of one
abbrev pub shape_in : ℕ → List ℕ → Option Shape
shape_in pages page = if hold_all (creation_tests pages (raw_space page)) then Some (shape_of pages (raw_space page)) else None
