-- How a record of a space's log is spelt, and how bytes are read as a record.
use Rattle.std.specs.Prelude.{ℕ, zero, suc, ◌≡◌, ◌+◌, ◌-◌, ◌*◌, ◌/◌, ◌%◌, ◌<◌, ◌≤◌, ◌==◌, ◌&&◌, nat_le, Bool, true, false, if◌then◌else◌, List, [], ◌∷◌, ◌++◌, length, get_or, take, drop, Option, Some, None, Result, Ok, Err}
use Rattle.std.specs.List.{flat_map, AllByRecursion}
use Rattle.tq_field.specs.Digits.{digits}
use Rattle.tq_field.specs.Places.{run_at, number_at}
use Rattle.tq_slots.specs.declared.record.RecKind.{RecKind}
use Rattle.tq_slots.specs.declared.record.RecKind.TheVariants.{Apply, Prepare, End, Heuristic, Forget, Catalog}
use Rattle.tq_slots.specs.declared.record.MessageSlot.{MessageSlot}
use Rattle.tq_slots.specs.declared.record.QueueSlot.{QueueSlot}
use Rattle.tq_slots.specs.declared.record.BranchSlot.{BranchSlot}
use Rattle.tq_slots.specs.declared.record.Set.{Set}
use Rattle.tq_slots.specs.declared.record.Set.TheVariants as sets
use Rattle.tq_slots.specs.declared.record.Rec.{Rec}
use Rattle.tq_slots.specs.Fields.{Field, Number, Run, fields_spelt, AreFields}

-- a record without where it lies in memory
pub record Record : Type 0 where
  pub kind : RecKind
  pub sets : List Set

abbrev pub record_view : Rec → Record
record_view r = record { kind = r.kind; sets = r.sets.items }

-- Spelling: a number has its digits, and each byte that says nothing is 0.

abbrev pub message_fields : MessageSlot → List Field
message_fields m =
    Number 1 m.mark ∷ Number 1 m.branch ∷ Number 1 m.queue ∷ Number 1 m.bits ∷ Number 1 m.priority ∷ Number 1 m.root_priority ∷ Number 1 m.numbers ∷ Number 1 0
    ∷ Number 4 m.retries ∷ Number 4 m.first ∷ Number 4 m.epoch ∷ Number 4 m.number
    ∷ Number 8 m.available ∷ Number 8 m.expiration ∷ Number 8 m.root_available ∷ Number 8 m.root_expiration
    ∷ Number 4 m.root_epoch ∷ Number 4 m.root_number ∷ []

abbrev pub queue_fields : QueueSlot → List Field
queue_fields q =
    Number 1 q.used ∷ Number 1 q.name_length ∷ Run 127 q.name ∷ Number 1 0
    ∷ Number 1 q.count ∷ Run 3 q.criteria ∷ Number 1 q.last ∷ Number 1 q.rights ∷ Number 1 q.qos ∷ Number 3 0
    ∷ Number 4 q.retries ∷ Number 8 q.delay ∷ Number 360 0 ∷ []

abbrev pub branch_fields : BranchSlot → List Field
branch_fields b =
    Number 1 b.state ∷ Number 1 b.gtrid_length ∷ Number 1 b.bqual_length ∷ Number 1 0
    ∷ Number 4 b.format ∷ Number 4 b.number ∷ Run 64 b.gtrid ∷ Run 64 b.bqual ∷ Number 20 0 ∷ []

-- what a slot's bytes are
unfoldable pub slot_spelt : Set → List ℕ
slot_spelt (sets.Message index m) = fields_spelt (message_fields m)
slot_spelt (sets.Queue index q) = fields_spelt (queue_fields q)
slot_spelt (sets.Branch index b) = fields_spelt (branch_fields b)

-- a set's tag and index as one number, by which sets ascend
abbrev pub key_of : Set → ℕ
key_of (sets.Message index m) = 65536 + index
key_of (sets.Queue index q) = 131072 + index
key_of (sets.Branch index b) = 196608 + index

-- a tag of 1 byte, an index of 2 and the slot
abbrev pub set_spelt : Set → List ℕ
set_spelt s = digits 3 (key_of s) ++ slot_spelt s

abbrev pub kind_number : RecKind → ℕ
kind_number Apply = 1
kind_number Prepare = 2
kind_number End = 3
kind_number Heuristic = 4
kind_number Forget = 5
kind_number Catalog = 6

abbrev pub spelt : Record → List ℕ
spelt r = digits 1 (kind_number r.kind) ++ (digits 2 (length r.sets) ++ flat_map set_spelt r.sets)

-- Reading, from left to right: Ok with what is read and the bytes behind it, or the place of the first byte that does not fit.

infixl 10 ◌>>=◌
abbrev pub ◌>>=◌ : {A B : Type 0} → Result A ℕ → (A → Result B ℕ) → Result B ℕ
(Ok x) >>= f = f x
(Err at) >>= f = Err at

-- a byte from the least to the most
abbrev pub byte_in : ℕ → ℕ → ℕ → List ℕ → Result (ℕ × List ℕ) ℕ
byte_in least most at [] = Err at
byte_in least most at (b ∷ rest) = if nat_le least b && nat_le b most then Ok (b, rest) else Err at

-- so many bytes; where they end before, the place where they do
abbrev pub run_in : ℕ → ℕ → List ℕ → Result (List ℕ × List ℕ) ℕ
run_in n at bytes = if nat_le n (length bytes) then Ok (take n bytes, drop n bytes) else Err (at + length bytes)

-- the least second and third byte of a key that is at least that one, behind these before it
abbrev pub least_high : ℕ → ℕ → ℕ
least_high least tag = if tag == least / 65536 then least / 256 % 256 else 0

abbrev pub least_low : ℕ → ℕ → ℕ
least_low least front = if front == least / 256 then least % 256 else 0

-- the key of a set, which is at least that one
unfoldable pub key_in : ℕ → ℕ → List ℕ → Result (ℕ × List ℕ) ℕ
key_in least at bytes = do
  tag ← byte_in (least / 65536) 3 at bytes
  high ← byte_in (least_high least tag.0) 255 (at + 1) tag.1
  low ← byte_in (least_low least (tag.0 * 256 + high.0)) 255 (at + 2) high.1
  Ok (tag.0 * 65536 + high.0 * 256 + low.0, low.1)

-- what the bytes of a slot say
unfoldable pub message_slot : List ℕ → MessageSlot
message_slot bytes =
    record {
      mark = get_or bytes 0 0;
      branch = get_or bytes 1 0;
      queue = get_or bytes 2 0;
      bits = get_or bytes 3 0;
      priority = get_or bytes 4 0;
      root_priority = get_or bytes 5 0;
      numbers = get_or bytes 6 0;
      retries = number_at 8 4 bytes;
      first = number_at 12 4 bytes;
      epoch = number_at 16 4 bytes;
      number = number_at 20 4 bytes;
      available = number_at 24 8 bytes;
      expiration = number_at 32 8 bytes;
      root_available = number_at 40 8 bytes;
      root_expiration = number_at 48 8 bytes;
      root_epoch = number_at 56 4 bytes;
      root_number = number_at 60 4 bytes;
    }

unfoldable pub queue_slot : List ℕ → QueueSlot
queue_slot bytes =
    record {
      used = get_or bytes 0 0;
      name_length = get_or bytes 1 0;
      name = run_at 2 127 bytes;
      count = get_or bytes 130 0;
      criteria = run_at 131 3 bytes;
      last = get_or bytes 134 0;
      rights = get_or bytes 135 0;
      qos = get_or bytes 136 0;
      retries = number_at 140 4 bytes;
      delay = number_at 144 8 bytes;
    }

unfoldable pub branch_slot : List ℕ → BranchSlot
branch_slot bytes =
    record {
      state = get_or bytes 0 0;
      gtrid_length = get_or bytes 1 0;
      bqual_length = get_or bytes 2 0;
      format = number_at 4 4 bytes;
      number = number_at 8 4 bytes;
      gtrid = run_at 12 64 bytes;
      bqual = run_at 76 64 bytes;
    }

-- the bytes of a slot with that tag
abbrev pub slot_size : ℕ → ℕ
slot_size tag = if tag == 1 then 64 else if tag == 2 then 512 else 160

-- the set of that tag and index whose slot has these bytes
abbrev pub set_of : ℕ → ℕ → List ℕ → Set
set_of tag index slot =
    if tag == 1 then sets.Message index (message_slot slot)
    else if tag == 2 then sets.Queue index (queue_slot slot)
    else sets.Branch index (branch_slot slot)

unfoldable pub set_in : ℕ → ℕ → List ℕ → Result (Set × List ℕ) ℕ
set_in least at bytes = do
  key ← key_in least at bytes
  slot ← run_in (slot_size (key.0 / 65536)) (at + 3) key.1
  Ok (set_of (key.0 / 65536) (key.0 % 65536) slot.0, slot.1)

-- so many sets, each with a key above that of the one before
unfoldable pub sets_in : ℕ → ℕ → ℕ → List ℕ → Result (List Set × List ℕ) ℕ
sets_in zero least at bytes = Ok ([], bytes)
sets_in (suc count) least at bytes = do
  first ← set_in least at bytes
  others ← sets_in count (key_of first.0 + 1) (at + (length bytes - length first.1)) first.1
  Ok (first.0 ∷ others.0, others.1)

abbrev pub kind_of : ℕ → RecKind
kind_of n =
    if n == 1 then Apply
    else if n == 2 then Prepare
    else if n == 3 then End
    else if n == 4 then Heuristic
    else if n == 5 then Forget
    else Catalog

-- a kind, a number of sets and the sets, and nothing behind them
unfoldable pub record_in : List ℕ → Result Record ℕ
record_in bytes = do
  kind ← byte_in 1 6 0 bytes
  count ← run_in 2 1 kind.1
  found ← sets_in (number_at 0 2 count.0) 65536 3 count.1
  if length found.1 == 0 then Ok (record { kind = kind_of kind.0; sets = found.0 }) else Err (length bytes - length found.1)

-- the record that bytes spell
abbrev pub record_read : List ℕ → Option Record
record_read bytes = found (record_in bytes)
  where
    found : Result Record ℕ → Option Record
    found (Ok r) = Some r
    found (Err at) = None

-- the place of the first byte that does not fit, where bytes spell no record
abbrev pub misfit : List ℕ → Option ℕ
misfit bytes = place (record_in bytes)
  where
    place : Result Record ℕ → Option ℕ
    place (Ok r) = None
    place (Err at) = Some at

-- sets whose keys ascend from the least one on
abbrev pub AreAscending : ℕ → List Set → Type 0
AreAscending least [] = Unit {0}
AreAscending least (s ∷ sets) = (least ≤ key_of s) × AreAscending (key_of s + 1) sets

-- a set whose numbers have the bytes for what they say
abbrev pub IsSet : Set → Type 0
IsSet (sets.Message index m) = (index < 65536) × AreFields (message_fields m)
IsSet (sets.Queue index q) = (index < 65536) × AreFields (queue_fields q)
IsSet (sets.Branch index b) = (index < 65536) × AreFields (branch_fields b)

abbrev pub AreSets : List Set → Type 0
AreSets sets = AllByRecursion IsSet sets

-- what can be spelt
pub record IsRecord (r : Record) : Type 0 where
  pub few : length r.sets < 65536
  pub ascending : AreAscending 65536 r.sets

-- Which bytes spell a record: those that say nothing may be any.

-- these are the bytes of a set's slot, and they say what it says
abbrev pub IsSlot : Set → List ℕ → Type 0
IsSlot (sets.Message index m) slot = (index < 65536) × (length slot ≡ 64) × (message_slot slot ≡ m)
IsSlot (sets.Queue index q) slot = (index < 65536) × (length slot ≡ 512) × (queue_slot slot ≡ q)
IsSlot (sets.Branch index b) slot = (index < 65536) × (length slot ≡ 160) × (branch_slot slot ≡ b)

-- these bytes spell the sets, and end with the rest
unfoldable pub AreSpelt : List Set → List ℕ → List ℕ → Type 0
AreSpelt [] bytes rest = bytes ≡ rest
AreSpelt (s ∷ xs) bytes rest = (slot : List ℕ) × (more : List ℕ) × (bytes ≡ digits 3 (key_of s) ++ (slot ++ more)) × IsSlot s slot × AreSpelt xs more rest

-- a record that these bytes spell
pub record IsSpelling (r : Record) (bytes : List ℕ) : Type 0 where
  pub sets_bytes : List ℕ
  pub front : bytes ≡ digits 1 (kind_number r.kind) ++ (digits 2 (length r.sets) ++ sets_bytes)
  pub sets : AreSpelt r.sets sets_bytes []

-- A record of a message that is put onto pages: its first page is known once it is written.

abbrev pub is_message : Set → Bool
is_message (sets.Message index m) = true
is_message (sets.Queue index q) = false
is_message (sets.Branch index b) = false

-- a message set stands at that place of the list
abbrev pub IsMessageAt : ℕ → List Set → Type 0
IsMessageAt k [] = ⊥
IsMessageAt zero (s ∷ xs) = is_message s ≡ true
IsMessageAt (suc k) (s ∷ xs) = IsMessageAt k xs

-- a message set with another first page
abbrev pub with_first : ℕ → Set → Set
with_first page (sets.Message index m) = sets.Message index (record m { first = page })
with_first page (sets.Queue index q) = sets.Queue index q
with_first page (sets.Branch index b) = sets.Branch index b

-- the list with what stands at a place of it changed
abbrev pub changed_at : {X : Type 0} → ℕ → (X → X) → List X → List X
changed_at k change [] = []
changed_at zero change (x ∷ xs) = change x ∷ xs
changed_at (suc k) change (x ∷ xs) = x ∷ changed_at k change xs
