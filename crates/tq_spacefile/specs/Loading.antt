-- What a load of a space finds.
use Rattle.std.specs.Prelude.{◌≡◌, ◌+◌, ◌&&◌, nat_le, nat_lt, not, Bool, ℕ, List, map, Option, None, Vec}
use Rattle.std.specs.List.{list_any}
use Rattle.std.specs.declared.alloc.Global.{Global}
use Rattle.tq_types.specs.declared.identifiers.Arrival.{Arrival}
use Rattle.tq_gate.specs.declared.fault.GateError.{GateError}
use Rattle.tq_gate.specs.declared.fault.GateError.TheVariants as gate
use Rattle.tq_model.specs.Room.{pages_for, messages_held, pages_held}
use Rattle.tq_model.specs.Moves.{IndexedSpace, space_of, has_index}
use Rattle.tq_model.specs.SpaceForm.{holds_arrival, empty_space, replayed}
use Rattle.tq_model.specs.declared.space.Shape.{Shape}
use Rattle.tq_gate.specs.Reading.{Content}
use Rattle.tq_spacefile.specs.declared.place.SpacePlace.{SpacePlace}
use Rattle.tq_spacefile.specs.declared.fault.FileError.{FileError}
use Rattle.tq_spacefile.specs.declared.fault.FileError.TheVariants.{Damaged, Device, NoMemory}
use Rattle.tq_spacefile.specs.declared.fault.RecordError.{RecordError}
use Rattle.tq_spacefile.specs.declared.fault.RecordError.TheVariants as record_error

-- what a refusal says of the space that was looked for
abbrev pub IsUnread : Option IndexedSpace → FileError → Type 0
IsUnread found Damaged = found ≡ None
IsUnread found Device = ⊥
IsUnread found NoMemory = Unit {0}

-- the bytes of payloads
abbrev pub bytes_of : List (Vec ℕ Global) → List (List ℕ)
bytes_of payloads = map (λ payload. payload.items) payloads

-- the space of this creation that the payloads of its log make
abbrev pub loaded_space : ℕ → Shape → SpacePlace → Content → Option IndexedSpace
loaded_space epoch shape place content = replayed epoch content.payloads (empty_space shape place.site place.number)

-- a payload that says nothing, and a log that has no reading, are damage
abbrev pub unread_payload : RecordError → FileError
unread_payload record_error.Unspelt = Damaged
unread_payload record_error.NoMemory = NoMemory

abbrev pub unread_log : GateError → FileError
unread_log (gate.Damaged at) = Damaged
unread_log gate.Device = Device
unread_log gate.NoMemory = NoMemory

-- a message may come that has a body of so many bytes
abbrev pub can_add_sized : ℕ → IndexedSpace → ℕ → Arrival → ℕ → Bool
can_add_sized epoch s queue arrival size =
    list_any (has_index queue) s.queues && (nat_le 1 arrival.epoch && nat_le arrival.epoch epoch) && not (holds_arrival s arrival)
    && (nat_lt (messages_held (space_of s)) s.limits.messages && nat_le (pages_held (space_of s) + pages_for size) s.limits.pages)
