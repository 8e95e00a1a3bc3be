-- What of a plan is durable, in the form that spaces have for now: its one move, which a record says and a payload spells.
use Rattle.std.specs.Prelude.{◌≡◌, ◌≤◌, ℕ, true, List, [], ◌∷◌, length, Option, Some, None}
use Rattle.tq_types.specs.declared.identifiers.Arrival.{Arrival}
use Rattle.tq_types.specs.declared.identifiers.MsgId.{MsgId}
use Rattle.tq_model.specs.declared.space.SpaceMove.{SpaceMove}
use Rattle.tq_model.specs.declared.space.SpaceMove.TheVariants.{Insert, Remove, Replace, PutQueue, DropQueue}
use Rattle.tq_model.specs.declared.record.SpaceRecord.{SpaceRecord}
use Rattle.tq_model.specs.declared.record.SpaceRecord.TheVariants.{Added, Gone, QueueMade}
use Rattle.tq_model.specs.Moves.{IndexedSpace}
use Rattle.tq_model.specs.SpaceForm.{spelt, longest_body, move_of, can_follow}

abbrev pub arrival_of : MsgId → Arrival
arrival_of id = record { epoch = id.epoch; number = id.number }

-- what a record keeps of a move; of a change of an entry, and of a queue that is dropped, there is none
abbrev pub record_of : SpaceMove → Option SpaceRecord
record_of (Insert e) = Some (Added e.queue e.label.root.arrival e.message.body)
record_of (Remove id) = Some (Gone (arrival_of id))
record_of (Replace c) = None
record_of (PutQueue index d) = Some (QueueMade index d.name)
record_of (DropQueue index) = None

-- the body, where there is one, is no longer than a body is
abbrev pub IsShort : SpaceRecord → Type 0
IsShort (Added queue arrival body) = length body ≤ longest_body
IsShort (Gone arrival) = Unit {0}
IsShort (QueueMade index name) = Unit {0}

-- the record says all of the move, and a payload can spell it
abbrev pub IsSaidBy : IndexedSpace → SpaceMove → Option SpaceRecord → Type 0
IsSaidBy s move None = ⊥
IsSaidBy s move (Some r) = (move ≡ move_of s r) × IsShort r

abbrev pub IsSaid : IndexedSpace → SpaceMove → Type 0
IsSaid s move = IsSaidBy s move (record_of move)

-- the bytes of the payload of a record
abbrev pub spelt_size : Option SpaceRecord → ℕ
spelt_size None = 0
spelt_size (Some r) = length (spelt r)

-- the bytes of the payload of one move
abbrev pub size_in_log : List SpaceMove → ℕ
size_in_log [] = 0
size_in_log (move ∷ moves) = spelt_size (record_of move)

-- the record may come next in a log whose epochs are up to this one
abbrev pub CanFollow : ℕ → IndexedSpace → Option SpaceRecord → Type 0
CanFollow epoch s None = ⊥
CanFollow epoch s (Some r) = can_follow epoch s r ≡ true

-- so may one move
abbrev pub CanFollowBy : ℕ → IndexedSpace → List SpaceMove → Type 0
CanFollowBy epoch s [] = ⊥
CanFollowBy epoch s (move ∷ moves) = CanFollow epoch s (record_of move)
