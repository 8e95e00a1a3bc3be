-- A record that comes into a space.
use Rattle.std.specs.Prelude.{◌≡◌, ◌<◌, ◌+◌, ℕ, [], ◌∷◌}
use Rattle.tq_gate.specs.declared.log.GateLog.{GateLog}
use Rattle.tq_gate.specs.Log.{free_in}
use Rattle.tq_model.specs.declared.answer.LogRoom.{LogRoom}
use Rattle.tq_model.specs.declared.record.SpaceRecord.{SpaceRecord}
use Rattle.tq_model.specs.Moves.{IndexedSpace, moved}
use Rattle.tq_model.specs.SpaceForm.{move_of}
use Rattle.tq_space.specs.declared.plans.Plan.{Plan}
use Rattle.tq_space.specs.Plain.{CanMove}
use Rattle.tq_model.specs.SpaceLog.{IsShort}

-- A plan of one move, which this record says; a payload can spell the record.
pub record IsRecorded (s : IndexedSpace) (plan : Plan) (r : SpaceRecord) : Type 0 where
  pub purge : plan.purge ≡ []
  pub moves : plan.moves ≡ move_of s r ∷ []
  pub can : CanMove (move_of s r) s
  pub short : IsShort r

-- the space with a record more
abbrev pub with_record : SpaceRecord → IndexedSpace → IndexedSpace
with_record r s = moved (move_of s r) s

-- a payload of so many bytes does not fit in the log, which lacks this room
pub record LacksRoom (log : GateLog) (size : ℕ) (room : LogRoom) : Type 0 where
  pub past : free_in log < size + 6
  pub room_is : room ≡ record { need = size + 6; free = free_in log }
