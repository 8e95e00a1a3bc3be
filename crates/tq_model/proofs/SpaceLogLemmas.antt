-- The payloads of records: their lengths, and the moves that they say.
use Rattle.std.proofs.Common.{◌≡◌, List, ℕ, length, length-append, Some, refl, arith}
use Rattle.tq_field.proofs.Numbers.{length-digits}
use Rattle.tq_types.specs.declared.identifiers.Arrival.{Arrival}
use Rattle.tq_model.specs.declared.record.SpaceRecord.{SpaceRecord}
use Rattle.tq_model.specs.declared.record.SpaceRecord.TheVariants.{Added, Gone, QueueMade}
use Rattle.tq_model.specs.Moves.{IndexedSpace}
use Rattle.tq_model.specs.SpaceForm.{spelt, move_of, added_length, gone_length, made_length}
use Rattle.tq_model.specs.SpaceLog.{record_of}

-- the lengths of payloads
pub added_size : (queue : ℕ) (arrival : Arrival) (body : List ℕ) → length (spelt (Added queue arrival body)) ≡ added_length body
added_size queue arrival body = simp (length-append {A = ℕ}, length-digits) (omega arith)

pub gone_size : (arrival : Arrival) → length (spelt (Gone arrival)) ≡ gone_length
gone_size arrival = simp (length-append {A = ℕ}, length-digits) (omega arith)

pub made_size : (index : ℕ) (name : List ℕ) → length (spelt (QueueMade index name)) ≡ made_length name
made_size index name = simp (length-append {A = ℕ}, length-digits) (omega arith)

pub record_back : (s : IndexedSpace) (r : SpaceRecord) → record_of (move_of s r) ≡ Some r
record_back s (Added queue arrival body) = refl
record_back s (Gone arrival) = refl
record_back s (QueueMade index name) = refl
