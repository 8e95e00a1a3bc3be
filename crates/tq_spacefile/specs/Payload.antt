-- Records and their payloads.
use Rattle.std.specs.Prelude.{◌≡◌, ◌<◌, ◌≤◌, ◌^◌, ℕ, true, List, length, Option, Some, None}
use Rattle.tq_types.specs.declared.identifiers.Arrival.{Arrival}
use Rattle.tq_model.specs.declared.record.SpaceRecord.{SpaceRecord}
use Rattle.tq_model.specs.declared.record.SpaceRecord.TheVariants.{Added, Gone, QueueMade}
use Rattle.tq_model.specs.Names.{is_name}
use Rattle.tq_model.specs.SpaceForm.{longest_body, spelt, record_in}
use Rattle.tq_spacefile.specs.declared.fault.RecordError.{RecordError}
use Rattle.tq_spacefile.specs.declared.fault.RecordError.TheVariants.{Unspelt, NoMemory}

-- what a refusal says of the record that was looked for
abbrev pub IsRefusedBy : Option SpaceRecord → RecordError → Type 0
IsRefusedBy found Unspelt = found ≡ None
IsRefusedBy found NoMemory = Unit {0}

abbrev pub IsRefused : List ℕ → RecordError → Type 0
IsRefused bytes e = IsRefusedBy (record_in bytes) e

abbrev pub IsArrival : Arrival → Type 0
IsArrival arrival = (arrival.epoch < 2 ^ 32) × (arrival.number < 2 ^ 32)

-- the numbers fit their fields, the body is no longer than a body is, and the name is one
abbrev pub IsInRange : SpaceRecord → Type 0
IsInRange (Added queue arrival body) = (queue < 2 ^ 16) × IsArrival arrival × (length body ≤ longest_body)
IsInRange (Gone arrival) = IsArrival arrival
IsInRange (QueueMade index name) = (index < 2 ^ 16) × (is_name name ≡ true)

-- these bytes spell the record, and are read as it
pub record IsPayloadOf (r : SpaceRecord) (bytes : List ℕ) : Type 0 where
  pub spells : bytes ≡ spelt r
  pub back : record_in bytes ≡ Some r
