-- Errors of a gated log as errors of a journal.
use Rattle.tq_gate.specs.declared.fault.GateError.{GateError}
use Rattle.tq_gate.specs.declared.fault.GateError.TheVariants as gate
use Rattle.tq_site.specs.declared.error.JournalError.{JournalError}
use Rattle.tq_site.specs.declared.error.JournalError.TheVariants.{Damaged, Device, NoMemory}

abbrev pub error_of_gate : GateError → JournalError
error_of_gate (gate.Damaged at) = Damaged
error_of_gate gate.Device = Device
error_of_gate gate.NoMemory = NoMemory
