-- What a scan of the bytes of a log finds.
use Rattle.std.specs.Prelude.{ℕ, List}
use Rattle.tq_gate.specs.declared.scanning.ScanError.{ScanError}
use Rattle.tq_gate.specs.declared.scanning.ScanError.TheVariants.{Damaged, NoMemory}
use Rattle.tq_gate.specs.Reading.{IsDamagedAt}

-- what a scan that fails says of the log
abbrev pub IsScanFault : List ℕ → ScanError → Type 0
IsScanFault log (Damaged at) = IsDamagedAt log at
IsScanFault log NoMemory = Unit {0}
