-- What the faults of the parts of a space are to the space.
use Rattle.tq_gate.specs.declared.fault.GateError.{GateError}
use Rattle.tq_gate.specs.declared.fault.GateError.TheVariants as gate
use Rattle.tq_moves.specs.declared.fault.MoveError.{MoveError}
use Rattle.tq_moves.specs.declared.fault.MoveError.TheVariants as move
use Rattle.tq_pages.specs.declared.error.ChainError.{ChainError}
use Rattle.tq_pages.specs.declared.error.ChainError.TheVariants as chain
use Rattle.tq_pages.specs.declared.error.PageError.{PageError}
use Rattle.tq_pages.specs.declared.error.PageError.TheVariants as page
use Rattle.tq_store.specs.declared.fault.FileError.{FileError}
use Rattle.tq_store.specs.declared.fault.FileError.TheVariants.{Damaged, Device, NoMemory}

abbrev pub of_log : GateError → FileError
of_log (gate.Damaged at) = Damaged
of_log gate.Device = Device
of_log gate.NoMemory = NoMemory

abbrev pub of_record : MoveError → FileError
of_record (move.BadRecord at) = Damaged
of_record move.NoMemory = NoMemory

abbrev pub of_chain : ChainError → FileError
of_chain (chain.BadChain page) = Damaged
of_chain chain.Device = Device

abbrev pub of_page : PageError → FileError
of_page page.Device = Device
of_page page.NoMemory = NoMemory
