-- What refuses a space, and errors of the crates below as errors of a table.
use Rattle.std.specs.Prelude.{◌≡◌, ◌<◌, ◌≤◌, ◌⊎◌, ℕ, true, false, List, length}
use Rattle.tq_extent.specs.declared.clusters.TakeError.{TakeError}
use Rattle.tq_extent.specs.declared.clusters.TakeError.TheVariants as take
use Rattle.tq_gate.specs.declared.fault.GateError.{GateError}
use Rattle.tq_gate.specs.declared.fault.GateError.TheVariants as gate
use Rattle.tq_model.specs.Site.{present, table_entries, last_space, clusters_for}
use Rattle.tq_devtab.specs.declared.error.TableError.{TableError}
use Rattle.tq_devtab.specs.declared.error.TableError.TheVariants as errors
use Rattle.tq_devtab.specs.declared.error.ReserveError.{ReserveError}
use Rattle.tq_devtab.specs.declared.error.ReserveError.TheVariants.{Taken, TableFull, Lack, NoMemory}
use Rattle.tq_devtab.specs.declared.error.ExtendError.{ExtendError}
use Rattle.tq_devtab.specs.declared.error.ExtendError.TheVariants as extend
use Rattle.tq_devtab.specs.Volume.{TablePart, free_of, has_named}

abbrev pub error_of_gate : GateError → TableError
error_of_gate (gate.Damaged at) = errors.Damaged
error_of_gate gate.Device = errors.Device
error_of_gate gate.NoMemory = errors.NoMemory

abbrev pub error_of_take : TakeError → ReserveError
error_of_take (take.Lack room) = Lack room
error_of_take take.NoMemory = NoMemory

-- no entry is left, or no ordinal
abbrev pub IsFull : TablePart → Type 0
IsFull d = (table_entries ≤ length (present d.entries)) ⊎ (last_space ≤ d.next_space)

-- there are an entry and an ordinal left
abbrev pub HasRoom : TablePart → Type 0
HasRoom d = (length (present d.entries) < table_entries) × (d.next_space < last_space)

-- why a space of that name and so many pages is not reserved
abbrev pub IsRefusal : TablePart → List ℕ → ℕ → ReserveError → Type 0
IsRefusal d name pages Taken = has_named name d ≡ true
IsRefusal d name pages TableFull = (has_named name d ≡ false) × IsFull d
IsRefusal d name pages (Lack room) = (has_named name d ≡ false) × HasRoom d × (free_of d < clusters_for pages) × (room ≡ record { need = clusters_for pages; free = free_of d })
IsRefusal d name pages NoMemory = (has_named name d ≡ false) × HasRoom d × (clusters_for pages ≤ free_of d)

-- why a space does not get so many clusters more where so many are free
abbrev pub IsShort : ℕ → ℕ → ExtendError → Type 0
IsShort need free (extend.Lack room) = (free < need) × (room ≡ record { need = need; free = free })
IsShort need free extend.Device = need ≤ free
IsShort need free extend.NoMemory = need ≤ free
