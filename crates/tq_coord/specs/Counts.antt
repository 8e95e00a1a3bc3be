-- When the count of device failures rises in a boot, and in a request.
use Rattle.std.specs.Prelude.{◌≡◌, ◌≤◌, ℕ, Result, Ok, Err}
use Rattle.tq_host.specs.Calls.{Rose}
use Rattle.tq_devtab.specs.declared.error.TableError.{TableError}
use Rattle.tq_devtab.specs.declared.error.TableError.TheVariants as tables
use Rattle.tq_devtab.specs.declared.error.CreationError.{CreationError}
use Rattle.tq_devtab.specs.declared.error.CreationError.TheVariants as creations
use Rattle.tq_site.specs.declared.error.JournalError.{JournalError}
use Rattle.tq_site.specs.declared.error.JournalError.TheVariants as journals
use Rattle.tq_spacefile.specs.declared.fault.FileError.{FileError}
use Rattle.tq_spacefile.specs.declared.fault.FileError.TheVariants as files
use Rattle.tq_coord.specs.declared.failure.BootFailure.{BootFailure}
use Rattle.tq_coord.specs.declared.failure.BootFailure.TheVariants as boots
use Rattle.tq_coord.specs.declared.failure.Failure.{Failure}
use Rattle.tq_coord.specs.declared.failure.Failure.TheVariants.{Memory, Device}

-- a count rose, and did not fall
pub record Rises (before now : ℕ) : Type 0 where
  pub later : before ≤ now
  pub rose : Rose before now

-- The count rose where a device failed, and nowhere else.

abbrev pub CountsBoot : {T : Type 0} → Result T BootFailure → ℕ → ℕ → Type 0
CountsBoot (Ok x) before now = now ≡ before
CountsBoot (Err boots.Damaged) before now = now ≡ before
CountsBoot (Err boots.Memory) before now = now ≡ before
CountsBoot (Err boots.Device) before now = Rises before now

abbrev pub CountsFailure : {T : Type 0} → Result T Failure → ℕ → ℕ → Type 0
CountsFailure (Ok x) before now = now ≡ before
CountsFailure (Err Memory) before now = now ≡ before
CountsFailure (Err Device) before now = Rises before now

-- a boot's failure, where its space is not loaded
abbrev pub boot_failure_of : FileError → BootFailure
boot_failure_of files.Damaged = boots.Damaged
boot_failure_of files.Device = boots.Device
boot_failure_of files.NoMemory = boots.Memory

-- where its table or its journal is not loaded
abbrev pub boot_failure_of_table : TableError → BootFailure
boot_failure_of_table tables.Damaged = boots.Damaged
boot_failure_of_table tables.Device = boots.Device
boot_failure_of_table tables.NoMemory = boots.Memory

abbrev pub boot_failure_of_journal : JournalError → BootFailure
boot_failure_of_journal journals.Damaged = boots.Damaged
boot_failure_of_journal journals.Device = boots.Device
boot_failure_of_journal journals.NoMemory = boots.Memory

-- a request's failure, where its device is not made
abbrev pub failure_of_creation : CreationError → Failure
failure_of_creation creations.Device = Device
failure_of_creation creations.NoMemory = Memory
