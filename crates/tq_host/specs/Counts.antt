-- The three counts of failed calls.
use Rattle.std.specs.Prelude.{◌≤◌}
use Rattle.tq_host.specs.declared.counts.Counts.{Counts}
use Rattle.tq_host.specs.declared.counts.Part.{Part}
use Rattle.tq_host.specs.declared.counts.Part.TheVariants.{Devices, Input, Output}
use Rattle.tq_host.specs.Calls.{next_count}

abbrev pub no_faults : Counts
no_faults = record { device = 0; input = 0; output = 0 }

-- one more failed call on this part
abbrev pub raised : Part → Counts → Counts
raised Devices counts = record counts { device = next_count counts.device }
raised Input counts = record counts { input = next_count counts.input }
raised Output counts = record counts { output = next_count counts.output }

-- no count falls
pub record NoneFalls (old new : Counts) : Type 0 where
  pub device : old.device ≤ new.device
  pub input : old.input ≤ new.input
  pub output : old.output ≤ new.output
