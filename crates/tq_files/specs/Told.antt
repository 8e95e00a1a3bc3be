-- What a host over files tells: its clock and its counts, and nothing of its content.
use Rattle.std.specs.Prelude.{◌≤◌, [], None}
use Rattle.tq_host.specs.View.{Told, View, IsLawful}
use Rattle.tq_host.specs.Calls.{next_count}
use Rattle.tq_files.specs.declared.tally.Tally.{Tally}
use Rattle.tq_files.specs.declared.part.Part.{Part}
use Rattle.tq_files.specs.declared.part.Part.TheVariants.{Device, Input, Output}

abbrev pub nothing : Told
nothing = record { reads = ⊥; script = ⊥; output = ⊥; stops = ⊥ }

abbrev pub file_view : Tally → View
file_view t = record {
  clock = t.clock;
  faults = t.device;
  streams = record { script = []; taken = 0; takes = []; output = []; stamps = []; input_faults = t.input; output_faults = t.output };
  reads = λ d. [];
  attached = λ d. None;
  may_leave = λ d c. ⊥;
  left_since = λ t p. ⊥;
}

pub file_lawful : (t : Tally) → IsLawful nothing (file_view t)
file_lawful t = record {
  reads_an_image = λ told. absurd told;
  stops_told = λ d c none. none;
  left_told = λ t p none. none;
  reads_told = λ told. told;
  stops_too = λ told. told;
  only_now = λ p none. absurd none;
  counts_now = λ t p le now. now.images 0;
  goes_on = λ told. absurd told;
}

abbrev pub fresh : Tally
fresh = record { clock = 0; device = 0; input = 0; output = 0 }

-- after a call that succeeded
abbrev pub ticked : Tally → Tally
ticked t = record t { clock = next_count t.clock }

-- after a call on this part that failed
abbrev pub failed : Part → Tally → Tally
failed (Device dev) t = record t { clock = next_count t.clock; device = next_count t.device }
failed Input t = record t { clock = next_count t.clock; input = next_count t.input }
failed Output t = record t { clock = next_count t.clock; output = next_count t.output }

-- neither the clock nor a count falls
pub record NoneFalls (old new : Tally) : Type 0 where
  pub clock : old.clock ≤ new.clock
  pub device : old.device ≤ new.device
  pub input : old.input ≤ new.input
  pub output : old.output ≤ new.output
