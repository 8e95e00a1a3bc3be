-- What a host over files keeps of the first failed call on each part.
use Rattle.std.specs.Prelude.{Some, None, Result, Ok, Err}
use Rattle.std.specs.Option.{option_or}
use Rattle.std.specs.declared.io.Error.{Error}
use Rattle.tq_files.specs.declared.failures.FirstFailures.{FirstFailures}
use Rattle.tq_files.specs.declared.part.Part.{Part}
use Rattle.tq_files.specs.declared.part.Part.TheVariants.{Device, Input, Output}

abbrev pub none_failed : FirstFailures
none_failed = record { device = None; input = None; output = None }

-- after a call on this part failed by this error: an earlier failure stays
abbrev pub with_failure : Part → Error → FirstFailures → FirstFailures
with_failure (Device dev) error first = record first { device = option_or first.device (Some (record { dev = dev; error = error })) }
with_failure Input error first = record first { input = option_or first.input (Some error) }
with_failure Output error first = record first { output = option_or first.output (Some error) }

-- after a call on this part that came to this
abbrev pub first_after : {T : Type 0} → Part → Result T Error → FirstFailures → FirstFailures
first_after part (Ok value) first = first
first_after part (Err error) first = with_failure part error first
