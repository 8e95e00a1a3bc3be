-- A host whose later calls fail: what it tells is what the host inside tells, with the failed calls of its own counted too.
use Rattle.std.specs.Prelude.{◌≡◌, ◌<◌, ◌+◌, Result, IsErr}
use Rattle.tq_host.specs.declared.counts.Counts.{Counts}
use Rattle.tq_host.specs.declared.counts.Part.{Part}
use Rattle.tq_host.specs.declared.fuse.Fuse.{Fuse}
use Rattle.tq_host.specs.declared.fuse.FuseHost.{FuseHost}
use Rattle.tq_host.specs.declared.host.Failed.{Failed}
use Rattle.tq_host.specs.Counts.{raised}
use Rattle.tq_host.specs.View.{Told, View, Streams, IsLawful}

-- The sum of two counts may pass the last value of one. No law says where a count ends, only that it rises by a failed
-- call or stands past its end, and that holds of the sum.
abbrev pub fused_streams : Streams → Counts → Streams
fused_streams s failed = record s { input_faults = s.input_faults + failed.input; output_faults = s.output_faults + failed.output }

abbrev pub fused : View → Counts → View
fused v failed = record v { faults = v.faults + failed.device; streams = fused_streams v.streams failed }

pub fused_lawful : (tells : Told) (v : View) (failed : Counts) → IsLawful tells v → IsLawful tells (fused v failed)
fused_lawful tells v failed lawful = record {
  reads_an_image = lawful.reads_an_image;
  stops_told = lawful.stops_told;
  left_told = lawful.left_told;
  reads_told = lawful.reads_told;
  stops_too = lawful.stops_too;
  only_now = λ p left. let now = lawful.only_now p left in record { images = now.images; output = now.output };
  counts_now = λ t p le now. lawful.counts_now t p le (record { images = now.images; output = now.output });
  goes_on = lawful.goes_on;
}

-- One of the calls left is used up by a call that is passed on.
pub record IsPassed (old new : Fuse) : Type 0 where
  pub some : 0 < old.left
  pub left : old.left ≡ new.left + 1
  pub failed : new.failed ≡ old.failed

-- None is left, so the call fails.
pub record IsBlown (part : Part) (old new : Fuse) : Type 0 where
  pub none : old.left ≡ 0
  pub left : new.left ≡ 0
  pub failed : new.failed ≡ raised part old.failed

abbrev pub fused_view : {H : Type 0} → (H → View) → FuseHost H → View
fused_view view f = fused (view f.inner) f.fuse.failed

-- A call on a fused host: with none left it fails and the host inside is as it was, else it uses up one of them.
pub record IsFused {T H : Type 0} (part : Part) (result : Result T Failed) (old new : FuseHost H) : Type 0 where
  pub passed : 0 < old.fuse.left → IsPassed old.fuse new.fuse
  pub blown : old.fuse.left ≡ 0 → IsBlown part old.fuse new.fuse
  pub fails : old.fuse.left ≡ 0 → IsErr result
  pub inner : old.fuse.left ≡ 0 → new.inner ≡ old.inner
