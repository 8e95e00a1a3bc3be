use Rattle.std.proofs.Common.{◌≡◌, take}
use Rattle.tq_coord.proofs.devices.copied.Given as goal

abbrev pub invariant-loop-extent : goal.invariant-loop-extent
invariant-loop-extent l = l.copy ≡ take l.extent-index l.extents
