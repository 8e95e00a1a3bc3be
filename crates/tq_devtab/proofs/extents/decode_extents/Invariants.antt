use Rattle.std.proofs.Common.{◌≡◌, ◌+◌, ◌-◌, ◌*◌, ◌++◌}
use Rattle.tq_model.specs.DeviceForm.{extents_at}
use Rattle.tq_devtab.proofs.extents.decode_extents.Given as goal

abbrev pub invariant-loop-index : goal.invariant-loop-index
invariant-loop-index l = l.extents ++ extents_at (l.count - l.index) (l.start + 4 * l.index) l.base ≡ extents_at l.count l.start l.base
