use Rattle.std.proofs.Common.{◌≡◌, ◌*◌, take}
use Rattle.tq_host.specs.Calls.{IsSameOutside}
use Rattle.tq_model.specs.DeviceForm.{extents_at}
use Rattle.tq_devtab.proofs.encoding.set_extents.Given as goal

abbrev pub invariant-loop-i : goal.invariant-loop-i
invariant-loop-i l = record {
  spelt : extents_at l.i l.at l.base ≡ take l.i l.extents;
  outside : IsSameOutside l.at (4 * l.i) l.fn.base l.base;
}
