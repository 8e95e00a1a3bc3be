use Rattle.std.proofs.Common.{ap, arith, length}
use Rattle.tq_machine.proofs.device.CreatedDevice.space_count.Goals as goal

pub returns-clause-most : goal.returns-clause-most
returns-clause-most c = omega (arith, c.count_spaces.ensures.most, ap length c.deref.ensures.value, c.self.invariant)
