use Rattle.tq_machine.proofs.Sites.{sound-erased}
use Rattle.tq_machine.proofs.machine.Machine.blank_device.Goals as goal

pub invariant_of-self : goal.invariant_of-self
invariant_of-self c = sound-erased c.self.inside.devices.items c.from.result c.self.invariant

pub invariant_of-self-else-dev-eq0 : goal.invariant_of-self-else-dev-eq0
invariant_of-self-else-dev-eq0 c = sound-erased c.self.inside.devices.items c.from.result c.self.invariant
