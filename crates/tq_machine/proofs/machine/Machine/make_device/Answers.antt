use Rattle.std.proofs.Common.{Some, set, sym, subst}
use Rattle.tq_model.specs.Site.{Volume}
use Rattle.tq_machine.specs.Tables.{AreSound}
use Rattle.tq_machine.proofs.Sites.{sound-made}
use Rattle.tq_machine.proofs.machine.Machine.make_device.Goals as goal

pub invariant_of-self : goal.invariant_of-self
invariant_of-self c =
    subst (λ (v : Volume). AreSound (set c.self.inside.devices.items c.from.result (Some v))) (sym c.in_ok-device.ensures)
    (sound-made _ _ c.self.inside.devices.items c.from.result c.self.invariant)

pub invariant_of-self-else-creation-eq0 : goal.invariant_of-self-else-creation-eq0
invariant_of-self-else-creation-eq0 c =
    subst (λ (v : Volume). AreSound (set c.self.inside.devices.items c.from.result (Some v))) (sym c.in_ok-device.ensures)
    (sound-made _ _ c.self.inside.devices.items c.from.result c.self.invariant)
