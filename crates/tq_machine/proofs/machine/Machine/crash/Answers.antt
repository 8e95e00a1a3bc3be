use Rattle.std.proofs.Common.{◌∙◌, ap, sym, subst, map, arith, option_map, refl}
use Rattle.std.proofs.lemmas.List.{with_items_is}
use Rattle.tq_model.specs.Site.{on_spaces, durable_space}
use Rattle.tq_machine.specs.Tables.{AreSound}
use Rattle.tq_machine.proofs.Sites.{sound-mapped}
use Rattle.tq_machine.proofs.machine.Machine.crash.Goals as goal

pub invariant_of-self : goal.invariant_of-self
invariant_of-self c =
    let devices = with_items_is c.self.inside.devices c.crash_all.new.devices (omega arith) ∙ c.crash_all.ensures ∙ ap (map (option_map (on_spaces durable_space))) c.deref_mut.ensures.value in
    subst AreSound (sym devices) (sound-mapped durable_space (λ p. refl) c.self.inside.devices.items c.self.invariant)
