use Rattle.std.proofs.Common.{sym, subst}
use Rattle.tq_machine.specs.Tables.{AreSound}
use Rattle.tq_machine.proofs.Sites.{sound-blank}
use Rattle.tq_machine.proofs.machine.Machine.new.Goals as goal

pub invariant_of-result : goal.invariant_of-result
invariant_of-result c = subst AreSound (sym c.in_ok-blank_devices.ensures) (sound-blank c.args.devices c.requires.most)
