use Rattle.std.proofs.Common.{sym}
use Rattle.tq_coord.proofs.ForCallers.{stays}
use Rattle.tq_coord.proofs.DeviceErasureLemmas.{erasing}
use Rattle.tq_coord.proofs.site.Manager.erase_device.Goals as goal

pub returns-in-Some-clause-stop : goal.returns-in-Some-clause-stop
returns-in-Some-clause-stop g c = stays _ _ _ c.requires.on

pub returns-in_err-erase-clause-stop : goal.returns-in_err-erase-clause-stop
returns-in_err-erase-clause-stop g c =
    let none = c.in_default.ensures in
    erasing c.args.dev c.args.self.now none.device (sym none.refused) _ _ none.bare c.requires.on c.erase.ensures.rest c.erase.ensures.stop

pub returns-clause-stop : goal.returns-clause-stop
returns-clause-stop g c =
    let none = c.in_default.ensures in
    erasing c.args.dev c.args.self.now none.device (sym none.refused) _ _ none.bare c.requires.on c.erase.ensures.rest c.erase.ensures.stop
