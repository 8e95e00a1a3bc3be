use Rattle.tq_coord.proofs.ForCallers.{stays}
use Rattle.tq_coord.proofs.site.Manager.serve_device.Goals as goal

pub returns-in_ok-listing-in-List-clause-stop : goal.returns-in_ok-listing-in-List-clause-stop
returns-in_ok-listing-in-List-clause-stop g c = stays _ _ _ c.requires.on

pub returns-in_err-listing-in-List-clause-stop : goal.returns-in_err-listing-in-List-clause-stop
returns-in_err-listing-in-List-clause-stop g c = stays _ _ _ c.requires.on
