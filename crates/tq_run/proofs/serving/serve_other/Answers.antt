use Rattle.tq_coord.proofs.ForCallers.{stays}
use Rattle.tq_run.proofs.serving.serve_other.Goals as goal

pub returns-in-Nothing-clause-stop : goal.returns-in-Nothing-clause-stop
returns-in-Nothing-clause-stop g c = stays _ _ _ c.requires.on

pub returns-in-Bad-clause-stop : goal.returns-in-Bad-clause-stop
returns-in-Bad-clause-stop g c = stays _ _ _ c.requires.on

pub returns-in-TooLong-clause-stop : goal.returns-in-TooLong-clause-stop
returns-in-TooLong-clause-stop g c = stays _ _ _ c.requires.on
