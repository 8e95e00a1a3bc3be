use Rattle.tq_script.proofs.Positions.{position_of_first}
use Rattle.tq_script.proofs.bytes.position_of.Goals as goal

pub returns : goal.returns
returns c = position_of_first _ c.args.bytes.now _ c.memchr.ensures
