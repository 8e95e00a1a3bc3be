use Rattle.std.proofs.Common.{rules}
use Rattle.tq_types.specs.MsgId.{id_at}
use Rattle.tq_types.proofs.identifiers.MsgId.read.Goals as goal

pub returns : goal.returns
unfolding id_at
returns c = search rules
