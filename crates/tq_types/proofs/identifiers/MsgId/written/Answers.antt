use Rattle.std.proofs.Common.{arith}
use Rattle.std.proofs.lemmas.Grind.{common_steps}
use Rattle.tq_types.specs.MsgId.{id_bytes}
use Rattle.tq_types.proofs.identifiers.MsgId.written.Goals as goal

pub returns-clause-bytes : goal.returns-clause-bytes
unfolding id_bytes
returns-clause-bytes c = grind (arith, common_steps)
