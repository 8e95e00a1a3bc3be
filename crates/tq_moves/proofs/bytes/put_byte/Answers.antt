use Rattle.std.proofs.Common.{arith}
use Rattle.tq_field.proofs.Numbers.{digits-one}
use Rattle.tq_moves.proofs.bytes.put_byte.Goals as goal

pub returns-clause-front : goal.returns-clause-front
returns-clause-front c = rw (digits-one c.args.n (omega arith)) c.put.ensures.front
