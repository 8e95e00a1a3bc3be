use Rattle.std.proofs.Common.{arith, rules}
use Rattle.tq_field.proofs.Numbers.{digits-one}
use Rattle.tq_moves.proofs.bytes.push_byte.Goals as goal

pub returns : goal.returns
returns c = rw (digits-one c.args.n (omega arith)) (search rules)
