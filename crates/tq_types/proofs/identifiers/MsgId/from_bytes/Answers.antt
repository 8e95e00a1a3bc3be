use Rattle.std.proofs.Common.{ap, ◌∙◌, arith}
use Rattle.tq_types.specs.MsgId.{id_bytes}
use Rattle.tq_types.proofs.Ids.{forth}
use Rattle.tq_types.proofs.identifiers.MsgId.from_bytes.Goals as goal

pub returns-clause-back : goal.returns-clause-back
returns-clause-back c =
    ap id_bytes c.read.ensures
    ∙ forth c.args.bytes.now c.told-bytes c.fits-bytes (λ at from below. c.loop-at.invariant at from (omega arith))
