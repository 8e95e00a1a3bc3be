use Rattle.std.proofs.Common.{ap, ◌∙◌}
use Rattle.tq_types.specs.MsgId.{id_at}
use Rattle.tq_types.proofs.Ids.{zeros, back}
use Rattle.tq_types.proofs.identifiers.MsgId.to_bytes.Goals as goal

pub returns-clause-zeros : goal.returns-clause-zeros
returns-clause-zeros c = rw c.written.ensures.bytes (zeros c.args.self.now)

pub returns-clause-back : goal.returns-clause-back
returns-clause-back c =
    let fits = c.written.ensures.fits in
    ap id_at c.written.ensures.bytes ∙ back c.args.self.now fits.0 fits.1 fits.2 fits.3
