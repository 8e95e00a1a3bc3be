use Rattle.tq_field.proofs.Calls.{read-number_at}
use Rattle.tq_field.proofs.get.get_u16.Goals as goal

pub returns-clause-number : goal.returns-clause-number
returns-clause-number c =
    read-number_at c.args.at 2 c.read_u16.result c.args.bytes.now c.in_ok-field.field.now c.in_ok-field.ensures.fits c.in_ok-field.ensures.run c.read_u16.ensures
