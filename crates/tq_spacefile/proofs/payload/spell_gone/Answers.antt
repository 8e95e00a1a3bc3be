use Rattle.tq_model.specs.declared.record.SpaceRecord.TheVariants.{Gone}
use Rattle.tq_spacefile.proofs.Payloads.{record_in-spelt}
use Rattle.tq_spacefile.proofs.payload.spell_gone.Goals as goal

pub returns-clause-back : goal.returns-clause-back
returns-clause-back c = record_in-spelt (Gone c.args.arrival) c.in_ok-push_arrival.ensures.fits
