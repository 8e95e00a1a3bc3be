use Rattle.tq_model.specs.declared.record.SpaceRecord.TheVariants.{Added}
use Rattle.tq_spacefile.proofs.Payloads.{record_in-spelt}
use Rattle.tq_spacefile.proofs.payload.spell_added.Goals as goal

pub returns-clause-back : goal.returns-clause-back
returns-clause-back c = λ short. record_in-spelt (Added c.args.queue c.args.arrival c.args.body.now) (c.ranges.queue.fits, c.in_ok-push_arrival.ensures.fits, short)
