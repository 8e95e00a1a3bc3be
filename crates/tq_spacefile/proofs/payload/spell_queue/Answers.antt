use Rattle.tq_model.specs.declared.record.SpaceRecord.TheVariants.{QueueMade}
use Rattle.tq_model.proofs.NameTests.{is_name-name}
use Rattle.tq_spacefile.proofs.Payloads.{record_in-spelt}
use Rattle.tq_spacefile.proofs.payload.spell_queue.Goals as goal

pub returns-clause-back : goal.returns-clause-back
returns-clause-back c = record_in-spelt (QueueMade c.args.index c.args.name.now) (c.ranges.index.fits, is_name-name c.args.name.now c.as_bytes-name.ensures.name)
