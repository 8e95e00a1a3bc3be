use Rattle.tq_slots.proofs.SlotImageLemmas.{record_law, raw_law}
use Rattle.tq_slots.proofs.images.records_make_slots.Goals as goal

pub returns-clause-sets : goal.returns-clause-sets
returns-clause-sets c = record_law

pub returns-clause-raw : goal.returns-clause-raw
returns-clause-raw c = raw_law
