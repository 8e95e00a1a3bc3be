use Rattle.tq_slots.proofs.EntryLemmas.{entry-again, entry-read}
use Rattle.tq_slots.proofs.message.entries_have_slots.Goals as goal

pub returns-clause-made : goal.returns-clause-made
returns-clause-made c = entry-again

pub returns-clause-read : goal.returns-clause-read
returns-clause-read c = entry-read
