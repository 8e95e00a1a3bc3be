use Rattle.tq_slots.proofs.QueueFormLemmas.{queue-again, queue-read}
use Rattle.tq_slots.proofs.queue.queues_have_slots.Goals as goal

pub returns-clause-made : goal.returns-clause-made
returns-clause-made c = queue-again

pub returns-clause-read : goal.returns-clause-read
returns-clause-read c = queue-read
