use Rattle.std.proofs.Common.{refl}
use Rattle.tq_slots.specs.RecordForm.{message_slot, queue_slot, branch_slot}
use Rattle.tq_slots.specs.BaseForm.{messages_start, branches_start}
use Rattle.tq_slots.proofs.BaseLemmas.{length-slots, base-long, base-again, base-marked}
use Rattle.tq_slots.proofs.base.base_is_read.Goals as goal

pub returns-clause-pages : goal.returns-clause-pages
returns-clause-pages c = λ s. refl

pub returns-clause-mark : goal.returns-clause-mark
returns-clause-mark c = base-marked

pub returns-clause-size : goal.returns-clause-size
returns-clause-size c = base-long

pub returns-clause-read : goal.returns-clause-read
returns-clause-read c = base-again

pub returns-clause-counts : goal.returns-clause-counts
returns-clause-counts c = λ q m t bytes. (
  length-slots queue_slot 512 q 64 bytes,
  length-slots message_slot 64 m (messages_start q) bytes,
  length-slots branch_slot 160 t (branches_start q m) bytes,
)
