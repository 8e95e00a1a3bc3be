-- A slot that was spelt is read again.
use Rattle.std.proofs.Common.{◌≡◌, refl}
use Rattle.tq_slots.specs.declared.record.MessageSlot.{MessageSlot}
use Rattle.tq_slots.specs.declared.record.QueueSlot.{QueueSlot}
use Rattle.tq_slots.specs.declared.record.BranchSlot.{BranchSlot}
use Rattle.tq_slots.specs.Fields.{AreFields, fields_spelt}
use Rattle.tq_slots.specs.RecordForm.{message_fields, queue_fields, branch_fields, message_slot, queue_slot, branch_slot}
use Rattle.tq_slots.proofs.FieldLemmas.{byte-field, number-field, run-field}

pub message-again : (m : MessageSlot) → AreFields (message_fields m) → message_slot (fields_spelt (message_fields m)) ≡ m
unfolding message_slot
message-again m are =
    let fields = message_fields m in
    λ i. record {
      mark = byte-field 0 m.mark fields refl are i;
      branch = byte-field 1 m.branch fields refl are i;
      queue = byte-field 2 m.queue fields refl are i;
      bits = byte-field 3 m.bits fields refl are i;
      priority = byte-field 4 m.priority fields refl are i;
      root_priority = byte-field 5 m.root_priority fields refl are i;
      numbers = byte-field 6 m.numbers fields refl are i;
      retries = number-field 8 4 m.retries fields refl are i;
      first = number-field 9 4 m.first fields refl are i;
      epoch = number-field 10 4 m.epoch fields refl are i;
      number = number-field 11 4 m.number fields refl are i;
      available = number-field 12 8 m.available fields refl are i;
      expiration = number-field 13 8 m.expiration fields refl are i;
      root_available = number-field 14 8 m.root_available fields refl are i;
      root_expiration = number-field 15 8 m.root_expiration fields refl are i;
      root_epoch = number-field 16 4 m.root_epoch fields refl are i;
      root_number = number-field 17 4 m.root_number fields refl are i;
    }

pub queue-again : (q : QueueSlot) → AreFields (queue_fields q) → queue_slot (fields_spelt (queue_fields q)) ≡ q
unfolding queue_slot
queue-again q are =
    let fields = queue_fields q in
    λ i. record {
      used = byte-field 0 q.used fields refl are i;
      name_length = byte-field 1 q.name_length fields refl are i;
      name = run-field 2 fields are i;
      count = byte-field 4 q.count fields refl are i;
      criteria = run-field 5 fields are i;
      last = byte-field 6 q.last fields refl are i;
      rights = byte-field 7 q.rights fields refl are i;
      qos = byte-field 8 q.qos fields refl are i;
      retries = number-field 10 4 q.retries fields refl are i;
      delay = number-field 11 8 q.delay fields refl are i;
    }

pub branch-again : (b : BranchSlot) → AreFields (branch_fields b) → branch_slot (fields_spelt (branch_fields b)) ≡ b
unfolding branch_slot
branch-again b are =
    let fields = branch_fields b in
    λ i. record {
      state = byte-field 0 b.state fields refl are i;
      gtrid_length = byte-field 1 b.gtrid_length fields refl are i;
      bqual_length = byte-field 2 b.bqual_length fields refl are i;
      format = number-field 4 4 b.format fields refl are i;
      number = number-field 5 4 b.number fields refl are i;
      gtrid = run-field 6 fields are i;
      bqual = run-field 7 fields are i;
    }
