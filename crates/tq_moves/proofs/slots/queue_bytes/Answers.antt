use Rattle.std.proofs.Common.{[], sym, ◌∙◌, arith}
use Rattle.std.proofs.lemmas.List.{take_all}
use Rattle.tq_slots.specs.RecordForm.{queue_fields}
use Rattle.tq_moves.proofs.ByteLemmas.{fields_behind}
use Rattle.tq_moves.proofs.slots.queue_bytes.Goals as goal

pub returns-clause-bytes : goal.returns-clause-bytes
returns-clause-bytes c =
    sym (take_all c.put_zeros-end.result c.put_zeros-end.new.into (omega arith))
    ∙ rw (
      c.put_zeros-end.ensures.front,
      c.put_long-at.ensures.front,
      c.put_number-at.ensures.front,
      c.put_zeros-at.ensures.front,
      c.put_byte-at-7.ensures.front,
      c.put_byte-at-6.ensures.front,
      c.put_byte-at-5.ensures.front,
      c.put-at-2.ensures.front,
      c.put_byte-at-4.ensures.front,
      c.put_byte-at-3.ensures.front,
      c.put-at.ensures.front,
      c.put_byte-at-2.ensures.front,
      c.put_byte-at.ensures.front,
    )
    (fields_behind [] (queue_fields c.args.q.now))

pub returns-clause-fields : goal.returns-clause-fields
returns-clause-fields c =
    (c.put_byte-at.ensures.range, (c.put_byte-at-2.ensures.range, (omega arith, (c.put_byte-at-3.ensures.range, (c.put_byte-at-4.ensures.range, (omega arith, (c.put_byte-at-5.ensures.range, (c.put_byte-at-6.ensures.range, (c.put_byte-at-7.ensures.range, (omega arith, (c.put_number-at.ensures.range, (c.put_long-at.ensures.range, (omega arith, tt)))))))))))))
