use Rattle.std.proofs.Common.{◌+◌, ◌++◌, sym, subst, ◌∙◌, append_assoc}
use Rattle.tq_field.specs.Digits.{digits}
use Rattle.tq_slots.specs.Fields.{fields_spelt}
use Rattle.tq_slots.specs.RecordForm.{IsSet, message_fields, slot_spelt}
use Rattle.tq_moves.proofs.encoding.push_set.Goals as goal

pub returns-in_ok-extend_from_slice-in-Message-clause-bytes : goal.returns-in_ok-extend_from_slice-in-Message-clause-bytes
unfolding slot_spelt
returns-in_ok-extend_from_slice-in-Message-clause-bytes c =
    let before = c.args.out.now.items in
    let key = digits 3 (65536 + c.in-Message.index) in
    let slot = fields_spelt (message_fields c.in-Message.m) in
    rw c.in-Message.is
    (c.in_ok-extend_from_slice-in-Message.ensures.items
    ∙ (λ i. c.in_ok-push_key-in-Message.ensures.bytes i ++ c.message_bytes.ensures.bytes i)
    ∙ append_assoc before key slot)

pub returns-in_ok-extend_from_slice-in-Message-clause-set : goal.returns-in_ok-extend_from_slice-in-Message-clause-set
returns-in_ok-extend_from_slice-in-Message-clause-set c =
    subst IsSet (sym c.in-Message.is) (c.in_ok-push_key-in-Message.ensures.range, c.message_bytes.ensures.fields)
