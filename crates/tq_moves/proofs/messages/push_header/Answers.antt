use Rattle.tq_slots.specs.MessageForm.{header_fields}
use Rattle.tq_moves.proofs.ByteLemmas.{fields_behind}
use Rattle.tq_moves.proofs.messages.push_header.Goals as goal

pub returns : goal.returns
returns c =
    rw (
      c.in_ok-push_zeros-2.ensures,
      c.in_ok-push_path.ensures,
      c.in_ok-push_name-2.ensures,
      c.in_ok-push_name.ensures,
      c.in_ok-push_corr.ensures,
      c.in_ok-push_number-4.ensures,
      c.urcode_bits.ensures,
      c.in_ok-push_zeros.ensures,
      c.in_ok-push_byte-2.ensures,
      c.quality_code.ensures,
      c.in_ok-push_byte.ensures,
      c.bit.ensures,
      c.bit-2.ensures,
      c.bit-3.ensures,
      c.in_ok-push_number-3.ensures,
      c.in_ok-push_number-2.ensures,
      c.in_ok-push_number.ensures,
    )
    (fields_behind c.args.out.now.items (header_fields c.args.header.now))
