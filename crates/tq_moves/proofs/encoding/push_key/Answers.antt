use Rattle.std.proofs.Common.{◌≡◌, ◌+◌, ◌*◌, ◌/◌, ◌%◌, append_assoc, arith}
use Rattle.tq_field.specs.Digits.{digits}
use Rattle.tq_moves.proofs.ByteLemmas.{digits_key}
use Rattle.tq_moves.proofs.encoding.push_key.Goals as goal

pub returns-clause-bytes : goal.returns-clause-bytes
returns-clause-bytes c =
    let tag : (65536 * c.args.tag + c.args.index) / 65536 ≡ c.args.tag = omega arith in
    let index : (65536 * c.args.tag + c.args.index) % 65536 ≡ c.args.index = omega arith in
    rw (digits_key (65536 * c.args.tag + c.args.index), tag, index, c.in_ok-push_short.ensures, c.in_ok-push_byte.ensures)
    (append_assoc c.args.out.now.items (digits 1 c.args.tag) (digits 2 c.args.index))
