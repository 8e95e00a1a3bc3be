use Rattle.std.proofs.Common.{◌≡◌, ◌++◌}
use Rattle.tq_field.specs.Digits.{digits}
use Rattle.tq_moves.proofs.bytes.push_zeros.Given as goal

abbrev pub invariant-loop : goal.invariant-loop
invariant-loop l = l.out.items ≡ l.fn.out.items ++ digits l.counter 0
