use Rattle.std.proofs.Common.{◌≡◌, ◌++◌, replicate}
use Rattle.tq_pages.proofs.store.add_zeros.Given as goal

abbrev pub invariant-loop : goal.invariant-loop
invariant-loop l = l.numbers.items ≡ l.initial.numbers.items ++ replicate l.counter 0
