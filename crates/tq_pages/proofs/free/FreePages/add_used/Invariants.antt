use Rattle.std.proofs.Common.{◌≡◌, ◌++◌, false, replicate}
use Rattle.tq_pages.proofs.free.FreePages.add_used.Given as goal

abbrev pub invariant-loop : goal.invariant-loop
invariant-loop l = l.self ≡ l.initial.self ++ replicate l.counter false
