use Rattle.std.proofs.Common.{◌≡◌, ◌++◌, map, take, drop}
use Rattle.tq_machine.specs.Entries.{free_entry}
use Rattle.tq_machine.proofs.queue_list.free_all.Given as goal

abbrev pub invariant-loop-at : goal.invariant-loop-at
invariant-loop-at l = l.items ≡ map free_entry (take l.at l.initial.items) ++ drop l.at l.initial.items
