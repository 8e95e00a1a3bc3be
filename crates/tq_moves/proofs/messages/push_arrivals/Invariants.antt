use Rattle.std.proofs.Common.{◌≡◌, ◌++◌, take}
use Rattle.std.specs.List.{flat_map}
use Rattle.tq_slots.specs.MessageForm.{arrival_bytes}
use Rattle.tq_moves.proofs.messages.push_arrivals.Given as goal

abbrev pub invariant-loop-arrival : goal.invariant-loop-arrival
invariant-loop-arrival l = l.out.items ≡ l.fn.out.items ++ flat_map arrival_bytes (take l.arrival-index l.arrivals)
