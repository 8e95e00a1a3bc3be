use Rattle.std.proofs.Common.{◌≡◌, drop}
use Rattle.tq_store.specs.SlotReading.{bytes_of, slots_left}
use Rattle.tq_store.proofs.slots.follow_all.Given as goal

-- the payloads that are left make of the slots what all make of the first ones
abbrev pub invariant-loop-payload : goal.invariant-loop-payload
invariant-loop-payload l = slots_left (bytes_of (drop l.payload-index l.payloads)) l.slots ≡ slots_left (bytes_of l.payloads) l.fn.slots
