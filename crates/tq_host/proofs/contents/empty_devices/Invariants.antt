use Rattle.std.proofs.Common.{◌≡◌, ◌<◌, ℕ, [], Vec, length, get_or}
use Rattle.std.specs.declared.alloc.Global.{Global}
use Rattle.tq_host.proofs.contents.empty_devices.Given as goal

abbrev pub invariant-loop-device : goal.invariant-loop-device
invariant-loop-device l = record { size : length l.devices.items ≡ l.device; empty : (d : ℕ) (other : Vec ℕ Global) → d < l.device → (get_or l.devices.items d other).items ≡ [] }
