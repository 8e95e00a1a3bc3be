use Rattle.std.proofs.Common.{◌≡◌, ℕ, ◌<◌, ◌≤◌, get_or}
use Rattle.tq_types.proofs.identifiers.MsgId.from_bytes.Given as goal

abbrev pub invariant-loop-at : goal.invariant-loop-at
invariant-loop-at l = (k : ℕ) → 16 ≤ k → k < l.at → get_or l.bytes k 0 ≡ 0
