use Rattle.std.proofs.Common.{◌≡◌, ℕ, get_or, length, None}
use Rattle.tq_coord.proofs.devices.no_files.Given as goal

abbrev pub invariant-loop-index : goal.invariant-loop-index
invariant-loop-index l = (length l.files.items ≡ l._index) × ((i : ℕ) → get_or l.files.items i None ≡ None)
