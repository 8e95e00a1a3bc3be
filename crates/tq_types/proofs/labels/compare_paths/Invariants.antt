use Rattle.std.proofs.Common.{◌≡◌, ◌≤◌, length, drop}
use Rattle.tq_types.specs.Label.{path_cmp}
use Rattle.tq_types.proofs.labels.compare_paths.Given as goal

abbrev pub invariant-loop-at : goal.invariant-loop-at
invariant-loop-at l = record { within : l.at ≤ length l.b; left : path_cmp l.a l.b ≡ path_cmp (drop l.at l.a) (drop l.at l.b) }
