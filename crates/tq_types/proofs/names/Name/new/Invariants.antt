use Rattle.std.proofs.Common.{IsTrue, ℕ, ◌<◌, get_or}
use Rattle.tq_types.specs.Name.{is_allowed_at}
use Rattle.tq_types.proofs.names.Name.new.Given as goal

abbrev pub invariant-loop-at : goal.invariant-loop-at
invariant-loop-at l = (before : ℕ) → before < l.at → IsTrue (is_allowed_at before (get_or l.text before 0))
