use Rattle.std.proofs.Common.{◌≡◌, drop}
use Rattle.tq_types.specs.Label.{criteria_cmp}
use Rattle.tq_types.proofs.labels.compare_criteria.Given as goal

abbrev pub invariant-loop-criterion : goal.invariant-loop-criterion
invariant-loop-criterion l = criteria_cmp l.criteria l.a l.b ≡ criteria_cmp (drop l.criterion-index l.criteria) l.a l.b
