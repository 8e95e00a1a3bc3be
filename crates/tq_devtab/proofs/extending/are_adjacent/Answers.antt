use Rattle.std.proofs.Common.{length, sym, ◌∙◌}
use Rattle.std.proofs.lemmas.Bool.{eqb-true}
use Rattle.tq_devtab.proofs.JoinedLemmas.{joined-empty, joined-apart, joined-one, not-empty}
use Rattle.tq_devtab.proofs.extending.are_adjacent.Goals as goal

pub returns-then-is_empty-2-clause-apart : goal.returns-then-is_empty-2-clause-apart
returns-then-is_empty-2-clause-apart c = λ apart.
    joined-empty c.args.extents.now c.args.more.now (eqb-true (length c.args.more.now) 0 (sym c.is_empty-2.ensures ∙ c.if-is_empty-2.true))

pub returns-clause-apart : goal.returns-clause-apart
returns-clause-apart c =
    joined-apart c.args.extents.now c.args.more.now (not-empty (length c.args.extents.now) c.is_empty.result c.is_empty.ensures c.if-is_empty.false)
    (not-empty (length c.args.more.now) c.is_empty-2.result c.is_empty-2.ensures c.if-is_empty-2.false)

pub returns-clause-one : goal.returns-clause-one
returns-clause-one c =
    joined-one c.args.extents.now c.args.more.now (not-empty (length c.args.extents.now) c.is_empty.result c.is_empty.ensures c.if-is_empty.false)
    (not-empty (length c.args.more.now) c.is_empty-2.result c.is_empty-2.ensures c.if-is_empty-2.false)
