use Rattle.std.proofs.Common.{◌≡◌, Equal}
use Rattle.tq_types.specs.Label.{label_cmp}
use Rattle.tq_types.proofs.LabelOrder.{own-equal}
use Rattle.tq_types.proofs.labels.compare.Goals as goal

pub returns-clause-order : goal.returns-clause-order
unfolding label_cmp
returns-clause-order c = cc

pub returns-clause-apart : goal.returns-clause-apart
unfolding label_cmp
returns-clause-apart c differ equal =
    let same : label_cmp c.args.order.now c.args.a.now c.args.b.now ≡ Equal = cc in
    differ (own-equal c.args.order.now c.args.a.now c.args.b.now same)
