use Rattle.std.proofs.Common.{◌≡◌, List, Less, sym, subst}
use Rattle.tq_types.specs.Label.{label_cmp}
use Rattle.tq_types.specs.declared.identifiers.Arrival.{Arrival}
use Rattle.tq_types.proofs.LabelOrder.{placed-first}
use Rattle.tq_types.proofs.labels.Label.before.Goals as goal

pub returns-clause-first : goal.returns-clause-first
returns-clause-first c order =
    subst (λ (path : List Arrival). label_cmp order (record { root = c.args.self.now.root; path = path }) c.args.self.now ≡ Less)
    (sym c.in_ok-path.ensures.1) (placed-first order c.args.self.now c.args.arrival)
