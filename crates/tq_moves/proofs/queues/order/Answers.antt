use Rattle.std.proofs.Common.{take, ◌∙◌, subst}
use Rattle.tq_types.specs.Order.{IsFirstRepeat}
use Rattle.tq_slots.proofs.QueueFormLemmas.{criteria-taken, none-repeated}
use Rattle.tq_moves.proofs.queues.order.Goals as goal

pub unreachable-requires : goal.unreachable-requires
unreachable-requires c =
    let s = c.args.slot.now in
    let all = c.criteria-criteria.ensures in
    let count = c.from.ensures in
    let same = (λ i. take (count i) (all i)) ∙ criteria-taken s in
    none-repeated s c.in-Err.field-0.at c.requires (subst (λ cs. IsFirstRepeat cs c.in-Err.field-0.at) same c.in-Err.ensures)

pub returns : goal.returns
returns c =
    let all = c.criteria-criteria.ensures in
    let count = c.from.ensures in
    let criteria = c.in-Ok.ensures.0 ∙ (λ i. take (count i) (all i)) ∙ criteria-taken c.args.slot.now in
    let last = c.in-Ok.ensures.1 ∙ c.last.ensures in
    λ i. record { criteria = criteria i; last = last i }
