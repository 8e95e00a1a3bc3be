use Rattle.std.proofs.Common.{arith, rules}
use Rattle.tq_space.proofs.Indices.{all_used}
use Rattle.tq_space.proofs.LogLemmas.{creation_durable}
use Rattle.tq_space.proofs.space.Space.plan_queue.Goals as goal

pub unreachable-requires : goal.unreachable-requires
unreachable-requires c =
    let many = all_used c.self.inside.limits.queues c.self.inside.shelf.queues c.in_default.ensures.used in
    omega (arith, many, c.count.ensures, c.from.ensures, c.if-count-from.false)

pub returns-clause-durable : goal.returns-clause-durable
returns-clause-durable c = λ next. creation_durable c.args.name.now c.args.self.now.held c.in-Ok.plan (record { purge = search rules; index = c.in-Some.index; lowest = search rules; can = search rules; moves = search rules; answer = search rules }) next
