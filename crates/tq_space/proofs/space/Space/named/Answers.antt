use Rattle.std.proofs.Common.{ap, subst}
use Rattle.tq_space.specs.State.{SpaceState}
use Rattle.tq_space.specs.Reads.{HasDistinctIndices}
use Rattle.tq_space.proofs.space.Space.named.Goals as goal

pub returns-clause-indices : goal.returns-clause-indices
returns-clause-indices c = subst HasDistinctIndices (ap (λ (s : SpaceState). s.held.queues) c.self.view_is) c.named.ensures.indices
