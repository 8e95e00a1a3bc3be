use Rattle.std.proofs.Common.{subst}
use Rattle.tq_slottable.specs.Places.{AreEmptyPlaces}
use Rattle.tq_slottable.proofs.PlaceLemmas.{lowest_last, empty_taken}
use Rattle.tq_slottable.proofs.places.take_empty.Goals as goal

pub returns-clause-lowest : goal.returns-clause-lowest
returns-clause-lowest c slots is = lowest_last slots c.pop.new.self.items c.in-Some.index (subst (AreEmptyPlaces slots 0) c.in-Some.ensures.items is)

pub returns-clause-taken : goal.returns-clause-taken
returns-clause-taken c slots u is = empty_taken slots c.pop.new.self.items c.in-Some.index (subst (AreEmptyPlaces slots 0) c.in-Some.ensures.items is) u
