use Rattle.std.proofs.Common.{◌≡◌, drop}
use Rattle.tq_model.specs.Moves.{purged_of}
use Rattle.tq_space.proofs.space.Space.drop_all.Given as goal

abbrev pub invariant-loop-id : goal.invariant-loop-id
invariant-loop-id l =
    (purged_of (drop l.id-index l.id-items) l.self.held ≡ purged_of l.id-items l.initial.self.held) × (l.self.ready ≡ l.initial.self.ready)
