use Rattle.std.proofs.Common.{◌≡◌, drop}
use Rattle.tq_model.specs.SpaceForm.{replayed}
use Rattle.tq_spacefile.specs.Loading.{bytes_of}
use Rattle.tq_spacefile.proofs.replaying.replay.Given as goal

-- the payloads that are left make of the space what all make of the first one
abbrev pub invariant-loop-payload : goal.invariant-loop-payload
invariant-loop-payload l = replayed l.epoch (bytes_of (drop l.payload-index l.payloads)) l.space.held ≡ replayed l.epoch (bytes_of l.payloads) l.fn.space.held
