use Rattle.std.proofs.Common.{◌≡◌, ◌≤◌, ◌+◌, ◌++◌, take}
use Rattle.tq_model.specs.Site.{numbers_from, as_extents, lowest_free}
use Rattle.tq_machine.specs.Tables.{free_from}
use Rattle.tq_machine.proofs.device.CreatedDevice.lowest_free.Given as goal

-- the run and the clusters to come make of the extents what is to come
abbrev pub invariant-loop-cluster : goal.invariant-loop-cluster
invariant-loop-cluster l = record {
  joined : l.extents ++ as_extents (numbers_from l.run.first l.run.count ++ take l.left (free_from l.cluster l.self)) ≡ as_extents (lowest_free l.fn.n l.self);
  before : l.run.first + l.run.count ≤ l.cluster;
}
