use Rattle.std.proofs.Common.{◌≡◌, ◌+◌, true, drop}
use Rattle.std.specs.List.{list_all}
use Rattle.tq_devtab.specs.InMemory.{part_of}
use Rattle.tq_devtab.specs.TableParts.{spaces_of}
use Rattle.tq_devtab.specs.Volume.{free_of}
use Rattle.tq_devtab.proofs.FreeLemmas.{has_its_clusters}
use Rattle.tq_devtab.proofs.OwnerLemmas.{taken_by}
use Rattle.tq_devtab.proofs.table.DeviceTable.free.Given as goal

-- what is free, and the clusters of the spaces that are left
abbrev pub invariant-loop-entry : goal.invariant-loop-entry
invariant-loop-entry l = record {
  free : l.free ≡ taken_by (spaces_of (drop l.entry-index l.entries)) + free_of (part_of l.self);
  counted : list_all has_its_clusters (spaces_of (drop l.entry-index l.entries)) ≡ true;
}
