use Rattle.std.proofs.Common.{◌≡◌, true, drop}
use Rattle.tq_extent.specs.Clusters.{new_clusters, can_claim, with_mark}
use Rattle.tq_devtab.proofs.SpaceLemmas.{clusters_in}
use Rattle.tq_devtab.proofs.spaces.claim.Given as goal

abbrev pub invariant-loop-entry : goal.invariant-loop-entry
invariant-loop-entry l = record {
  claimed : can_claim (clusters_in (drop l.entry-index l.entries)) l.owned ≡ can_claim (clusters_in l.entries) (new_clusters l.clusters);
  owned : with_mark true (clusters_in (drop l.entry-index l.entries)) l.owned ≡ with_mark true (clusters_in l.entries) (new_clusters l.clusters);
}
