use Rattle.std.proofs.Common.{ltb, ltb-true, ltb-false, rules}
use Rattle.std.proofs.lemmas.List.Sorted.{IsPartitionPoint-from_clause}
use Rattle.tq_slottable.proofs.PlaceLemmas.{descending_parted}
use Rattle.tq_slottable.proofs.places.place_for_empty.Goals as goal

pub returns-clause-above : goal.returns-clause-above
returns-clause-above c pairs =
    let parted = descending_parted c.args.index c.args.empty.now pairs in
    let point = IsPartitionPoint-from_clause (λ i. ltb c.args.index i) c.args.empty.now c.partition_point.result c.partition_point.ensures.partitioned parted (λ a r q k. search rules) in
    λ k d low lt. ltb-true _ _ (point.0 k d low lt)

pub returns-clause-below : goal.returns-clause-below
returns-clause-below c pairs =
    let parted = descending_parted c.args.index c.args.empty.now pairs in
    let point = IsPartitionPoint-from_clause (λ i. ltb c.args.index i) c.args.empty.now c.partition_point.result c.partition_point.ensures.partitioned parted (λ a r q k. search rules) in
    λ k d low lt. ltb-false _ _ (point.1 k d low lt)
