use Rattle.std.proofs.Common.{◌≡◌, ◌++◌, take}
use Rattle.std.specs.List.{flat_map}
use Rattle.tq_slots.specs.RecordForm.{AreSets, set_spelt}
use Rattle.tq_moves.proofs.encoding.push_sets.Given as goal

abbrev pub invariant-loop-set : goal.invariant-loop-set
invariant-loop-set l = record {
  bytes : l.out.items ≡ l.fn.out.items ++ flat_map set_spelt (take l.set-index l.sets);
  sets : AreSets (take l.set-index l.sets);
}
