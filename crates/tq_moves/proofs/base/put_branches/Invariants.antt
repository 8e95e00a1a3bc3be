use Rattle.std.proofs.Common.{◌≡◌, ◌+◌, ◌*◌, ◌++◌, length, take}
use Rattle.std.specs.List.{flat_map, AllByRecursion}
use Rattle.tq_slots.specs.BaseForm.{branch_slot_spelt}
use Rattle.tq_slots.specs.Fields.{AreFields}
use Rattle.tq_slots.specs.RecordForm.{branch_fields}
use Rattle.tq_moves.proofs.base.put_branches.Given as goal

abbrev pub invariant-loop-branch : goal.invariant-loop-branch
invariant-loop-branch l = record {
  place : l.end ≡ l.at + 160 * l.branch-index;
  front : take l.end l.into ≡ take l.at l.fn.into ++ flat_map branch_slot_spelt (take l.branch-index l.branches);
  ranges : AllByRecursion (λ b. AreFields (branch_fields b)) (take l.branch-index l.branches);
  size : length l.into ≡ length l.fn.into;
}
