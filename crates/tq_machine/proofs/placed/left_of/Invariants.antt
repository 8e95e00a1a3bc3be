use Rattle.std.proofs.Common.{◌≡◌, ◌-◌, take}
use Rattle.std.specs.List.{sum_by}
use Rattle.tq_model.specs.declared.answer.Extent.{Extent}
use Rattle.tq_machine.proofs.placed.left_of.Given as goal

abbrev pub invariant-loop-extent : goal.invariant-loop-extent
invariant-loop-extent l = l.left ≡ l.clusters - sum_by (λ (e : Extent). e.count) (take l.extent-index l.extents)
