use Rattle.std.proofs.Common.{◌-◌, ◌∙◌, ap}
use Rattle.std.specs.Prelude.{nat_le}
use Rattle.std.specs.List.{list_all}
use Rattle.tq_model.specs.declared.answer.Extent.{Extent}
use Rattle.tq_devtab.specs.InMemory.{part_of}
use Rattle.tq_devtab.specs.Volume.{lowest_of}
use Rattle.tq_devtab.proofs.FreeLemmas.{ends-most}
use Rattle.tq_devtab.proofs.TableLemmas.{as_extents-some}
use Rattle.tq_devtab.proofs.table.DeviceTable.further.Goals as goal

pub returns-clause-reached : goal.returns-clause-reached
returns-clause-reached c =
    let is = c.in-Ok.ensures in
    ends-most c.in-Ok.extents
    (ap (list_all (λ (e : Extent). nat_le 1 e.count)) is.extents
    ∙ as_extents-some (lowest_of (c.clusters_for.result - c.clusters_for-2.result) (part_of c.args.self.now)))
    is.mappable.within
