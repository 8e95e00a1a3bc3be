use Rattle.std.proofs.Common.{◌∙◌, refl}
use Rattle.tq_devtab.specs.InMemory.{part_of}
use Rattle.tq_devtab.proofs.OwnerLemmas.{free_of-volume}
use Rattle.tq_coord.specs.Manager.{volume_in, files_of}
use Rattle.tq_coord.proofs.PlacedLemmas.{placed-extents}
use Rattle.tq_coord.proofs.site.Disk.capacity.Goals as goal

pub returns : goal.returns
returns c =
    let d = c.args.self.now in
    let t = part_of d.table in
    let free = c.free.ensures ∙ free_of-volume (volume_in d) t refl (placed-extents 0 t t.entries (files_of d) d.fit.each) in
    λ i. record { clusters = c.clusters.ensures.clusters i; free = free i }
