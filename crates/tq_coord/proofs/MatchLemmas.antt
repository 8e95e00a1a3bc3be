-- Images that match a manager.
use Rattle.std.proofs.Common.{◌≡◌, inl, ℕ, List, Option, Some, refl, subst}
use Rattle.tq_host.specs.View.{View}
use Rattle.tq_host.proofs.AllDevices.{starts_all}
use Rattle.tq_model.specs.Step.{Outcome}
use Rattle.tq_devtab.specs.InMemory.{AreTableOf}
use Rattle.tq_coord.specs.declared.site.Disk.{Disk}
use Rattle.tq_coord.specs.declared.site.Manager.{Manager}
use Rattle.tq_coord.specs.Manager.{site_of, HasDisk, HasDiskOrIsBlank}
use Rattle.tq_coord.specs.Images.{ImagesMatch, AreEither}
use Rattle.tq_coord.specs.Serving.{ChangesOnce}
use Rattle.tq_coord.proofs.FoundLemmas.{image_have}
use Rattle.tq_coord.proofs.FrameLemmas.{others_here}

-- where nothing is done
pub stays : (o : Outcome) (m : Manager) (v : View) → ImagesMatch m v → ChangesOnce o m v v
stays o m v on = record {
  within = starts_all (AreEither (site_of m) o.site) v (λ images may. inl (image_have m images (on (images 0) (may 0))));
  attached = refl;
  others = others_here v;
}

module _ (m : Manager) (d : Disk) (there : m.disk ≡ Some d) (v : View) (on : ImagesMatch m v) where
  -- each image has the device
  pub disk_on : (image : List ℕ) → v.may_leave 0 image → HasDisk d m.next image
  disk_on image may = subst (λ (o : Option Disk). HasDiskOrIsBlank o m.next image) there (on image may)

  pub tables_on : AreTableOf d.table v
  tables_on image may = (disk_on image (subst (λ dev. v.may_leave dev image) d.table_dev may)).table
