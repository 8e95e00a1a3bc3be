-- What the layer above uses of a manager.
use Rattle.std.proofs.Common.{inl, refl}
use Rattle.tq_host.specs.View.{View, Images}
use Rattle.tq_host.specs.Within.{KeepsBeside}
use Rattle.tq_host.proofs.AllDevices.{starts_all}
use Rattle.tq_model.specs.Step.{Outcome}
use Rattle.tq_coord.specs.declared.site.Manager.{Manager}
use Rattle.tq_coord.specs.Manager.{site_of, ImageMatches}
use Rattle.tq_coord.specs.Images.{ImagesHave, ImagesMatch, AreEither}
use Rattle.tq_coord.specs.Serving.{ChangesOnce}
use Rattle.tq_coord.proofs.FrameLemmas.{others_here}
use Rattle.tq_coord.proofs.FoundLemmas.{image_have}

-- images that match a manager have its site
pub stands_for : (m : Manager) (images : Images) → ImageMatches m (images 0) → ImagesHave (site_of m) images
stands_for m images is = image_have m images is

-- where nothing is done
pub stays : (o : Outcome) (m : Manager) (v : View) → ImagesMatch m v → ChangesOnce o m v v
stays o m v on = record {
  within = starts_all (AreEither (site_of m) o.site) v (λ images may. inl (stands_for m images (on (images 0) (may 0))));
  attached = refl;
  others = others_here v;
}

-- the rest of the outside
pub beside_kept : (o : Outcome) (m : Manager) (old new : View) → ChangesOnce o m old new → KeepsBeside old new
beside_kept o m old new once = record { later = once.within.later; streams = once.within.streams; attached = once.attached }
