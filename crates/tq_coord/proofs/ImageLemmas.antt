-- What the images of all devices stand for.
use Rattle.std.proofs.Common.{◌≡◌, ℕ, List, [], ◌∷◌, Some, sym, ◌∙◌, ap}
use Rattle.tq_host.specs.View.{View, Images, AreNow}
use Rattle.tq_host.specs.Within.{WithinAll}
use Rattle.tq_host.proofs.AllDevices.{weaker_all, all_in_a_row}
use Rattle.tq_model.specs.Site.{Site}
use Rattle.tq_model.specs.Reading.{reading, site_found, site_in, combined}
use Rattle.tq_model.proofs.Images.{found_durable}
use Rattle.tq_coord.specs.Frame.{device_count}
use Rattle.tq_coord.specs.Images.{ImagesHave}

-- the site that is found is that of device 0's image
pub same_found : (images other : Images) → images 0 ≡ other 0 → site_found device_count images ≡ site_found device_count other
same_found images other same = ap (λ (image : List ℕ). site_in (combined (reading 0 image ∷ []))) same

-- images of which a site is found have it
pub found_have : (images : Images) (s : Site) → site_found device_count images ≡ Some s → ImagesHave s images
found_have images s is = is ∙ ap (λ (x : Site). Some x) (sym (found_durable device_count images s is))

-- images of which device 0 has what is read have what is found
pub read_stands : (images other : Images) (s : Site) → site_found device_count images ≡ Some s → other 0 ≡ images 0 → ImagesHave s other
read_stands images other s is same = found_have other s (same_found other images same ∙ is)

-- two parts in a row that write nothing
pub alone_on : (a b c : View) → WithinAll (AreNow a) a b → WithinAll (AreNow b) b c → WithinAll (AreNow a) a c
alone_on a b c first second = all_in_a_row (AreNow a) a b c first (weaker_all (AreNow b) (AreNow a) b c first.images second)
