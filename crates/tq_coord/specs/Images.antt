-- Which site the images of all devices stand for.
use Rattle.std.specs.Prelude.{◌≡◌, ◌⊎◌, ℕ, List, true, Any}
use Rattle.tq_host.specs.View.{View, Images}
use Rattle.tq_model.specs.Site.{Site}
use Rattle.tq_model.specs.Step.{can_boot, booted}
use Rattle.tq_model.specs.MachineWithFaults.{HaveSite}
use Rattle.tq_coord.specs.declared.site.Manager.{Manager}
use Rattle.tq_coord.specs.Manager.{ImageMatches}
use Rattle.tq_coord.specs.Frame.{device_count}

-- the images of all devices stand for a site
abbrev pub ImagesHave : Site → Images → Type 0
ImagesHave s images = HaveSite device_count images s

-- they stand for one of these sites
abbrev pub ImagesHaveAny : List Site → Images → Type 0
ImagesHaveAny sites images = Any (HaveSite device_count images) sites

abbrev pub AreEither : Site → Site → Images → Type 0
AreEither s t images = ImagesHave s images ⊎ ImagesHave t images

-- they stand for what was found, or for the boot of it
abbrev pub AreFoundOrBooted : Site → Images → Type 0
AreFoundOrBooted found images = ImagesHave found images ⊎ ((can_boot found ≡ true) × ImagesHave (booted found) images)

-- they stand for a site of these, or for the boot of the one that was found
abbrev pub AreOldOrBooted : List Site → Site → Images → Type 0
AreOldOrBooted sites found images = ImagesHaveAny sites images ⊎ ((can_boot found ≡ true) × ImagesHave (booted found) images)

-- each image that a stop may leave of the manager's device has what the manager holds of it
abbrev pub ImagesMatch : Manager → View → Type 0
ImagesMatch m v = (c : List ℕ) → v.may_leave 0 c → ImageMatches m c

-- no image is one that was not there
abbrev pub HasNoNewImage : View → View → Type 0
HasNoNewImage old new = (d : ℕ) (c : List ℕ) → new.may_leave d c → old.may_leave d c
