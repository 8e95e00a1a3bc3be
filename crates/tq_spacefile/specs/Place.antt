-- Where a space lies on its device.
use Rattle.std.specs.Prelude.{ℕ, ◌<◌, ◌≤◌, ◌-◌, List}
use Rattle.tq_gate.specs.declared.layout.Layout.{Layout}
use Rattle.tq_gate.specs.declared.layout.Areas.TheVariants.{One}
use Rattle.tq_extent.specs.Bytes.{owned_bytes}
use Rattle.tq_extent.specs.Pages.{page_count}
use Rattle.tq_model.specs.DeviceForm.{first_page}
use Rattle.tq_spacefile.specs.declared.place.SpacePlace.{SpacePlace}

-- the first page of the space that has these clusters
abbrev pub page_of : List ℕ → List ℕ → List ℕ
page_of clusters image = first_page (owned_bytes clusters image)

-- the place is on one of the eight devices, has the pages of a space, and the clusters have them all
pub record IsPlace (place : SpacePlace) (clusters : List ℕ) : Type 0 where
  pub dev : place.dev < 8
  pub least : 1 ≤ place.pages
  pub most : place.pages ≤ 262016
  pub enough : place.pages ≤ page_count clusters

-- the log of a space stands behind its first two pages, of which the second is the log's base
abbrev pub log_layout : SpacePlace → List ℕ → Layout
log_layout place clusters = record { dev = place.dev; map = clusters; areas = One; first = 1; base_pages = 1; log_pages = place.pages - 2 }
