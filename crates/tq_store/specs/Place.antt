-- Where a space lies on its device.
use Rattle.std.specs.Prelude.{◌≡◌, ◌<◌, ◌≤◌, ℕ, List}
use Rattle.tq_extent.specs.Pages.{page_count}
use Rattle.tq_gate.specs.declared.layout.Layout.{Layout}
use Rattle.tq_gate.specs.declared.layout.Areas.TheVariants.{Two}
use Rattle.tq_model.specs.declared.space.Shape.{Shape}
use Rattle.tq_model.specs.Space.{slot_pages, log_pages, overhead_pages}
use Rattle.tq_slots.specs.SpaceReading.{selector_place}
use Rattle.tq_store.specs.declared.place.SpacePlace.{SpacePlace}

-- the place is on one of the eight devices, has the pages of a space, and the clusters have them all
pub record IsPlace (place : SpacePlace) (clusters : List ℕ) : Type 0 where
  pub dev : place.dev < 8
  pub least : 1 ≤ place.pages
  pub most : place.pages ≤ 262016
  pub enough : place.pages ≤ page_count clusters

-- the creation is within its limits, and of as many pages as the place has
pub record IsCreation (place : SpacePlace) (shape : Shape) : Type 0 where
  pub pages : shape.pages ≡ place.pages
  pub queues : (1 ≤ shape.queues) × (shape.queues ≤ 256)
  pub messages : (1 ≤ shape.messages) × (shape.messages ≤ 8192)
  pub transactions : (1 ≤ shape.transactions) × (shape.transactions ≤ 64)
  pub memory : shape.memory ≤ 16777216
  pub overhead : overhead_pages shape < shape.pages

-- the log of a space stands behind its first page, in two areas
abbrev pub log_layout : SpacePlace → Shape → List ℕ → Layout
log_layout place shape clusters =
    record {
      dev = place.dev;
      map = clusters;
      areas = Two selector_place;
      first = 1;
      base_pages = slot_pages shape;
      log_pages = log_pages shape;
    }
