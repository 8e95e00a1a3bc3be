-- The header of a device, as its first bytes say it.
use Rattle.std.specs.Prelude.{◌≡◌, ℕ, ◌&&◌, nat_lt, Bool, true, List, Option, map}
use Rattle.tq_model.specs.DeviceForm.{raw_header, raw_table}
use Rattle.tq_model.specs.Reading.{header_tests, named_in, hold_all}
use Rattle.tq_devtab.specs.declared.header.Header.{Header}
use Rattle.tq_devtab.specs.Volume.{TablePart, place_asked}

-- all tests of a header that is to have the asked number
abbrev pub header_holds : Option ℕ → List ℕ → Bool
header_holds place image = nat_lt (place_asked place image) 8 && hold_all (header_tests (place_asked place image) (raw_header image))

-- an image begins with this header
pub record HasHeader (place : Option ℕ) (h : Header) (image : List ℕ) : Type 0 where
  pub holds : header_holds place image ≡ true
  pub place_is : h.place ≡ place_asked place image
  pub site_is : h.site ≡ (raw_header image).site
  pub clusters_are : h.clusters ≡ (raw_header image).clusters

-- what a header says, and the base of a table with it
abbrev pub part_with : Header → List ℕ → TablePart
part_with h base = record { site = h.site; clusters = h.clusters; next_space = (raw_table 0 base).next; entries = map named_in (raw_table 0 base).entries }
