-- The table of a device that was just made.
use Rattle.std.proofs.Common.{◌≡◌, ◌<◌, ℕ, List, [], true, replicate, Some, None, refl, sym, ap, subst, arith}
use Rattle.tq_extent.specs.Bytes.{reaches}
use Rattle.tq_extent.proofs.BytesLemmas.{header_reached}
use Rattle.tq_model.specs.Site.{table_entries}
use Rattle.tq_model.specs.DeviceForm.{raw_header, raw_journal}
use Rattle.tq_model.specs.Reading.{DevicePart}
use Rattle.tq_gate.specs.declared.layout.Layout.{Layout}
use Rattle.tq_gate.specs.declared.log.GateLog.{GateLog}
use Rattle.tq_gate.specs.Layout.{IsLaidOut, clusters_of, bytes_in, first_area}
use Rattle.tq_gate.specs.Log.{IsLog}
use Rattle.tq_gate.specs.Reading.{Content, content_on, area_of}
use Rattle.tq_devtab.specs.declared.table.DeviceTable.{DeviceTable}
use Rattle.tq_devtab.specs.Device.{HasPart, HasFirstAreas, new_part}
use Rattle.tq_devtab.specs.InMemory.{IsTableOf, part_of, place_of}
use Rattle.tq_devtab.specs.Table.{IsTable}
use Rattle.tq_devtab.specs.Volume.{TablePart, HasTable, new_table, most_bytes, table_layout, volume_tests}
use Rattle.tq_devtab.proofs.DeviceLemmas.{split, own_journal_tests}
use Rattle.tq_devtab.proofs.LoadLemmas.{found, content_found, first_area_is}

pub new_is_table : (clusters : ℕ) → IsTable 1 clusters most_bytes (replicate table_entries None)
new_is_table clusters = record { count = refl; table = refl; each = refl }

pub table_laid_out : (dev : ℕ) → dev < 8 → IsLaidOut (table_layout dev)
table_laid_out dev below = record { dev = below; size = omega arith; end = omega arith; apart = λ i from to selects. omega (arith, from, selects) }

-- what an image says of the table, where it says all that a new device does
pub part_has_table : (place site clusters : ℕ) (image : List ℕ) → HasPart place (new_part place site clusters) image
    → HasTable place (new_table site clusters) image
part_has_table place site clusters image has =
    let h = raw_header image in
    let both = split (volume_tests place image) (own_journal_tests place (raw_journal h.journal image)) has.tests in
    record {
      size = has.size;
      tests = both.0;
      part = ap (λ (d : DevicePart). record { site = d.site; clusters = d.clusters; next_space = d.next_space; entries = d.entries }) has.part;
    }

-- a log that is that of each image with no payload in the first area
module _ (layout : Layout) (log : GateLog) (dev site clusters : ℕ) (there : layout ≡ table_layout dev)
    (on : (k : Content) (c : List ℕ) → reaches (clusters_of layout) c ≡ true → area_of layout (bytes_in layout c) ≡ first_area layout
    → content_on layout c ≡ Some k → k.payloads ≡ [] → IsLog log k c) where
  pub table_made : (t : DeviceTable) (image : List ℕ) → t.log ≡ log → place_of t ≡ dev → part_of t ≡ new_table site clusters
      → HasPart dev (new_part dev site clusters) image → HasFirstAreas image → IsTableOf t image
  table_made t image same number part has first =
      let long = has.size in
      let back = sym there in
      let k = found dev image long in
      let is = on k image
      (subst (λ (l : Layout). reaches (clusters_of l) image ≡ true) back (header_reached image long))
      (subst (λ (l : Layout). area_of l (bytes_in l image) ≡ first_area l) back (first_area_is dev image long first.table))
      (subst (λ (l : Layout). content_on l image ≡ Some k) back (content_found dev image long))
      refl in
      record {
        has = subst (λ p. HasTable p (part_of t) image) (sym number)
            (subst (λ (d : TablePart). HasTable dev d image) (sym part) (part_has_table dev site clusters image has));
        holds = k;
        log = subst (λ (l : GateLog). IsLog l k image) (sym same) is;
      }
