-- The table in an image, by the content of its log.
use Rattle.std.proofs.Common.{◌≡◌, ◌<◌, ◌≤◌, inl, ℕ, ◌+◌, ◌-◌, true, ◌&&◌, List, ◌++◌, length, take, drop, get_or, Option, Some, refl, sym, ◌∙◌, ap, subst, arith, leb-true}
use Rattle.std.specs.Prelude.{nat_le, ◌==◌, codes}
use Rattle.std.specs.Str.{bytes_eq}
use Rattle.std.proofs.lemmas.Bool.{and_parts}
use Rattle.std.proofs.lemmas.Bool.Decides.{nat_tests}
use Rattle.std.proofs.lemmas.List.{drop-drop, drop-take, take-take}
use Rattle.std.proofs.lemmas.List.Folds.{list_all-append}
use Rattle.tq_field.specs.Places.{run_at}
use Rattle.tq_field.proofs.Runs.{length-run_at, get_or-run_at}
use Rattle.tq_extent.specs.Bytes.{owned_bytes}
use Rattle.tq_extent.proofs.BytesLemmas.{header-owned}
use Rattle.tq_model.specs.Site.{header_clusters, least_clusters, most_clusters, numbers_from}
use Rattle.tq_model.specs.DeviceForm.{RawHeader, raw_header, raw_table, header_bytes, table_bytes, chosen, table_a, table_b}
use Rattle.tq_model.specs.Reading.{NamedSpace, header_tests, table_tests, entries_tests, used_entries, hold_all}
use Rattle.tq_gate.specs.Reading.{Content, content_on, area_of}
use Rattle.tq_gate.specs.Log.{replaced}
use Rattle.tq_gate.proofs.Contents.{holds_of}
use Rattle.tq_devtab.specs.Table.{IsTable, table_of}
use Rattle.tq_devtab.specs.Volume.{TablePart, HasTable, IsSameButTable, table_layout, table_part, volume_tests}
use Rattle.tq_devtab.specs.Spelling.{IsSpellable}
use Rattle.tq_devtab.proofs.SameByteLemmas.{run_kept, number_kept}
use Rattle.tq_devtab.proofs.SameTableLemmas.{SaysTable, says_holds, holds_says, spelt_says, says_same}
use Rattle.tq_devtab.proofs.SpellingLemmas.{spellable}

-- ---- where it lies

pub either_area : (selector : ℕ) → (table_a ≤ chosen selector table_a table_b) × (chosen selector table_a table_b ≤ table_b)
either_area selector = grind (arith, nat_tests)

-- a run of the bytes of the header
run_of : (at n : ℕ) (image : List ℕ) → at + n ≤ header_bytes → run_at at n (run_at 0 header_bytes image) ≡ run_at at n image
run_of at n image within =
    let e : header_bytes ≡ at + (header_bytes - at) = omega arith in
    let here : 0 + at ≡ at = omega arith in
    ap (λ (j : ℕ). take n (drop at (take j (drop 0 image)))) e
    ∙ ap (take n) (drop-take at (header_bytes - at) (drop 0 image))
    ∙ take-take n (header_bytes - at) (drop at (drop 0 image)) (omega arith)
    ∙ ap (take n) (drop-drop at 0 image)
    ∙ ap (λ (p : ℕ). run_at p n image) here

module _ (dev : ℕ) (image : List ℕ) where
  abbrev bytes : List ℕ
  bytes = owned_bytes (numbers_from 0 header_clusters) image

  abbrev at_table : ℕ
  at_table = (raw_header image).table

  pub byte_is : (i : ℕ) → i < header_bytes → get_or bytes i 0 ≡ get_or image i 0
  byte_is i lt =
      let here : 0 + i ≡ i = omega arith in
      ap (λ (b : List ℕ). get_or b i 0) (header-owned image) ∙ get_or-run_at 0 header_bytes image i 0 lt ∙ ap (λ (p : ℕ). get_or image p 0) here

  pub area_is : area_of (table_layout dev) bytes ≡ at_table
  area_is = ap (λ (selector : ℕ). chosen selector table_a table_b) (byte_is 512 (omega arith))

  -- the base of its log is that of the area that the header chooses
  pub base_read : (k : Content) → content_on (table_layout dev) image ≡ Some k → k.base ≡ run_at at_table table_bytes image
  base_read k is =
      let within = either_area (get_or image 512 0) in
      sym (holds_of (table_layout dev) k bytes is).base
      ∙ ap (λ (area : ℕ). run_at area table_bytes bytes) area_is
      ∙ ap (run_at at_table table_bytes) (header-owned image)
      ∙ run_of at_table table_bytes image (omega (arith, within))

  module _ (long : header_bytes ≤ length image) (k : Content) (is : content_on (table_layout dev) image ≡ Some k) where
    base_long : length k.base ≡ table_bytes
    base_long =
        let within = either_area (get_or image 512 0) in
        ap (λ (l : List ℕ). length l) (base_read k is) ∙ length-run_at at_table table_bytes image (omega (arith, within))

    base_byte : (i : ℕ) → i < table_bytes → get_or k.base i 0 ≡ get_or image (at_table + i) 0
    base_byte i lt = ap (λ (l : List ℕ). get_or l i 0) (base_read k is) ∙ get_or-run_at at_table table_bytes image i 0 lt

    -- what the base says the image says, and the other way round
    says_image : (next : ℕ) (entries : List (Option NamedSpace)) → IsSpellable entries → SaysTable next entries (raw_table 0 k.base)
        → SaysTable next entries (raw_table at_table image)
    says_image next entries fits says =
        let within = either_area (get_or image 512 0) in
        says_same 0 at_table k.base image (omega (arith, base_long)) (omega (arith, within))
        (λ x y from to place. base_byte x (omega arith) ∙ ap (λ (i : ℕ). get_or image i 0) (omega arith)) next entries fits says

    says_base : (next : ℕ) (entries : List (Option NamedSpace)) → IsSpellable entries → SaysTable next entries (raw_table at_table image)
        → SaysTable next entries (raw_table 0 k.base)
    says_base next entries fits says =
        let within = either_area (get_or image 512 0) in
        says_same at_table 0 image k.base (omega (arith, within)) (omega (arith, base_long))
        (λ x y from to place. ap (λ (i : ℕ). get_or image i 0) (omega arith) ∙ sym (base_byte y (omega arith))) next entries fits says

-- ---- what an image says

-- the tests of its header hold, its table says these entries, and they are those of a table
pub record HasParts (place : ℕ) (d : TablePart) (image : List ℕ) : Type 0 where
  pub header : hold_all (header_tests place (raw_header image)) ≡ true
  pub site : (raw_header image).site ≡ d.site
  pub clusters : (raw_header image).clusters ≡ d.clusters
  pub least : least_clusters ≤ d.clusters
  pub most : d.clusters ≤ most_clusters
  pub says : SaysTable d.next_space d.entries (raw_table (raw_header image).table image)
  pub table : IsTable d.next_space d.clusters (length image) d.entries

pub clusters_within : (place : ℕ) (h : RawHeader) → hold_all (header_tests place h) ≡ true → (least_clusters ≤ h.clusters) × (h.clusters ≤ most_clusters)
clusters_within place h holds =
    let least = nat_le least_clusters h.clusters in
    let most = nat_le h.clusters most_clusters in
    let a = and_parts (bytes_eq h.mark (codes "TQDEV001")) ((h.device == place) && (nat_le 1 h.site && ((least && most) && true))) holds in
    let b = and_parts (h.device == place) (nat_le 1 h.site && ((least && most) && true)) a.1 in
    let c = and_parts (nat_le 1 h.site) ((least && most) && true) b.1 in
    let d = and_parts least most (and_parts (least && most) true c.1).0 in
    (leb-true least_clusters h.clusters d.0, leb-true h.clusters most_clusters d.1)

parts_of : (place : ℕ) (image : List ℕ) → hold_all (volume_tests place image) ≡ true → HasParts place (table_part image) image
parts_of place image tests =
    let h = raw_header image in
    let t = raw_table h.table image in
    let others = table_tests t ++ entries_tests t.next h.clusters (length image) (used_entries t) in
    let both =
    and_parts (hold_all (header_tests place h)) (hold_all others) (sym (list_all-append (λ test. test) (header_tests place h) others) ∙ tests) in
    let within = clusters_within place h both.0 in
    let table = holds_says h.table h.clusters (length image) image both.1 in
    record {
      header = both.0;
      site = refl;
      clusters = refl;
      least = within.0;
      most = within.1;
      says = table.0;
      table = table.1;
    }

pub has_parts : (place : ℕ) (d : TablePart) (image : List ℕ) → HasTable place d image → HasParts place d image
has_parts place d image has = subst (λ (e : TablePart). HasParts place e image) has.part (parts_of place image has.tests)

pub parts_has : (place : ℕ) (d : TablePart) (image : List ℕ) → header_bytes ≤ length image → HasParts place d image → HasTable place d image
parts_has place d image long parts =
    let h = raw_header image in
    let t = raw_table h.table image in
    let others = table_tests t ++ entries_tests t.next h.clusters (length image) (used_entries t) in
    let table : IsTable d.next_space h.clusters (length image) d.entries = subst (λ (n : ℕ). IsTable d.next_space n (length image) d.entries) (sym parts.clusters) parts.table in
    let holds = says_holds d.next_space h.clusters (length image) d.entries t parts.says table in
    record {
      size = long;
      tests = list_all-append (λ test. test) (header_tests place h) others ∙ (λ i. parts.header i && holds i);
      part = λ i. record { site = parts.site i; clusters = parts.clusters i; next_space = parts.says.next_is i; entries = parts.says.named i };
    }

-- ---- a change of the table alone

module _ (dev place : ℕ) (d : TablePart) (old new : List ℕ) (step : IsSameButTable dev old new) (has : HasTable place d old) where
  abbrev parts : HasParts place d old
  parts = has_parts place d old has

  long : header_bytes ≤ length new
  long = omega (arith, has.size, step.size)

  -- the bytes before its selector are kept
  below : (i : ℕ) → i < 512 → get_or new i 0 ≡ get_or old i 0
  below i lt =
      sym (byte_is dev new i (omega arith)) ∙ step.bytes.outside i (inl (omega arith)) (λ selects. omega arith) ∙ byte_is dev old i (omega arith)

  -- another part of that site and so many clusters, whose table the new image says
  with_table : (next : ℕ) (entries : List (Option NamedSpace)) → SaysTable next entries (raw_table (raw_header new).table new)
      → IsTable next d.clusters (length old) entries → HasTable place (record d { next_space = next; entries = entries }) new
  with_table next entries says table =
      let size = has.size in
      let mark = run_kept 512 old new below (omega arith) (omega (arith, long)) 0 8 (omega arith) in
      let device = below 8 (omega arith) in
      let site = number_kept 512 old new below (omega arith) (omega (arith, long)) 12 4 (omega arith) in
      let clusters = number_kept 512 old new below (omega arith) (omega (arith, long)) 16 4 (omega arith) in
      parts_has place (record d { next_space = next; entries = entries }) new long (record {
        header =
            (λ i. bytes_eq (mark i) (codes "TQDEV001") && ((device i == place) && (nat_le 1 (site i) && ((nat_le least_clusters (clusters i) && nat_le (clusters i) most_clusters) && true))))
            ∙ parts.header;
        site = site ∙ parts.site;
        clusters = clusters ∙ parts.clusters;
        least = parts.least;
        most = parts.most;
        says = says;
        table = subst (λ (n : ℕ). IsTable next d.clusters n entries) (sym step.size) table;
      })

  -- the table is that of the base that was written
  pub stored_table : (next : ℕ) (entries : List (Option NamedSpace)) (base : List ℕ) → content_on (table_layout dev) new ≡ Some (replaced base)
      → raw_table 0 base ≡ table_of next entries → IsTable next d.clusters (length old) entries → HasTable place (record d { next_space = next; entries = entries }) new
  stored_table next entries base is spelt table =
      with_table next entries
      (says_image dev new long (replaced base) is next entries (spellable next d.clusters (length old) entries parts.most table) (spelt_says next entries (raw_table 0 base) spelt))
      table

  -- or the one that it was, where the content is
  pub kept_table : (k : Content) → content_on (table_layout dev) old ≡ Some k → content_on (table_layout dev) new ≡ Some k → HasTable place d new
  kept_table k was now =
      let fits = spellable d.next_space d.clusters (length old) d.entries parts.most parts.table in
      with_table d.next_space d.entries
      (says_image dev new long k now d.next_space d.entries fits (says_base dev old has.size k was d.next_space d.entries fits parts.says)) parts.table
