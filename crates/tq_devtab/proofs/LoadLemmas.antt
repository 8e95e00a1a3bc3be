-- The header and the table of an image, by what was read of them.
use Rattle.std.proofs.Common.{◌≡◌, ◌≤◌, ◌&&◌, ℕ, ◌+◌, Bool, true, false, List, [], ◌++◌, length, get_or, map, Option, Some, None, refl, sym, ap, ◌∙◌, subst, arith}
use Rattle.std.specs.Prelude.{nat_lt}
use Rattle.std.specs.Option.{option_map}
use Rattle.std.proofs.lemmas.Bool.{and_parts, false_from_ne_true}
use Rattle.std.proofs.lemmas.List.Folds.{list_all-append}
use Rattle.std.proofs.lemmas.Option.{none-some}
use Rattle.tq_field.specs.Places.{run_at}
use Rattle.tq_field.specs.GatedLog.{log_reading}
use Rattle.tq_field.proofs.Runs.{length-run_at, get_or-run_at}
use Rattle.tq_host.specs.Calls.{HasBytesAt}
use Rattle.tq_extent.specs.Bytes.{owned_bytes}
use Rattle.tq_extent.proofs.BytesLemmas.{header_reached, length-owned}
use Rattle.tq_model.specs.Site.{header_clusters, least_clusters, most_clusters, numbers_from}
use Rattle.tq_model.specs.DeviceForm.{raw_header, raw_table, header_bytes, table_bytes, table_a, table_b, chosen}
use Rattle.tq_model.specs.Reading.{NamedSpace, named_in, header_tests, table_tests, entries_tests, used_entries, hold_all}
use Rattle.tq_gate.specs.declared.layout.Layout.{Layout}
use Rattle.tq_gate.specs.Layout.{first_area, layout_end}
use Rattle.tq_gate.specs.Reading.{Content, content_on, area_of, base_in, log_in}
use Rattle.tq_gate.proofs.Contents.{content_in, fits_some}
use Rattle.tq_gate.proofs.Readings.{reading_shut}
use Rattle.tq_devtab.specs.declared.header.Header.{Header}
use Rattle.tq_devtab.specs.Table.{base_tests, IsTable}
use Rattle.tq_devtab.specs.Volume.{HasTable, table_layout, place_asked, is_volume, volume_tests}
use Rattle.tq_devtab.specs.Header.{HasHeader, header_holds, part_with}
use Rattle.tq_devtab.proofs.SameTableLemmas.{SaysTable, says_holds, holds_says, says_same}
use Rattle.tq_devtab.proofs.SpellingLemmas.{spellable}
use Rattle.tq_devtab.proofs.TableImageLemmas.{clusters_within, either_area, area_is, parts_has}

-- Where the table lies

module _ (dev : ℕ) (image : List ℕ) (long : header_bytes ≤ length image) where
  abbrev layout : Layout
  layout = table_layout dev

  abbrev bytes : List ℕ
  bytes = owned_bytes (numbers_from 0 header_clusters) image

  abbrev at_page : ℕ
  at_page = (raw_header image).table

  abbrev read : List ℕ
  read = run_at at_page table_bytes image

  pub read_within : at_page + table_bytes ≤ length image
  read_within = let area = either_area (get_or image 512 0) in omega (arith, area.1, long)

  pub read_long : length read ≡ table_bytes
  read_long = length-run_at at_page table_bytes image read_within

  pub read_stands : HasBytesAt at_page read image
  read_stands i lt = sym (get_or-run_at at_page table_bytes image i 0 (omega (arith, lt, read_long)))

  bytes_long : length bytes ≡ header_bytes
  bytes_long = length-owned (numbers_from 0 header_clusters) image (header_reached image long)

  pub first_area_is : get_or image 512 0 ≡ 0 → area_of layout bytes ≡ first_area layout
  first_area_is first = area_is dev image ∙ ap (λ (selector : ℕ). chosen selector table_a table_b) first

  abbrev pub found : Content
  found = record { base = base_in layout (area_of layout bytes) bytes; payloads = [] }

  pub content_found : content_on layout image ≡ Some found
  content_found =
      let whole = fits_some (layout_end layout) (length bytes) (content_in layout (area_of layout bytes) bytes) (omega (arith, bytes_long)) in
      let empty : log_reading (log_in layout (area_of layout bytes) bytes) ≡ Some [] = reading_shut 0 0 [] (omega arith) in
      whole ∙ ap (option_map (λ (payloads : List (List ℕ)). record { base = base_in layout (area_of layout bytes) bytes; payloads = payloads })) empty

  pub always_read : content_on layout image ≡ None → ⊥
  always_read none = none-some found (sym none ∙ content_found)

-- What is judged

unfoldable rest_tests : List ℕ → Bool
rest_tests image =
    let h = raw_header image in
    let t = raw_table h.table image in
    hold_all (table_tests t ++ entries_tests t.next h.clusters (length image) (used_entries t))

parted : (place : ℕ) (image : List ℕ) → hold_all (volume_tests place image) ≡ (hold_all (header_tests place (raw_header image)) && rest_tests image)
unfolding rest_tests
parted place image =
    let h = raw_header image in
    let t = raw_table h.table image in
    list_all-append (λ test. test) (header_tests place h) (table_tests t ++ entries_tests t.next h.clusters (length image) (used_entries t))

joined : (a b c : Bool) → (a && (b && c)) ≡ ((a && b) && c)
joined true b c = refl
joined false b c = refl

module _ (place : Option ℕ) (image : List ℕ) where
  volume_parts : is_volume place image ≡ (header_holds place image && rest_tests image)
  volume_parts =
      ap (λ b. nat_lt (place_asked place image) 8 && b) (parted (place_asked place image) image)
      ∙ joined (nat_lt (place_asked place image) 8) (hold_all (header_tests (place_asked place image) (raw_header image))) (rest_tests image)

  pub header_broken : header_holds place image ≡ false → is_volume place image ≡ false
  header_broken broken = volume_parts ∙ ap (λ b. b && rest_tests image) broken

-- with the header, and the base of the table
module _ (place : Option ℕ) (h : Header) (image base : List ℕ) (long : header_bytes ≤ length image) (has : HasHeader place h image)
    (same : base ≡ run_at (raw_header image).table table_bytes image) where
  abbrev at : ℕ
  at = (raw_header image).table

  sized : length base ≡ table_bytes
  sized = ap length same ∙ read_long 0 image long

  stands : HasBytesAt at base image
  stands = subst (λ (b : List ℕ). HasBytesAt at b image) (sym same) (read_stands 0 image long)

  bounds : (least_clusters ≤ h.clusters) × (h.clusters ≤ most_clusters)
  bounds =
      let both = and_parts (nat_lt (place_asked place image) 8) (hold_all (header_tests (place_asked place image) (raw_header image))) has.holds in
      let is = clusters_within (place_asked place image) (raw_header image) both.1 in
      (subst (λ n. least_clusters ≤ n) (sym has.clusters_are) is.0, subst (λ n. n ≤ most_clusters) (sym has.clusters_are) is.1)

  -- what one of the two says, the other says
  says_there : (next : ℕ) (entries : List (Option NamedSpace)) → IsTable next h.clusters (length image) entries → SaysTable next entries (raw_table 0 base)
      → SaysTable next entries (raw_table at image)
  says_there next entries table =
      says_same 0 at base image (omega (arith, sized)) (read_within 0 image long)
      (λ x y from to is. let one : y ≡ at + x = omega arith in sym (ap (λ (i : ℕ). get_or image i 0) one ∙ stands x (omega (arith, sized, to))))
      next entries (spellable next h.clusters (length image) entries bounds.1 table)

  says_own : (next : ℕ) (entries : List (Option NamedSpace)) → IsTable next h.clusters (length image) entries → SaysTable next entries (raw_table at image)
      → SaysTable next entries (raw_table 0 base)
  says_own next entries table =
      says_same at 0 image base (read_within 0 image long) (omega (arith, sized))
      (λ x y from to is. let one : x ≡ at + y = omega arith in ap (λ (i : ℕ). get_or image i 0) one ∙ stands y (omega (arith, sized, to)))
      next entries (spellable next h.clusters (length image) entries bounds.1 table)

  pub table_broken : hold_all (base_tests h.clusters (length image) base) ≡ false → is_volume place image ≡ false
  unfolding rest_tests
  table_broken broken =
      volume_parts place image ∙ ap (λ b. b && rest_tests image) has.holds
      ∙ false_from_ne_true (rest_tests image) (λ holds.
      let sound = subst (λ n. hold_all (table_tests (raw_table at image) ++ entries_tests (raw_table at image).next n (length image) (used_entries (raw_table at image))) ≡ true) (sym has.clusters_are) holds in
      let both = holds_says at h.clusters (length image) image sound in
      let next = (raw_table at image).next in
      let entries = map named_in (raw_table at image).entries in
      let own = says_holds next h.clusters (length image) entries (raw_table 0 base) (says_own next entries both.1 both.0) both.1 in
      absurd (cc))

  pub has_table : hold_all (base_tests h.clusters (length image) base) ≡ true → HasTable h.place (part_with h base) image
  has_table holds =
      let header = and_parts (nat_lt (place_asked place image) 8) (hold_all (header_tests (place_asked place image) (raw_header image))) has.holds in
      let both = holds_says 0 h.clusters (length image) base holds in
      parts_has h.place (part_with h base) image long (record {
        header = ap (λ (p : ℕ). hold_all (header_tests p (raw_header image))) has.place_is ∙ header.1;
        site = sym has.site_is;
        clusters = sym has.clusters_are;
        least = bounds.0;
        most = bounds.1;
        says = says_there (raw_table 0 base).next (map named_in (raw_table 0 base).entries) both.1 both.0;
        table = both.1;
      })
