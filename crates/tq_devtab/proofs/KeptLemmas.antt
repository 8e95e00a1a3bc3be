-- What a device with a table has, and steps after which it has the table still.
use Rattle.std.proofs.Common.{◌≡◌, ◌≢◌, ◌⊎◌, ◌<◌, ◌≤◌, inl, inr, ⊎_elim, ℕ, ◌+◌, true, List, length, get_or, Some, None, sym, ap, ◌∙◌, subst, arith}
use Rattle.std.specs.Prelude.{◌/◌}
use Rattle.tq_field.specs.Places.{number_at}
use Rattle.tq_model.specs.Site.{header_clusters, numbers_from, most_clusters}
use Rattle.tq_model.specs.DeviceForm.{RawHeader, raw_header, raw_table, chosen, header_bytes, cluster_bytes, table_a, table_b, journal_a}
use Rattle.tq_model.specs.Reading.{NamedSpace, is_extent, header_tests, hold_all}
use Rattle.tq_extent.specs.Bytes.{reaches, ShareNone, OnBytes}
use Rattle.tq_extent.specs.Clusters.{clusters_of}
use Rattle.tq_extent.proofs.BytesLemmas.{header_byte, header_byte_at, header_reached, reaches_extents}
use Rattle.tq_extent.proofs.OwnerLemmas.{shared_alike}
use Rattle.tq_gate.specs.declared.layout.Layout.{Layout}
use Rattle.tq_gate.specs.Layout as places
use Rattle.tq_gate.specs.Layout.{bytes_in, first_area, IsSelector}
use Rattle.tq_gate.specs.Log.{IsSameBeside, layout_of}
use Rattle.tq_gate.proofs.OutsideLemmas.{IsOf, log_elsewhere}
use Rattle.tq_devtab.specs.declared.table.DeviceTable.{DeviceTable}
use Rattle.tq_devtab.specs.Device.{IsLonger}
use Rattle.tq_devtab.specs.InMemory.{IsTableOf, part_of}
use Rattle.tq_devtab.specs.Table.{IsTable}
use Rattle.tq_devtab.specs.Volume.{TablePart, HasTable, table_layout}
use Rattle.tq_devtab.proofs.EntryLemmas.{entry_holds, entry_parts, table_parts}
use Rattle.tq_devtab.proofs.FreeLemmas.{ends_by}
use Rattle.tq_devtab.proofs.ListLemmas.{all-weaker}
use Rattle.tq_devtab.proofs.SameByteLemmas.{same_runs, same_numbers}
use Rattle.tq_devtab.proofs.SameTableLemmas.{SaysTable, says_same}
use Rattle.tq_devtab.proofs.SpellingLemmas.{spellable}
use Rattle.tq_devtab.proofs.TableImageLemmas.{either_area, has_parts, parts_has}
use Rattle.tq_devtab.proofs.TableLemmas.{all-present, extent-reached, table_longer}

-- ---- a device that has a table

module _ (place : ℕ) (d : TablePart) (image : List ℕ) (has : HasTable place d image) where
  pub table_has : IsTable d.next_space d.clusters (length image) d.entries
  table_has = (has_parts place d image has).table

  pub few_clusters : d.clusters ≤ most_clusters
  few_clusters = (has_parts place d image has).most

  -- it reaches to the end of its spaces' clusters
  pub table_reaches : (i : ℕ) (n : NamedSpace) → get_or d.entries i None ≡ Some n → reaches (clusters_of n.extents) image ≡ true
  table_reaches i n at =
      let size = length image in
      let each = (table_parts d.next_space d.clusters size d.entries table_has).each in
      let is = entry_parts d.next_space d.clusters size n (all-present (entry_holds d.next_space d.clusters size) d.entries i n each at) in
      reaches_extents n.extents image (all-weaker (is_extent d.clusters size) (ends_by size) n.extents (extent-reached d.clusters size) is.extents)

-- ---- the bytes by which a device has it

-- an image that is no shorter, with the same bytes before the journal but for the journal's selector
pub record KeepsTable (old new : List ℕ) : Type 0 where
  pub longer : length old ≤ length new
  pub bytes : (at : ℕ) → at < journal_a → at ≢ 513 → get_or new at 0 ≡ get_or old at 0

module _ (old new : List ℕ) (long : header_bytes ≤ length old) (keeps : KeepsTable old new) where
  abbrev h : RawHeader
  h = raw_header old

  number_kept : (at n : ℕ) → at + n ≤ 512 → number_at at n new ≡ number_at at n old
  number_kept at n fits =
      let longer = keeps.longer in
      same_numbers at at n new old (omega arith) (omega arith) (λ j lt. keeps.bytes (at + j) (omega arith) (λ is. omega arith))

  -- the header, but for the place of the journal
  header_is : raw_header new ≡ record h { journal = (raw_header new).journal }
  header_is =
      let longer = keeps.longer in
      let mark = same_runs 0 0 8 new old (omega arith) (omega arith) (λ j lt. keeps.bytes (0 + j) (omega arith) (λ is. omega arith)) in
      let device = keeps.bytes 8 (omega arith) (λ is. omega arith) in
      let site = number_kept 12 4 (omega arith) in
      let clusters = number_kept 16 4 (omega arith) in
      let table = keeps.bytes 512 (omega arith) (λ is. omega arith) in
      λ t. record {
        mark = mark t;
        device = device t;
        site = site t;
        clusters = clusters t;
        table = chosen (table t) table_a table_b;
        journal = (raw_header new).journal;
      }

  pub table_kept : (place : ℕ) (d : TablePart) → HasTable place d old → HasTable place d new
  table_kept place d has =
      let at = h.table in
      let bounds = either_area (get_or old 512 0) in
      let was = has_parts place d old has in
      let longer = keeps.longer in
      let says =
      says_same at at old new (omega (arith, bounds, long)) (omega (arith, bounds, long, longer))
      (λ x y from to is.
      let same : x ≡ y = omega arith in
      ap (λ (i : ℕ). get_or old i 0) same ∙ sym (keeps.bytes y (omega (arith, bounds)) (λ selects. omega (arith, bounds))))
      d.next_space d.entries (spellable d.next_space d.clusters (length old) d.entries was.most was.table) was.says in
      parts_has place d new (omega (arith, long, longer)) (record {
        header = ap (λ (r : RawHeader). hold_all (header_tests place r)) header_is ∙ was.header;
        site = ap (λ (r : RawHeader). r.site) header_is ∙ was.site;
        clusters = ap (λ (r : RawHeader). r.clusters) header_is ∙ was.clusters;
        least = was.least;
        most = was.most;
        says = subst (λ (r : RawHeader). SaysTable d.next_space d.entries (raw_table r.table new)) (sym header_is) says;
        table = table_longer d.next_space d.clusters (length old) (length new) d.entries longer was.table;
      })

-- and the log in memory is that of the image
pub table_of_kept : (t : DeviceTable) (old new : List ℕ) → KeepsTable old new → IsTableOf t old → IsTableOf t new
table_of_kept t old new keeps is =
    let long = is.has.size in
    let longer = keeps.longer in
    let there = t.layout in
    record {
      has = table_kept old new long keeps t.place (part_of t) is.has;
      holds = is.holds;
      log = log_elsewhere t.log is.holds old new
          (subst (λ (l : Layout). reaches (places.clusters_of l) new ≡ true) (sym there) (header_reached new (omega arith)))
          (λ i of. subst (λ (l : Layout). get_or (bytes_in l new) i 0 ≡ get_or (bytes_in l old) i 0) (sym there)
          (same i (subst (λ (l : Layout). IsOf l i) there of))) is.log;
    }
  where
    same : (i : ℕ) → IsOf (table_layout (layout_of t.log).dev) i
        → get_or (bytes_in (table_layout (layout_of t.log).dev) new) i 0 ≡ get_or (bytes_in (table_layout (layout_of t.log).dev) old) i 0
    same i of =
        let both : (i < journal_a) × (i ≢ 513) =
        elim of [ inl within ↦ (omega (arith, within.1), λ is. omega (arith, within.0)) | inr selects ↦ (omega arith, λ is. omega arith) ] in
        header_byte_at i new (omega arith) ∙ keeps.bytes i both.0 both.1 ∙ sym (header_byte_at i old (omega arith))

-- ---- steps that leave them

-- beside a log of the header that lies behind the tables: the journal's
pub keeps_beside : (layout : Layout) (old new : List ℕ) → journal_a ≤ first_area layout
    → ((i : ℕ) → IsSelector layout.areas i → (i ≡ 513) ⊎ (journal_a ≤ i))
    → OnBytes (numbers_from 0 header_clusters) (IsSameBeside layout) old new → KeepsTable old new
keeps_beside layout old new behind selector step =
    let size = step.size in
    record {
      longer = omega arith;
      bytes = λ at lt other.
          sym (header_byte_at at new (omega arith))
          ∙ step.bytes.outside at (inl (omega arith))
          (λ selects. ⊎_elim (λ (is : at ≡ 513). other is) (λ (past : journal_a ≤ at). omega arith) (selector at selects))
          ∙ header_byte_at at old (omega arith);
    }

-- on the bytes of an owner other than the header
pub keeps_elsewhere : (clusters : List ℕ) (S : List ℕ → List ℕ → Type 0) (old new : List ℕ) → ShareNone clusters (numbers_from 0 header_clusters)
    → OnBytes clusters S old new → KeepsTable old new
keeps_elsewhere clusters S old new apart step =
    let size = step.size in
    record {
      longer = omega arith;
      bytes = λ at lt other.
          step.elsewhere at (shared_alike clusters (numbers_from 0 header_clusters) apart (at / cluster_bytes) (header_byte at (omega arith)));
    }

-- more bytes behind the others
pub keeps_longer : (size : ℕ) (old new : List ℕ) → header_bytes ≤ length old → IsLonger size old new → KeepsTable old new
keeps_longer size old new long step = record { longer = step.longer; bytes = λ at lt other. step.bytes at (omega arith) }
