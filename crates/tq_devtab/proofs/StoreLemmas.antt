-- A table is stored: what each image says then.
use Rattle.std.proofs.Common.{◌≡◌, inl, inr, ◌≤◌, ℕ, zero, suc, ◌+◌, true, List, [], ◌∷◌, length, set, Option, None, Some, Result, Ok, Err, refl, sym, ap, ◌∙◌, subst, arith}
use Rattle.std.specs.Prelude.{OnOk, is_some, option_map}
use Rattle.tq_host.specs.View.{Told, View, IsLawful, IsSettled}
use Rattle.tq_extent.specs.Bytes.{OnBytes, reaches}
use Rattle.tq_extent.specs.Clusters.{clusters_of}
use Rattle.tq_model.specs.Site.{header_clusters, clusters_for}
use Rattle.tq_model.specs.Reading.{NamedSpace}
use Rattle.tq_model.specs.DeviceForm.{raw_table}
use Rattle.tq_gate.specs.declared.layout.Layout.{Layout}
use Rattle.tq_gate.specs.Layout as gate
use Rattle.tq_gate.specs.Reading.{Content, content_on}
use Rattle.tq_gate.specs.Log.{IsLog, HaveLog, IsSameBeside, IsSameButAreas, IsOldOrReplaced, replaced}
use Rattle.tq_devtab.specs.declared.table.DeviceTable.{DeviceTable}
use Rattle.tq_devtab.specs.Table.{IsTable, entry_view, entries_view, entry_of, table_of, with_entry, without_entry}
use Rattle.tq_devtab.specs.declared.entry.TableEntry.{TableEntry}
use Rattle.tq_devtab.specs.Volume.{TablePart, HasTable, IsReserved, most_bytes, IsSameButTable, IsTableOrNext, table_layout}
use Rattle.tq_devtab.specs.InMemory.{IsTableOf, AreTableOf, IsChangeOf, AreChangeOf, dev_of, part_of, place_of}
use Rattle.tq_devtab.proofs.TableImageLemmas.{has_parts, stored_table, kept_table}
use Rattle.tq_devtab.proofs.ReservedLemmas.{most_reached, entered_table}
use Rattle.tq_devtab.proofs.TableLemmas.{without_space}

-- what follows from both follows at Ok
pub both_ok : {T E : Type 0} (r : Result T E) {P Q R : Type 0} → OnOk r P → OnOk r Q → (P → Q → R) → OnOk r R
both_ok (Ok x) p q to = to p q
both_ok (Err e) p q to = tt

module _ (t : DeviceTable) where
  -- a step beside the areas of its log is one beside the table
  pub beside_table : (b c : List ℕ) → IsSameButAreas t.log b c → IsSameButTable (dev_of t) b c
  beside_table b c step = subst (λ (l : Layout). OnBytes (gate.clusters_of l) (IsSameBeside l) b c) t.layout step

  log_content : (k : Content) (image : List ℕ) → IsLog t.log k image → content_on (table_layout (dev_of t)) image ≡ Some k
  log_content k image is = subst (λ (l : Layout). content_on l image ≡ Some k) t.layout is.is.reads

  module _ (d : TablePart) (base : List ℕ) (spelt : raw_table 0 base ≡ table_of t.next (entries_view t.entries.items)) where
    -- an image that differs in the table alone and has this base has the table in memory
    pub next_table : (b c : List ℕ) → IsChangeOf d t b → IsSameButTable (dev_of t) b c → content_on (table_layout (dev_of t)) c ≡ Some (replaced base)
        → HasTable (place_of t) (part_of t) c
    next_table b c change step is =
        let entries = entries_view t.entries.items in
        let fits : IsTable t.next d.clusters (length b) entries = subst (λ (n : ℕ). IsTable t.next n (length b) entries) (sym change.clusters) change.fits in
        subst (λ (e : TablePart). HasTable t.place e c) (λ i. record { site = change.site i; clusters = change.clusters i; next_space = t.next; entries = entries })
        (stored_table (dev_of t) t.place d b c step change.has t.next entries base is spelt fits)

    module _ (v : View) (are : AreChangeOf d t v) where
      pub has_log : HaveLog t.log v
      has_log image may = let is = are image may in record { holds = is.holds; is = is.log }

      -- an image in the midst of it
      pub old_or_next : (b c : List ℕ) → v.may_leave (dev_of t) b → IsSameButAreas t.log b c → IsOldOrReplaced t.log v base c
          → IsSameButTable (dev_of t) b c × IsTableOrNext (dev_of t) (place_of t) d (part_of t) (v.reads (dev_of t)) c
      old_or_next b c may step now = (
        beside_table b c step,
        elim now [
          | inl old ↦
              let was = are old.was old.left in
              let before = log_content was.holds old.was was.log in
              let same = subst (λ (l : Layout). content_on l c ≡ content_on l old.was) t.layout old.reads in
              inl (kept_table (dev_of t) t.place d old.was c (beside_table old.was c old.outside) was.has was.holds before (same ∙ before))
          | inr new ↦
              let is = subst (λ (l : Layout). content_on l c ≡ Some (replaced base)) t.layout new.reads in
              inr (next_table b c (are b may) (beside_table b c step) is, beside_table (v.reads (dev_of t)) c new.outside)
        ],
      )

-- ---- entries in memory that are changed

pub view-set : (entries : List (Option TableEntry)) (i : ℕ) (e : Option TableEntry) → entries_view (set entries i e) ≡ set (entries_view entries) i (option_map entry_view e)
view-set [] i e = refl
view-set (None ∷ entries) zero None = refl
view-set (None ∷ entries) zero (Some e) = refl
view-set (Some x ∷ entries) zero None = refl
view-set (Some x ∷ entries) zero (Some e) = refl
view-set (None ∷ entries) (suc i) e = ap (λ (l : List (Option NamedSpace)). None ∷ l) (view-set entries i e)
view-set (Some x ∷ entries) (suc i) e = ap (λ (l : List (Option NamedSpace)). Some (entry_view x) ∷ l) (view-set entries i e)

module _ (t : DeviceTable) where
  abbrev pub views : List (Option NamedSpace)
  views = entries_view t.entries.items

  pub least : header_clusters ≤ t.clusters
  least = omega (arith, t.least)

  -- where nothing is pending, what is read is what each image has
  pub table_images : {tells : Told} (now : DeviceTable) (old new : View) → IsLawful tells old → IsLawful tells new → dev_of now ≡ dev_of t → IsSettled (dev_of t) new
      → (tells.reads → IsTableOf t (old.reads (dev_of t)) → IsTableOf now (new.reads (dev_of t))) → AreTableOf t old → AreTableOf now new
  table_images now old new lawful_old lawful_new same settled to are image may =
      let left = subst (λ (d : ℕ). new.may_leave d image) same may in
      let stops = lawful_new.stops_told (dev_of t) image left in
      let was = are (old.reads (dev_of t)) (lawful_old.reads_an_image stops (dev_of t)) in
      subst (λ (i : List ℕ). IsTableOf now i) (sym (settled image left)) (to (lawful_new.reads_told stops) was)

  -- the entries of an image's table
  pub table_in : (image : List ℕ) → IsTableOf t image → IsTable t.next t.clusters (length image) views
  table_in image is = (has_parts t.place (part_of t) image is.has).table

  -- a space more
  pub entered_in : (n : NamedSpace) (image : List ℕ) → IsReserved (part_of t) n → reaches (clusters_of n.extents) image ≡ true → IsTableOf t image
      → IsTable (t.next + 1) t.clusters (length image) (with_entry n views)
  entered_in n image r reach is = let table = table_in image is in entered_table (part_of t) (length image) least t.most table n (length image) r table reach

  pub entered : (n : NamedSpace) → IsReserved (part_of t) n → IsTable (t.next + 1) t.clusters most_bytes (with_entry n views)
  entered n r =
      entered_table (part_of t) most_bytes least t.most t.table n most_bytes r t.table
      (most_reached (part_of t) most_bytes least t.most t.table (clusters_for n.pages) n.extents r.extents r.enough)

  -- a space less
  module _ (ordinal : ℕ) (there : is_some (entry_of ordinal views) ≡ true) where
    pub space_there : (n : NamedSpace) × (entry_of ordinal views ≡ Some n)
    space_there = known (entry_of ordinal views) there
      where
        known : (o : Option NamedSpace) → is_some o ≡ true → (n : NamedSpace) × (o ≡ Some n)
        known None is = absurd (cc)
        known (Some n) is = (n, refl)

    pub dropped_in : (image : List ℕ) → IsTableOf t image → IsTable t.next t.clusters (length image) (without_entry ordinal views)
    dropped_in image is = (without_space t.next t.clusters (length image) ordinal views space_there.0 least (table_in image is) space_there.1).0

    pub dropped : IsTable t.next t.clusters most_bytes (without_entry ordinal views)
    dropped = (without_space t.next t.clusters most_bytes ordinal views space_there.0 least t.table space_there.1).0
