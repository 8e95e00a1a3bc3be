-- What the epoch of a site leaves of its device where it is raised, and what a stop leaves then.
use Rattle.std.proofs.Common.{◌≡◌, inl, inr, ⊎_elim, ◌<◌, ◌≤◌, ℕ, ◌+◌, List, Option, Some, None, get_or, length, refl, sym, ◌∙◌, ap, subst, arith}
use Rattle.std.specs.Prelude.{option_map}
use Rattle.tq_host.specs.View.{View}
use Rattle.tq_host.specs.Within.{Within, WithinAll}
use Rattle.tq_host.proofs.AllDevices.{of_one}
use Rattle.tq_extent.specs.Bytes.{owned_bytes}
use Rattle.tq_extent.specs.Clusters.{clusters_of}
use Rattle.tq_extent.proofs.BytesLemmas.{others_kept, reaches_longer}
use Rattle.tq_model.specs.Site.{Site, header_clusters, numbers_from, last_epoch}
use Rattle.tq_model.specs.Step.{booted, with_next_epoch}
use Rattle.tq_model.specs.Reading.{NamedSpace}
use Rattle.tq_model.proofs.Images.{found_durable}
use Rattle.tq_model.proofs.RecordMoves.{newer_after_boot}
use Rattle.tq_gate.specs.Log.{IsSameBeside}
use Rattle.tq_devtab.specs.declared.table.DeviceTable.{DeviceTable}
use Rattle.tq_devtab.specs.InMemory.{part_of, IsTableOf}
use Rattle.tq_devtab.specs.Volume.{TablePart, HasTable}
use Rattle.tq_devtab.proofs.KeptLemmas.{keeps_beside, table_has, table_of_kept}
use Rattle.tq_devtab.proofs.OwnerLemmas.{entry_beside_header}
use Rattle.tq_site.specs.declared.journal.SiteJournal.{SiteJournal}
use Rattle.tq_site.specs.InMemory.{IsJournalOf, dev_of}
use Rattle.tq_site.specs.Journal.{HasEpoch, IsEpochOrNext, IsSameButJournal, journal_layout}
use Rattle.tq_spacefile.specs.declared.file.SpaceFile.{SpaceFile}
use Rattle.tq_spacefile.specs.File.{clusters_in, held_in}
use Rattle.tq_spacefile.proofs.Files.{file_kept, file_later, file_epochs}
use Rattle.tq_coord.specs.declared.site.Disk.{Disk}
use Rattle.tq_coord.specs.Manager.{HasDisk, HasFileOf, HasFiles, IsFileAt, IsLoaded, epoch_of, files_of, site_with}
use Rattle.tq_coord.specs.Frame.{device_count}
use Rattle.tq_coord.specs.Images.{ImagesHave, AreFoundOrBooted}
use Rattle.tq_coord.proofs.ImageLemmas.{found_have}
use Rattle.tq_coord.proofs.FoundLemmas.{HasParts, can_raise, file_at, loaded_found, parts_found, site_from}

-- ---- the space of an entry

-- Only the bytes of its clusters tell what it is.
pub file_at_kept : (t : TablePart) (epoch : ℕ) (named : Option NamedSpace) (file : Option SpaceFile) (old new : List ℕ) → length old ≤ length new
    → ((n : NamedSpace) → named ≡ Some n → owned_bytes (clusters_of n.extents) new ≡ owned_bytes (clusters_of n.extents) old)
    → IsFileAt t epoch named file old → IsFileAt t epoch named file new
file_at_kept t epoch None None old new longer same is = tt
file_at_kept t epoch None (Some f) old new longer same is = absurd is
file_at_kept t epoch (Some n) None old new longer same is = absurd is
file_at_kept t epoch (Some n) (Some f) old new longer same is =
    let bytes = subst (λ (l : List ℕ). owned_bytes l new ≡ owned_bytes l old) (sym is.0.clusters) (same n refl) in
    (is.0, file_kept f epoch old new bytes (reaches_longer (clusters_in f) old new longer is.1.has.reach) is.1)

-- What it was is so in the next epoch, of which it has no message.
pub file_at_next : (t : TablePart) (epoch : ℕ) (named : Option NamedSpace) (file : Option SpaceFile) (image : List ℕ)
    → IsFileAt t epoch named file image → HasFileOf t (epoch + 1) 0 named file image
file_at_next t epoch None None image is = tt
file_at_next t epoch None (Some f) image is = absurd is
file_at_next t epoch (Some n) None image is = absurd is
file_at_next t epoch (Some n) (Some f) image is = record {
  place = is.0;
  file = file_later f epoch (epoch + 1) image (omega arith) is.1;
  newer = newer_after_boot epoch (epoch + 1) (held_in f) (omega arith) (file_epochs f epoch image is.1);
}

-- ---- beside the journal

module _ (d : Disk) (old new : List ℕ) (loaded : IsLoaded d old) (step : IsSameButJournal 0 old new) where
  abbrev t : TablePart
  t = part_of d.table

  table_stays : IsTableOf d.table new
  table_stays =
      table_of_kept d.table old new (keeps_beside (journal_layout 0) old new (omega arith) (λ i selects. inl (sym selects)) step) loaded.table

  file_stays : (i : ℕ) → IsFileAt t (epoch_of d) (get_or t.entries i None) (get_or (files_of d) i None) new
  file_stays i =
      let least = d.table.least in
      let size = step.size in
      file_at_kept t (epoch_of d) (get_or t.entries i None) (get_or (files_of d) i None) old new (omega arith)
      (λ n at. others_kept (numbers_from 0 header_clusters) (clusters_of n.extents) (IsSameBeside (journal_layout 0)) old new step
      (entry_beside_header t.next_space t.clusters (length old) t.entries (table_has d.table.place t old loaded.table.has) (omega arith) i n at))
      (loaded.files i)

  -- the parts of the image, by its epoch
  has_table_still : HasTable 0 t new
  has_table_still = subst (λ (place : ℕ). HasTable place t new) d.number table_stays.has

  parts_same : HasEpoch (epoch_of d) new → HasParts t (epoch_of d) (files_of d) new
  parts_same journal = record { table = has_table_still; journal = journal; spaces = file_stays; count = d.fit.count }

  file_next : (i : ℕ) → HasFileOf t (epoch_of d + 1) 0 (get_or t.entries i None) (get_or (files_of d) i None) new
  file_next i = file_at_next t (epoch_of d) (get_or t.entries i None) (get_or (files_of d) i None) new (file_stays i)

  parts_next : HasEpoch (epoch_of d + 1) new → HasParts t (epoch_of d + 1) (files_of d) new
  parts_next journal = record {
    table = has_table_still;
    journal = journal;
    spaces = λ i. file_at t (epoch_of d + 1) 0 (get_or t.entries i None) (get_or (files_of d) i None) new (file_next i);
    count = d.fit.count;
  }

-- ---- the site of the next epoch

booted_from : (d : Disk) (image : List ℕ) → IsLoaded d image → booted (site_with (Some d) 0) ≡ site_from (part_of d.table) (epoch_of d + 1) (files_of d)
booted_from d image loaded =
    ap (λ (s : Site). record s { identity = option_map with_next_epoch s.identity })
    (found_durable device_count (λ k. image) (site_with (Some d) 0) (loaded_found d (λ k. image) loaded))

-- the same table and files, and the next epoch
pub record IsNextOf (d next : Disk) : Type 0 where
  pub table : next.table ≡ d.table
  pub files : files_of next ≡ files_of d
  pub epoch : epoch_of next ≡ epoch_of d + 1

pub booted_next : (d next : Disk) (image : List ℕ) → IsNextOf d next → IsLoaded d image → site_with (Some next) 0 ≡ booted (site_with (Some d) 0)
booted_next d next image is loaded = (λ k. site_from (part_of (is.table k)) (is.epoch k) (is.files k)) ∙ sym (booted_from d image loaded)

pub raised_has : (d next : Disk) (old new : List ℕ) → IsNextOf d next → IsLoaded d old → IsSameButJournal 0 old new
    → IsJournalOf next.journal new → HasDisk next 0 new
raised_has d next old new is loaded step journal = record {
  table = subst (λ (t : DeviceTable). IsTableOf t new) (sym is.table) (table_stays d old new loaded step);
  journal = journal;
  files = subst (λ (t : TablePart). HasFiles t (epoch_of next) 0 (files_of next) new) (λ k. part_of (sym is.table k))
      (subst (λ (files : List (Option SpaceFile)). HasFiles (part_of d.table) (epoch_of next) 0 files new) (sym is.files)
      (subst (λ (e : ℕ). HasFiles (part_of d.table) e 0 (files_of d) new) (sym is.epoch) (file_next d old new loaded step)));
}

-- ---- while the epoch is raised

-- the step of the journal of device 0
abbrev pub IsRaising : ℕ → SiteJournal → View → View → Type 0
IsRaising dev j a b = ((image : List ℕ) → a.may_leave dev image → IsJournalOf j image)
    → Within dev (IsSameButJournal dev) (IsEpochOrNext dev j.epoch (a.reads dev)) a b

module _ (d : Disk) (a b : View) (loaded : (image : List ℕ) → a.may_leave 0 image → IsLoaded d image) (step : IsRaising (dev_of d.journal) d.journal a b) where
  pub raising : Within 0 (IsSameButJournal 0) (IsEpochOrNext 0 (epoch_of d) (a.reads 0)) a b
  raising = subst (λ (dev : ℕ). IsRaising dev d.journal a b) d.journal_dev step (λ image may. (loaded image may).journal)

  -- the devices stand for what they stood for, or for the boot of it
  pub found_or_booted : epoch_of d < last_epoch → WithinAll (AreFoundOrBooted (site_with (Some d) 0)) a b
  found_or_booted below =
      of_one 0 (IsSameButJournal 0) (IsEpochOrNext 0 (epoch_of d) (a.reads 0)) (AreFoundOrBooted (site_with (Some d) 0)) a b (λ image images was same is.
      let t = part_of d.table in
      let files = files_of d in
      let epoch = epoch_of d in
      let old : IsLoaded d image = loaded image was in
      ⊎_elim
      (λ epoch_is. inl (found_have images (site_with (Some d) 0) (parts_found t epoch files images (parts_same d image (images 0) old same epoch_is))))
      (λ next_is. inr (
        can_raise d below,
        subst (λ (s : Site). ImagesHave s images) (sym (booted_from d image old))
            (found_have images (site_from t (epoch + 1) files) (parts_found t (epoch + 1) files images (parts_next d image (images 0) old same next_is.0))),
      )) is) raising
