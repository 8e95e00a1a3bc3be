-- The site for which one device stands, by what is on it.
use Rattle.std.proofs.Common.{◌≡◌, ◌<◌, ◌≤◌, ℕ, suc, List, [], ◌∷◌, ◌++◌, refl, sym, ◌∙◌, ap, subst, arith, Option, Some, None, Bool, true, false, length, get_or, map}
use Rattle.std.specs.Prelude.{nat_lt, is_some, not, unwrap_or, option_map, ◌&&◌, ◌*◌, ◌+◌}
use Rattle.std.proofs.lemmas.Bool.Decides.{nat_tests}
use Rattle.std.proofs.lemmas.List.Folds.{list_all-append}
use Rattle.tq_host.specs.View.{View, Images}
use Rattle.tq_extent.specs.Clusters.{clusters_of}
use Rattle.tq_extent.proofs.BytesLemmas.{bytes_of-owned}
use Rattle.tq_model.specs.DeviceForm.{Journal, first_page, header_bytes}
use Rattle.tq_model.specs.SpaceForm.{raw_space}
use Rattle.tq_model.specs.Site.{Site, SpaceOnDevice, last_epoch, table_entries}
use Rattle.tq_model.specs.Parts.{IsPart}
use Rattle.tq_model.specs.Reading.{DevicePart, NamedSpace, Replayed, site_found, hold_all, device_tests, journal_tests, has_no_decision, page_tests, space_in, placed_as}
use Rattle.tq_model.specs.Reading as reads
use Rattle.tq_model.proofs.Images.{short_reading, damaged_parts, damaged_spaces, has_pages, each_space_holds, space_fails, found_blank, found_spaces, found_damaged}
use Rattle.tq_model.specs.Step.{can_boot}
use Rattle.tq_devtab.specs.Volume.{TablePart, HasTable, volume_tests, is_volume}
use Rattle.tq_devtab.specs.InMemory.{part_of}
use Rattle.tq_devtab.proofs.KeptLemmas.{table_has}
use Rattle.tq_site.specs.Journal.{HasEpoch, journal_in}
use Rattle.tq_spacefile.specs.declared.file.SpaceFile.{SpaceFile}
use Rattle.tq_spacefile.specs.declared.place.SpacePlace.{SpacePlace}
use Rattle.tq_spacefile.specs.File.{HasSpace, IsFile, place_in, clusters_in, held_in, logged_in, has_space}
use Rattle.tq_coord.specs.declared.site.Disk.{Disk}
use Rattle.tq_coord.specs.declared.site.Manager.{Manager}
use Rattle.tq_coord.specs.Manager.{site_of, site_with, epoch_of, files_of, placed_of, placed_in, all_placed, volume_with, HasFileOf, HasDisk, HasDiskOrIsBlank, ImageMatches, IsFileAt, AreFilesAt, IsLoaded, is_bootable, IsBooted, IsRaised}
use Rattle.tq_coord.specs.Together.{place_of, IsInPlace}
use Rattle.tq_coord.specs.Frame.{device_count}
use Rattle.tq_coord.specs.Images.{ImagesHave}
use Rattle.tq_coord.proofs.ImageLemmas.{found_have}

-- ---- the parts of a device

-- a table, and a journal of this epoch
abbrev pub with_journal : TablePart → ℕ → DevicePart
with_journal t epoch = record { site = t.site; clusters = t.clusters; next_space = t.next_space; journal = Some (record { epoch = epoch; decision = None }); entries = t.entries }

abbrev pub journal_holds : List ℕ → Bool
journal_holds image = hold_all (journal_tests (journal_in image) ++ has_no_decision (journal_in image) ∷ [])

-- the tests of the device are those of the table and of the journal
pub both_tests : (image : List ℕ) → hold_all (device_tests 0 image) ≡ (hold_all (volume_tests 0 image) && journal_holds image)
both_tests image = list_all-append (λ test. test) (volume_tests 0 image) (journal_tests (journal_in image) ++ has_no_decision (journal_in image) ∷ [])

journal_tested : (epoch : ℕ) (image : List ℕ) → HasEpoch epoch image → journal_holds image ≡ true
journal_tested epoch image has =
    let j = journal_in image in
    let undecided : has_no_decision j ≡ true = ap (λ (o : Option Journal). unwrap_or (option_map (λ (k : Journal). not (is_some k.decision)) o) false) has.says in
    list_all-append (λ test. test) (journal_tests j) (has_no_decision j ∷ []) ∙ (λ i. has.tests i && (undecided i && true))

pub part_stands : (t : TablePart) (epoch : ℕ) (image : List ℕ) → HasTable 0 t image → HasEpoch epoch image → IsPart (with_journal t epoch) image
part_stands t epoch image table journal = record {
  size = table.size;
  tests = both_tests image ∙ (λ i. table.tests i && journal_tested epoch image journal i);
  part = λ i. record { site = (table.part i).site; clusters = (table.part i).clusters; next_space = (table.part i).next_space; journal = journal.says i; entries = (table.part i).entries };
}

-- ---- the spaces of a device

-- the space of a file in its place
pub has_there : (place : SpacePlace) (clusters : List ℕ) (f : SpaceFile) (epoch : ℕ) (image : List ℕ) → place_in f ≡ place → clusters_in f ≡ clusters
    → IsFile f epoch image → HasSpace place clusters epoch (held_in f) (logged_in f) image
has_there place clusters f epoch image is same file =
    subst (λ (p : SpacePlace). HasSpace p clusters epoch (held_in f) (logged_in f) image) is
    (subst (λ (l : List ℕ). HasSpace (place_in f) l epoch (held_in f) (logged_in f) image) same file.has)

module _ (t : TablePart) (epoch : ℕ) (image : List ℕ) where
  abbrev d : DevicePart
  d = with_journal t epoch

  -- whether an entry's pages have a reading, by the bytes of its clusters
  pub pages_by : (n : NamedSpace) → has_pages d n image ≡ has_space (place_of 0 t n) (clusters_of n.extents) epoch image
  pages_by n = ap (λ (b : List ℕ). hold_all (page_tests n.pages (raw_space (first_page b))) && is_some (space_in t.site (8 * n.ordinal + 0) epoch n.pages b)) (bytes_of-owned n.extents image)

  module _ (n : NamedSpace) (f : SpaceFile) (place : IsInPlace 0 t n f) (file : IsFile f epoch image) where
    has : HasSpace (place_of 0 t n) (clusters_of n.extents) epoch (held_in f) (logged_in f) image
    has = has_there (place_of 0 t n) (clusters_of n.extents) f epoch image place.is place.clusters file

    file_pages : has_pages d n image ≡ true
    file_pages = pages_by n ∙ (λ i. has.page i && is_some (has.reads i))

    file_placed : reads.placed_in 0 d image (Some n) ≡ Some (placed_of n f)
    file_placed =
        ap (λ (b : List ℕ). option_map (placed_as n) (space_in t.site (8 * n.ordinal + 0) epoch n.pages b)) (bytes_of-owned n.extents image)
        ∙ ap (option_map (placed_as n)) has.reads
        ∙ ap (λ (k : ℕ). Some (record (placed_of n f) { logged = k })) (sym has.ends)

  pub entry_pages : (named : Option NamedSpace) (file : Option SpaceFile) (n : NamedSpace) → IsFileAt t epoch named file image → named ≡ Some n → has_pages d n image ≡ true
  entry_pages None file n is at = absurd (cc)
  entry_pages (Some m) None n is at = absurd is
  entry_pages (Some m) (Some f) n is at = subst (λ (o : Option NamedSpace). IsFileAt t epoch o (Some f) image → has_pages d n image ≡ true) (sym at) (λ here. file_pages n f here.0 here.1) is

  pub entry_placed : (named : Option NamedSpace) (file : Option SpaceFile) → IsFileAt t epoch named file image → reads.placed_in 0 d image named ≡ placed_in named file
  entry_placed None file is = refl
  entry_placed (Some n) None is = absurd is
  entry_placed (Some n) (Some f) is = file_placed n f is.0 is.1

  entries_placed : (named : List (Option NamedSpace)) (files : List (Option SpaceFile)) → length named ≡ length files
      → ((i : ℕ) → IsFileAt t epoch (get_or named i None) (get_or files i None) image) → map (reads.placed_in 0 d image) named ≡ all_placed named files
  entries_placed [] files same each = refl
  entries_placed (n ∷ named) [] same each = absurd (omega (arith, same))
  entries_placed (n ∷ named) (f ∷ files) same each =
      let first = entry_placed n f (each 0) in
      let rest = entries_placed named files (omega (arith, same)) (λ i. each (suc i)) in
      λ i. first i ∷ rest i

-- ---- what was loaded

-- a table, a journal of this epoch and the spaces of the entries
pub record HasParts (t : TablePart) (epoch : ℕ) (files : List (Option SpaceFile)) (image : List ℕ) : Type 0 where
  pub table : HasTable 0 t image
  pub journal : HasEpoch epoch image
  pub spaces : AreFilesAt t epoch files image
  pub count : length files ≡ table_entries

-- the site that they stand for
abbrev pub site_from : TablePart → ℕ → List (Option SpaceFile) → Site
site_from t epoch files = record { identity = Some (record { site = t.site; epoch = epoch }); next = 0; clock = 0; devices = Some (volume_with t files) ∷ [] }

pub parts_found : (t : TablePart) (epoch : ℕ) (files : List (Option SpaceFile)) (images : Images) → HasParts t epoch files (images 0)
    → site_found device_count images ≡ Some (site_from t epoch files)
parts_found t epoch files images is =
    let journal : Journal = record { epoch = epoch; decision = None } in
    let many : length t.entries ≡ length files = (table_has 0 t (images 0) is.table).count ∙ sym is.count in
    found_spaces (with_journal t epoch) journal images (part_stands t epoch (images 0) is.table is.journal) refl
    (each_space_holds (with_journal t epoch) (images 0) t.entries
    (λ i n at. entry_pages t epoch (images 0) (get_or t.entries i None) (get_or files i None) n (is.spaces i) at))
    ∙ ap (λ (entries : List (Option SpaceOnDevice)). Some (record (site_from t epoch files) {
      devices = Some (record { clusters = t.clusters; next_space = t.next_space; entries = entries }) ∷ [];
    }))
    (entries_placed t epoch (images 0) t.entries files many is.spaces)

module _ (disk : Disk) (images : Images) (is : IsLoaded disk (images 0)) where
  abbrev t : TablePart
  t = part_of disk.table

  pub has_table : HasTable 0 t (images 0)
  has_table = subst (λ (place : ℕ). HasTable place t (images 0)) disk.number is.table.has

  pub loaded_found : site_found device_count images ≡ Some (site_with (Some disk) 0)
  loaded_found = parts_found t (epoch_of disk) (files_of disk) images
      (record { table = has_table; journal = is.journal.has; spaces = is.files; count = disk.fit.count })

  pub loaded_have : ImagesHave (site_with (Some disk) 0) images
  loaded_have = found_have images (site_with (Some disk) 0) loaded_found

pub blank_found : (images : Images) → length (images 0) < header_bytes → site_found device_count images ≡ Some (site_with None 0)
blank_found images lt = found_blank images (short_reading (images 0) lt)

-- ---- what the manager holds

pub file_at : (t : TablePart) (epoch next : ℕ) (named : Option NamedSpace) (file : Option SpaceFile) (image : List ℕ) → HasFileOf t epoch next named file image → IsFileAt t epoch named file image
file_at t epoch next None None image is = tt
file_at t epoch next None (Some f) image is = absurd is
file_at t epoch next (Some n) None image is = absurd is
file_at t epoch next (Some n) (Some f) image is = (is.place, is.file)

pub loaded_of : (d : Disk) (next : ℕ) (image : List ℕ) → HasDisk d next image → IsLoaded d image
loaded_of d next image has = record {
  table = has.table;
  journal = has.journal;
  files = λ i. file_at (part_of d.table) (epoch_of d) next (get_or (part_of d.table).entries i None) (get_or (files_of d) i None) image (has.files i);
}

pub disk_have : (disk : Option Disk) (next : ℕ) (images : Images) → HasDiskOrIsBlank disk next (images 0) → ImagesHave (site_with disk next) images
disk_have None next images is = blank_found images is
disk_have (Some d) next images is = loaded_have d images (loaded_of d next (images 0) is)

pub image_have : (m : Manager) (images : Images) → ImageMatches m (images 0) → ImagesHave (site_of m) images
image_have m images is = disk_have m.disk m.next images is

-- ---- damage

module _ (images : Images) (long : header_bytes ≤ length (images 0)) where
  abbrev image : List ℕ
  image = images 0

  pub damaged_table : is_volume (Some 0) image ≡ false → site_found device_count images ≡ None
  damaged_table fails = found_damaged images (damaged_parts image long (both_tests image ∙ ap (λ b. b && journal_holds image) fails))

  pub damaged_journal : journal_holds image ≡ false → site_found device_count images ≡ None
  damaged_journal fails = found_damaged images (damaged_parts image long (both_tests image ∙ ap (λ b. hold_all (volume_tests 0 image) && b) fails ∙ none (hold_all (volume_tests 0 image))))
    where
      none : (b : Bool) → (b && false) ≡ false
      none true = refl
      none false = refl

pub damaged_space : (t : TablePart) (epoch : ℕ) (images : Images) → HasTable 0 t (images 0) → HasEpoch epoch (images 0) → (i : ℕ) (n : NamedSpace) → get_or t.entries i None ≡ Some n
    → has_space (place_of 0 t n) (clusters_of n.extents) epoch (images 0) ≡ false → site_found device_count images ≡ None
damaged_space t epoch images table journal i n at fails =
    found_damaged images (damaged_spaces (with_journal t epoch) (images 0) (part_stands t epoch (images 0) table journal)
    (space_fails (with_journal t epoch) (images 0) t.entries i n at (pages_by t epoch (images 0) n ∙ fails)))

-- ---- boots

pub booted_blank : (m : Manager) (old new : View) → site_of m ≡ site_with None 0 → (length (new.reads 0) < header_bytes → ImageMatches m (new.reads 0))
    → length (old.reads 0) < header_bytes → new.reads 0 ≡ old.reads 0 → IsBooted m old new
booted_blank m old new site on short same =
    record { found = site_with None 0; stood = blank_found old.reads short; raisable = refl; site = site; stands = on (subst (λ (l : List ℕ). length l < header_bytes) (sym same) short) }

-- an epoch that is not the last one can be raised
pub can_raise : (d : Disk) → epoch_of d < last_epoch → can_boot (site_with (Some d) 0) ≡ true
can_raise d below = below_last (epoch_of d) below
  where
    below_last : (n : ℕ) → n < 4294967295 → nat_lt n 4294967295 ≡ true
    below_last n lt = grind (arith, nat_tests)

pub booted_raised : (d : Disk) (m : Manager) (old new : View) → IsLoaded d (old.reads 0) → IsRaised d m (new.reads 0) → IsBooted m old new
booted_raised d m old new loaded raised = record {
  found = site_with (Some d) 0;
  stood = loaded_found d old.reads loaded;
  raisable = can_raise d raised.below;
  site = raised.site;
  stands = raised.stands;
}

-- where the last epoch stands, there is no boot
pub last_not_bootable : (images : Images) (d : Disk) → IsLoaded d (images 0) → epoch_of d ≡ last_epoch → is_bootable (site_found device_count images) ≡ false
last_not_bootable images d is e = ap is_bootable (loaded_found d images is) ∙ ap (λ n. nat_lt n 4294967295) e
