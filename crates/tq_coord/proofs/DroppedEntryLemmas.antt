-- An entry of the table is dropped: the site with its space or without it at each stop, and the manager without it.
use Rattle.std.proofs.Common.{◌≡◌, inl, inr, ⊎_elim, ◌<◌, ℕ, zero, suc, true, List, [], ◌∷◌, Option, Some, None, get_or, set, length, refl, sym, ◌∙◌, ap}
use Rattle.std.proofs.Common.{subst, arith}
use Rattle.std.specs.Prelude.{is_some}
use Rattle.std.proofs.lemmas.List.{length-set}
use Rattle.tq_host.specs.View.{View, Images}
use Rattle.tq_host.specs.Within.{KeepsRest, Within}
use Rattle.tq_host.proofs.AllDevices.{of_one}
use Rattle.tq_extent.specs.Bytes.{owned_bytes}
use Rattle.tq_extent.specs.Clusters.{clusters_of}
use Rattle.tq_extent.proofs.BytesLemmas.{others_kept, reaches_same}
use Rattle.tq_gate.specs.Log.{IsSameBeside}
use Rattle.tq_model.specs.declared.answer.Answer.TheVariants as answers
use Rattle.tq_model.specs.Reading.{NamedSpace}
use Rattle.tq_model.specs.Site.{Site, Volume, SpaceOnDevice, header_clusters, numbers_from}
use Rattle.tq_devtab.specs.InMemory.{part_of, dev_of, place_of, AreTableOf}
use Rattle.tq_devtab.specs.Table.{without_entry, entry_of}
use Rattle.tq_devtab.specs.Volume.{TablePart, HasTable, IsSameButTable, IsTableOrNext, table_layout, without, most_bytes}
use Rattle.tq_devtab.proofs.OwnerLemmas.{entry_beside_header}
use Rattle.tq_devtab.proofs.TableLemmas.{changed_entry-set}
use Rattle.tq_site.specs.declared.journal.SiteJournal.{SiteJournal}
use Rattle.tq_site.specs.InMemory.{IsJournalOf}
use Rattle.tq_site.proofs.KeptLemmas.{keeps_beside, journal_of_kept}
use Rattle.tq_spacefile.specs.declared.file.SpaceFile.{SpaceFile}
use Rattle.tq_spacefile.specs.File.{clusters_in}
use Rattle.tq_spacefile.proofs.Files.{file_kept}
use Rattle.tq_coord.specs.declared.site.Disk.{Disk}
use Rattle.tq_coord.specs.declared.site.Manager.{Manager}
use Rattle.tq_coord.specs.Images.{ImagesHave, AreEither, ImagesMatch}
use Rattle.tq_coord.specs.Manager.{site_of, site_with, epoch_of, files_of, volume_in, volume_with, all_placed, placed_in, HasDisk, HasDiskOrIsBlank, HasFile}
use Rattle.tq_coord.specs.Manager.{HasFileOf, HasFiles}
use Rattle.tq_coord.specs.Serving.{IsServed, ChangesOnce}
use Rattle.tq_coord.specs.Spaces.{HasEntryAt, without_entry_at, entry_dropped}
use Rattle.tq_coord.specs.Together.{IsFileOf, IsTogether}
use Rattle.tq_coord.proofs.FoundLemmas.{file_at}
use Rattle.tq_coord.proofs.FoundEntryLemmas.{IsPlacedAt, site_by, placed_file, entries_found, other_table}
use Rattle.tq_coord.proofs.FrameLemmas.{others_of_call}
use Rattle.tq_coord.proofs.ImageLemmas.{found_have}
use Rattle.tq_coord.proofs.MatchLemmas.{disk_on}
use Rattle.tq_coord.proofs.OneEntryLemmas.{each_put}
use Rattle.tq_coord.proofs.OneFileLemmas.{some_within}
use Rattle.tq_coord.proofs.PlacedLemmas.{all-placed-long, placed-at, same-some}

-- the spaces of a table in which one entry is not used from now on
placed_dropped : (named : List (Option NamedSpace)) (files : List (Option SpaceFile)) (at : ℕ) → at < length named → at < length files
    → all_placed (set named at None) (set files at None) ≡ set (all_placed named files) at None
placed_dropped [] files at lt also = absurd (omega (arith, lt))
placed_dropped (o ∷ named) [] at lt also = absurd (omega (arith, also))
placed_dropped (o ∷ named) (x ∷ files) zero lt also = refl
placed_dropped (o ∷ named) (x ∷ files) (suc at) lt also =
    ap (λ (l : List (Option SpaceOnDevice)). placed_in o x ∷ l) (placed_dropped named files at (omega (arith, lt)) (omega (arith, also)))

-- the entry, by the disk as another name has it
pub entry_on : (m : Manager) (at ordinal : ℕ) (d : Disk) → HasEntryAt m at ordinal → m.disk ≡ Some d
    → (n : NamedSpace) × ((get_or (part_of d.table).entries at None ≡ Some n) × (n.ordinal ≡ ordinal))
entry_on m at ordinal d has there =
    let same = same-some has.disk d (sym has.there ∙ there) in
    (has.space, (subst (λ (x : Disk). get_or (part_of x.table).entries at None ≡ Some has.space) same has.named, has.ordinal_is))

-- the table's entries beside the one that is dropped are as they were
abbrev with_entries : TablePart → List (Option NamedSpace) → TablePart
with_entries t entries = record t { entries = entries }

together_still : (t : TablePart) (entries : List (Option NamedSpace)) (o : Option NamedSpace) (file : Option SpaceFile) → IsFileOf 0 t o file → IsFileOf 0
    (with_entries t entries) o file
together_still t entries None None is = tt
together_still t entries None (Some f) is = absurd is
together_still t entries (Some n) None is = absurd is
together_still t entries (Some n) (Some f) is = record { is = is.is; clusters = is.clusters }

module _ (d : Disk) (at ordinal : ℕ) (n : NamedSpace) (named : get_or (part_of d.table).entries at None ≡ Some n) (ordinal_is : n.ordinal ≡ ordinal) where
  abbrev t : TablePart
  t = part_of d.table

  abbrev v : Volume
  v = volume_in d

  abbrev pub less : TablePart
  less = with_entries t (set t.entries at None)

  within : at < length t.entries
  within = some_within t.entries at n named

  within_files : at < length (files_of d)
  within_files = omega (arith, within, d.table.table.count, d.fit.count)

  within_spaces : at < length v.entries
  within_spaces = omega (arith, within, d.table.table.count, all-placed-long d)

  -- it is the entry of its ordinal
  entry_is : (entry_of ordinal t.entries ≡ Some n) × (without_entry ordinal t.entries ≡ set t.entries at None)
  entry_is =
      subst (λ k. (entry_of k t.entries ≡ Some n) × (without_entry k t.entries ≡ set t.entries at None)) ordinal_is
      (changed_entry-set t.next_space t.clusters most_bytes t.entries at n (λ x. None) d.table.table named)

  pub entry_there : is_some (entry_of ordinal t.entries) ≡ true
  entry_there = ap (λ (o : Option NamedSpace). is_some o) entry_is.0

  pub less_is : without ordinal t ≡ less
  less_is = ap (with_entries t) entry_is.1

  pub together_less : IsTogether 0 (without ordinal t) (set (files_of d) at None)
  together_less = subst (λ (x : TablePart). IsTogether 0 x (set (files_of d) at None)) (sym less_is) (record {
    count = length-set (files_of d) at None ∙ d.fit.count;
    each = each_put (IsFileOf 0 less) t.entries (files_of d) at None None within within_files tt
        (λ i. together_still t (set t.entries at None) (get_or t.entries i None) (get_or (files_of d) i None) (d.fit.each i));
  })

  -- ---- a step of the table

  module _ (b c : List ℕ) (step : IsSameButTable 0 b c) where
    journal_stays : IsJournalOf d.journal b → IsJournalOf d.journal c
    journal_stays is =
        journal_of_kept b c (keeps_beside (table_layout 0) b c is.has.size (omega arith) (omega arith)
        (λ i selects. (omega arith, λ is. omega arith)) step) d.journal is

    file_stays : (i epoch next : ℕ) (m : NamedSpace) (f : SpaceFile) → get_or t.entries i None ≡ Some m → HasFile t epoch next m f b
        → HasFile t epoch next m f c
    file_stays i epoch next m f entry is =
        let header = numbers_from 0 header_clusters in
        let beside = entry_beside_header t.next_space t.clusters most_bytes t.entries d.table.table (omega (arith, d.table.least)) i m entry in
        let same = others_kept header (clusters_of m.extents) (IsSameBeside (table_layout 0)) b c step beside in
        record {
          place = is.place;
          file = file_kept f epoch b c (subst (λ (l : List ℕ). owned_bytes l c ≡ owned_bytes l b) (sym is.place.clusters) same)
              (reaches_same (clusters_in f) b c step.size ∙ is.file.has.reach) is.file;
          newer = is.newer;
        }

    spaces_stay : (i epoch next : ℕ) (o : Option NamedSpace) (file : Option SpaceFile) → get_or t.entries i None ≡ o → HasFileOf t epoch next o file b
        → HasFileOf t epoch next o file c
    spaces_stay i epoch next None None entry is = tt
    spaces_stay i epoch next None (Some f) entry is = absurd is
    spaces_stay i epoch next (Some m) None entry is = absurd is
    spaces_stay i epoch next (Some m) (Some f) entry is = file_stays i epoch next m f entry is

    of_less : (epoch next : ℕ) (o : Option NamedSpace) (file : Option SpaceFile) → HasFileOf t epoch next o file c → HasFileOf less epoch next o file c
    of_less epoch next None None is = tt
    of_less epoch next None (Some f) is = absurd is
    of_less epoch next (Some m) None is = absurd is
    of_less epoch next (Some m) (Some f) is = record { place = record { is = is.place.is; clusters = is.place.clusters }; file = is.file; newer = is.newer }

    module _ (next : ℕ) (has : HasDisk d next b) where
      each_stays : (i : ℕ) → HasFileOf t (epoch_of d) next (get_or t.entries i None) (get_or (files_of d) i None) c
      each_stays i = spaces_stay i (epoch_of d) next (get_or t.entries i None) (get_or (files_of d) i None) refl (has.files i)

      pub files_less : HasFiles less (epoch_of d) next (set (files_of d) at None) c
      files_less =
          each_put (λ o file. HasFileOf less (epoch_of d) next o file c) t.entries (files_of d) at None None within within_files tt
          (λ i. of_less (epoch_of d) next (get_or t.entries i None) (get_or (files_of d) i None) (each_stays i))

      placed_still : (i : ℕ) → IsPlacedAt t (epoch_of d) c (get_or t.entries i None) (get_or v.entries i None)
      placed_still i =
          let o = get_or t.entries i None in
          let file = get_or (files_of d) i None in
          subst (λ (p : Option SpaceOnDevice). IsPlacedAt t (epoch_of d) c o p) (sym (placed-at t.entries (files_of d) i))
          (placed_file t (epoch_of d) o file c (file_at t (epoch_of d) next o file c (each_stays i)))

  -- the site with the space, and without it
  module _ (next : ℕ) (b : List ℕ) (images : Images) (has : HasDisk d next b) (step : IsSameButTable 0 b (images 0)) where
    with_it : HasTable 0 t (images 0) → ImagesHave (site_with (Some d) next) images
    with_it table =
        let long : length t.entries ≡ length v.entries = d.table.table.count ∙ sym (all-placed-long d) in
        found_have images (site_by t (epoch_of d) v.entries)
        (entries_found t (epoch_of d) v.entries images table (journal_stays b (images 0) step has.journal).has long (placed_still b (images 0) step next has))

    without_it : HasTable 0 (without ordinal t) (images 0) → ImagesHave (without_entry_at at (site_with (Some d) next)) images
    without_it table =
        let epoch = epoch_of d in
        let entries = set v.entries at None in
        let long : length (set t.entries at None) ≡ length entries =
        length-set t.entries at None ∙ d.table.table.count ∙ sym (all-placed-long d) ∙ sym (length-set v.entries at None) in
        let nothing : IsPlacedAt less epoch (images 0) None None = record { is = refl; pages = λ m same. absurd (cc) } in
        let each = each_put (IsPlacedAt less epoch (images 0)) t.entries v.entries at None None within within_spaces nothing
        (λ i. other_table t less epoch (images 0) (get_or t.entries i None) (get_or v.entries i None) refl (placed_still b (images 0) step next has i)) in
        found_have images (site_by less epoch entries)
        (entries_found less epoch entries images (subst (λ (x : TablePart). HasTable 0 x (images 0)) less_is table)
        (journal_stays b (images 0) step has.journal).has long each)

  -- what its table says of the call
  abbrev pub IsDropping : View → View → Type 0
  IsDropping a b =
      Within (dev_of d.table) (IsSameButTable (dev_of d.table))
      (IsTableOrNext (dev_of d.table) (place_of d.table) t (without ordinal t) (a.reads (dev_of d.table))) a b

  on_device_0 : (a b : View) → IsDropping a b → Within 0 (IsSameButTable 0) (IsTableOrNext 0 0 t (without ordinal t) (a.reads 0)) a b
  on_device_0 a b drops =
      subst (λ k. Within 0 (IsSameButTable 0) (IsTableOrNext 0 k t (without ordinal t) (a.reads 0)) a b) d.number
      (subst (λ k. Within k (IsSameButTable k) (IsTableOrNext k (place_of d.table) t (without ordinal t) (a.reads k)) a b) d.table_dev drops)

  -- ---- the manager

  module _ (m : Manager) (there : m.disk ≡ Some d) where
    site_known : site_of m ≡ site_with (Some d) m.next
    site_known = ap (λ (x : Option Disk). site_with x m.next) there

    -- the images while it is dropped
    pub dropping : (a b : View) → ImagesMatch m a → KeepsRest (dev_of d.table) a b → IsDropping a b → ChangesOnce (entry_dropped at (site_of m)) m a b
    dropping a b on kept drops =
        let rest = subst (λ k. KeepsRest k a b) d.table_dev kept in
        let stop = on_device_0 a b drops in
        record {
          attached = rest.attached;
          others = others_of_call (IsSameButTable 0) (IsTableOrNext 0 0 t (without ordinal t) (a.reads 0)) a b stop rest;
          within = of_one 0 (IsSameButTable 0) (IsTableOrNext 0 0 t (without ordinal t) (a.reads 0))
              (AreEither (site_of m) (without_entry_at at (site_of m))) a b
              (λ i images was step has.
              let disk = disk_on m d there a on i was in
              subst (λ (s : Site). AreEither s (without_entry_at at s) images) (sym site_known)
              (⊎_elim (λ old. inl (with_it m.next i images disk step old)) (λ new. inr (without_it m.next i images disk step new.0)) has)) stop;
        }

    -- and once it is
    pub dropped : (d' : Disk) (table : part_of d'.table ≡ without ordinal t) (journal : d'.journal ≡ d.journal) (files : files_of d' ≡ set (files_of d) at None)
        (m' : Manager) → m'.disk ≡ Some d' → m'.next ≡ m.next → (a b : View) → ImagesMatch m a
        → IsDropping a b → dev_of d'.table ≡ dev_of d.table → AreTableOf d'.table b → IsServed (entry_dropped at (site_of m)) m m' b answers.Done
    dropped d' table journal files m' there' same a b on drops dev tables =
        let stop = on_device_0 a b drops in
        let table_is = table ∙ less_is in
        record {
          answer = refl;
          site =
              ap (λ (x : Option Disk). site_with x m'.next) there'
              ∙ (λ i. record {
                identity = Some (record { site = (table_is i).site; epoch = (journal i).epoch });
                next = same i;
                clock = 0;
                devices = Some (volume_with (table_is i) (files i)) ∷ [];
              })
              ∙ ap (λ (entries : List (Option SpaceOnDevice)). record (site_with (Some d) m.next) { devices = Some (record v { entries = entries }) ∷ [] })
              (placed_dropped t.entries (files_of d) at within within_files)
              ∙ sym (ap (without_entry_at at) site_known);
          next = omega (arith, same);
          images = λ image may.
              let came = stop.own image may in
              let had = disk_on m d there a on came.image came.was in
              subst (λ (x : Option Disk). HasDiskOrIsBlank x m'.next image) (sym there') (record {
                table = tables image (subst (λ k. b.may_leave k image) (sym (dev ∙ d.table_dev)) may);
                journal = subst (λ (j : SiteJournal). IsJournalOf j image) (sym journal) (journal_stays came.image image came.step had.journal);
                files = subst (λ (x : TablePart). HasFiles x (epoch_of d') m'.next (files_of d') image) (sym table_is)
                    (subst (λ (l : List (Option SpaceFile)). HasFiles less (epoch_of d') m'.next l image) (sym files)
                    (subst (λ (j : SiteJournal). HasFiles less j.epoch m'.next (set (files_of d) at None) image) (sym journal)
                    (subst (λ k. HasFiles less (epoch_of d) k (set (files_of d) at None) image) (sym same)
                    (files_less came.image image came.step m.next had))));
              });
        }
