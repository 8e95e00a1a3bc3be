-- The site with a new space: what the machine makes of a creation that nothing refuses, and the images that stand for it.
use Rattle.std.proofs.Common.{◌≡◌, inl, inr, ⊎_elim, ◌<◌, ◌≤◌, ℕ, ◌+◌, ◌*◌, List, [], ◌∷◌, Option, Some, None, true, refl, sym, ◌∙◌, ap, subst, arith, length, get_or, set}
use Rattle.std.specs.Prelude.{is_some, option_map, unwrap_or}
use Rattle.std.proofs.lemmas.List.{length-set}
use Rattle.tq_host.specs.View.{View, Images}
use Rattle.tq_host.specs.Within.{KeepsRest, Within}
use Rattle.tq_host.proofs.AllDevices.{of_one}
use Rattle.tq_extent.specs.Clusters.{clusters_of}
use Rattle.tq_model.specs.declared.answer.Answer.{Answer}
use Rattle.tq_model.specs.declared.answer.Answer.TheVariants as answers
use Rattle.tq_model.specs.declared.answer.SpaceAnswer.TheVariants as space_answers
use Rattle.tq_model.specs.declared.answer.SpacePages.{SpacePages}
use Rattle.tq_model.specs.declared.request.SpaceCreation.{SpaceCreation}
use Rattle.tq_model.specs.declared.space.Shape.{Shape}
use Rattle.tq_model.specs.Moves.{IndexedSpace}
use Rattle.tq_model.specs.Reading.{NamedSpace}
use Rattle.tq_model.specs.Site.{Site, Volume, SpaceOnDevice, volume_of, clusters_for, durable, entries_with, header_clusters, lowest_free, as_extents, present, table_entries}
use Rattle.tq_model.specs.Space.{new_space, overhead_pages}
use Rattle.tq_model.specs.SpaceForm.{empty_space}
use Rattle.tq_model.specs.Step.{Outcome, create_space, unless, space_made, space_refusal, placed_new, shape_asked, pages_asked, field_refused}
use Rattle.tq_devtab.specs.InMemory.{part_of}
use Rattle.tq_devtab.specs.Volume.{TablePart, HasTable, with_new, free_of, IsReserved}
use Rattle.tq_devtab.proofs.OwnerLemmas.{lowest_of-volume}
use Rattle.tq_site.specs.Journal.{HasEpoch}
use Rattle.tq_site.proofs.KeptLemmas.{epoch_kept, journal_of_kept}
use Rattle.tq_spacefile.specs.declared.file.SpaceFile.{SpaceFile}
use Rattle.tq_spacefile.specs.File.{IsFormatted, IsFile, place_in, clusters_in, held_in, logged_in}
use Rattle.tq_spacefile.proofs.Files.{formatted_space}
use Rattle.std.proofs.lemmas.Bool.Decides.{nat_tests}
use Rattle.tq_model.specs.Plain.{IsBefore, IsNewer}
use Rattle.tq_model.proofs.Replays.{empty_ids}
use Rattle.tq_extent.specs.Bytes.{reaches}
use Rattle.tq_site.specs.InMemory.{IsJournalOf}
use Rattle.tq_coord.specs.declared.site.Disk.{Disk}
use Rattle.tq_coord.specs.declared.site.Manager.{Manager}
use Rattle.tq_coord.specs.Manager.{site_of, site_with, epoch_of, files_of, volume_in, all_placed, HasDisk, HasFileOf, volume_with, placed_of, HasFile, HasFiles}
use Rattle.tq_coord.specs.Together.{IsFileOf, place_of, IsInPlace, IsTogether}
use Rattle.tq_coord.specs.Spaces.{IsAllowed, HasPlace, HasNewPages, IsLaidOut, IsWithoutOrWith, IsShape}
use Rattle.tq_coord.specs.Images.{ImagesHave, ImagesMatch, AreEither}
use Rattle.tq_coord.specs.Serving.{ChangesOnce}
use Rattle.tq_coord.proofs.FoundLemmas.{file_at}
use Rattle.tq_coord.proofs.FoundEntryLemmas.{IsPlacedAt, space_placed, site_by, placed_by, placed_file, entries_found, other_table}
use Rattle.tq_coord.proofs.FrameLemmas.{others_of_call}
use Rattle.tq_coord.proofs.ImageLemmas.{found_have}
use Rattle.tq_coord.proofs.LaidOutLemmas.{journal_laid, file_of_laid}
use Rattle.tq_coord.proofs.MatchLemmas.{disk_on}
use Rattle.tq_coord.proofs.OneEntryLemmas.{IsLowest, all_used, entry_used, entry_put, space_put, each_put, entries_lowest, placed_lowest, placed_put}
use Rattle.tq_coord.proofs.PlacedLemmas.{all-placed-long, placed-at, same-some}
use Rattle.tq_coord.proofs.SpaceRefusalLemmas.{extents_alike, not_refused, allowed_on}

-- the site of one device with this table and these spaces
abbrev pub site_as : TablePart → ℕ → ℕ → List (Option SpaceFile) → Site
site_as t epoch next files =
    record { identity = Some (record { site = t.site; epoch = epoch }); next = next; clock = 0; devices = Some (volume_with t files) ∷ [] }

module _ (c : SpaceCreation) (m : Manager) (n : NamedSpace) (p : HasPlace c m n) where
  abbrev d : Disk
  d = p.allowed.disk

  abbrev t : TablePart
  t = part_of d.table

  abbrev v : Volume
  v = volume_in d

  abbrev epoch : ℕ
  epoch = epoch_of d

  abbrev shape : Shape
  shape = shape_asked c

  abbrev site : Site
  site = site_with (Some d) m.next

  -- the new space, empty
  abbrev pub new_held : IndexedSpace
  new_held = empty_space shape t.site (8 * n.ordinal + 0)

  abbrev pub new_placed : SpaceOnDevice
  new_placed = space_placed n new_held 0

  -- ---- nothing refuses it

  least : header_clusters ≤ t.clusters
  least = omega (arith, d.table.least)

  granted : space_refusal c (site_of m) ≡ None
  granted = not_refused c m p.allowed (p.reserved.room, p.reserved.last) (subst (λ k. clusters_for k ≤ free_of t) p.pages p.reserved.enough)

  -- ---- what the machine makes

  abbrev made : SpaceOnDevice → Outcome
  made q = record {
    site = record site { devices = Some (record v { next_space = t.next_space + 1; entries = entries_with q v.entries }) ∷ [] };
    answer = answers.Space (space_answers.Created (record { number = 8 * t.next_space + 0; pages = pages_asked c }));
  }

  lowest_alike : as_extents (lowest_free (clusters_for c.pages) v) ≡ n.extents
  lowest_alike =
      ap (λ k. as_extents (lowest_free (clusters_for k) v)) (sym p.pages)
      ∙ ap as_extents (sym (lowest_of-volume v t refl (extents_alike d) (clusters_for n.pages) least))
      ∙ sym p.reserved.extents

  space_alike : placed_new (record c { dev = 0 }) t.site t.next_space (as_extents (lowest_free (clusters_for c.pages) v)) ≡ new_placed
  space_alike = λ i. record {
    name = sym p.name i;
    pages = sym p.pages i;
    extents = lowest_alike i;
    logged = 0;
    space = new_space shape t.site (8 * sym p.reserved.ordinal i + 0);
  }

  pub outcome_is : create_space c (site_of m) ≡ made new_placed
  outcome_is =
      ap (λ (r : Option Answer). unless r (site_of m) (space_made c (site_of m) (volume_of (site_of m) c.dev))) granted
      ∙ ap (λ (o : Option Disk). space_made c (site_with o m.next) (volume_of (site_with o m.next) c.dev)) p.allowed.there
      ∙ subst (λ k. space_made (record c { dev = k }) site (volume_of site k) ≡ made new_placed) (sym p.allowed.dev) (ap made space_alike)

  site_is : site_of m ≡ site
  site_is = ap (λ (o : Option Disk). site_with o m.next) p.allowed.there

  -- such a creation does not leave alone what lasts
  pub space_differs : durable (create_space c (site_of m)).site ≡ durable (site_of m) → ⊥
  space_differs same =
      let next_in : Site → ℕ = λ s. unwrap_or (option_map (λ (x : Volume). x.next_space) (get_or s.devices 0 None)) 0 in
      let e : t.next_space + 1 ≡ t.next_space =
      ap (λ (o : Outcome). next_in (durable o.site)) (sym outcome_is) ∙ ap next_in same ∙ ap (λ (s : Site). next_in (durable s)) site_is in
      omega (arith, e)

  pub space_answer : (ordinal : ℕ) → ordinal ≡ n.ordinal → (pages : SpacePages) → pages ≡ pages_asked c
      → answers.Space (space_answers.Created (record { number = 8 * ordinal; pages = pages })) ≡ (create_space c (site_of m)).answer
  space_answer ordinal is pages asked =
      let number : 8 * ordinal ≡ 8 * t.next_space + 0 = omega (arith, is, p.reserved.ordinal) in
      (λ i. answers.Space (space_answers.Created (record { number = number i; pages = asked i }))) ∙ ap (λ (o : Outcome). o.answer) (sym outcome_is)

  -- ---- the images without it and with it

  module _ (at : ℕ) (low : IsLowest (files_of d) at) where
    entries_low : IsLowest t.entries at
    entries_low = entries_lowest 0 t (files_of d) at d.fit low (omega (arith, d.fit.count, d.table.table.count))

    placed_low : IsLowest v.entries at
    placed_low = placed_lowest 0 t (files_of d) at d.fit low (omega (arith, d.fit.count, all-placed-long d))

    module _ (b : List ℕ) (images : Images) (has : HasDisk d m.next b) (step : IsLaidOut n b (images 0)) where
      table_was : HasTable 0 t b
      table_was = subst (λ k. HasTable k t b) d.number has.table.has

      journal_there : HasEpoch epoch (images 0)
      journal_there = epoch_kept b (images 0) (journal_laid t n p.reserved b (images 0) step has.journal.has.size) epoch has.journal.has

      placed_there : (i : ℕ) → IsPlacedAt t epoch (images 0) (get_or t.entries i None) (get_or v.entries i None)
      placed_there i =
          let named = get_or t.entries i None in
          let file = get_or (files_of d) i None in
          subst (λ o. IsPlacedAt t epoch (images 0) named o) (sym (placed-at t.entries (files_of d) i))
          (placed_file t epoch named file (images 0) (file_at t epoch m.next named file (images 0)
          (file_of_laid t n p.reserved b (images 0) step has.journal.has.size least table_was i epoch m.next named file refl (has.files i))))

      pub old_have : HasTable 0 t (images 0) → ImagesHave (site_of m) images
      old_have table =
          let long : length t.entries ≡ length v.entries = d.table.table.count ∙ sym (all-placed-long d) in
          subst (λ (s : Site). ImagesHave s images) (sym site_is)
          (found_have images (site_by t epoch v.entries) (entries_found t epoch v.entries images table journal_there long placed_there))

      pub new_have : HasTable 0 (with_new n t) (images 0) → HasNewPages n shape (images 0) → ImagesHave (create_space c (site_of m)).site images
      new_have table pages =
          let t' = with_new n t in
          let entries = set t.entries at (Some n) in
          let placed = set v.entries at (Some new_placed) in
          let here = placed_by t' epoch n new_held 0 (images 0)
          (formatted_space (place_of 0 t' n) (clusters_of n.extents) shape epoch (images 0) (sym p.pages) pages.formatted pages.reach) in
          let each = each_put (IsPlacedAt t' epoch (images 0)) t.entries v.entries at (Some n) (Some new_placed) entries_low.within placed_low.within here
          (λ i. other_table t t' epoch (images 0) (get_or t.entries i None) (get_or v.entries i None) refl (placed_there i)) in
          let named = sym (entry_put n t.entries at entries_low) in
          let spaces = sym (space_put new_placed v.entries at placed_low) in
          let long : length entries ≡ length placed = length-set t.entries at (Some n) ∙ d.table.table.count ∙ sym (all-placed-long d)
          ∙ sym (length-set v.entries at (Some new_placed)) in
          let found = entries_found t' epoch (entries_with new_placed v.entries) images table journal_there
          (subst (λ (l : List (Option NamedSpace)). length l ≡ length (entries_with new_placed v.entries)) named
          (subst (λ (l : List (Option SpaceOnDevice)). length entries ≡ length l) spaces long))
          (λ i. subst (λ (l : List (Option NamedSpace)). IsPlacedAt t' epoch (images 0) (get_or l i None)
          (get_or (entries_with new_placed v.entries) i None)) named
          (subst (λ (l : List (Option SpaceOnDevice)). IsPlacedAt t' epoch (images 0) (get_or entries i None) (get_or l i None)) spaces (each i))) in
          subst (λ (o : Outcome). ImagesHave o.site images) (sym outcome_is) (found_have images (site_by t' epoch (entries_with new_placed v.entries)) found)

    -- the images while it is made
    pub making : (a b : View) → ImagesMatch m a → KeepsRest 0 a b → Within 0 (IsLaidOut n) (IsWithoutOrWith t n shape) a b
        → ChangesOnce (create_space c (site_of m)) m a b
    making a b on rest stop = record {
      attached = rest.attached;
      others = others_of_call (IsLaidOut n) (IsWithoutOrWith t n shape) a b stop rest;
      within = of_one 0 (IsLaidOut n) (IsWithoutOrWith t n shape) (AreEither (site_of m) (create_space c (site_of m)).site) a b (λ i images was step has. ⊎_elim
          (λ old. inl (old_have i images (disk_on m d p.allowed.there a on i was) step old))
          (λ new. inr (new_have i images (disk_on m d p.allowed.there a on i was) step new.0 new.1)) has) stop;
    }

-- a place in the table of the disk that is found
abbrev pub place_in_table : (c : SpaceCreation) (m : Manager) → IsAllowed c m → (d : Disk) → m.disk ≡ Some d → (n : NamedSpace)
    → IsReserved (part_of d.table) n → n.name ≡ c.name → n.pages ≡ c.pages → HasPlace c m n
place_in_table c m a d there n reserved name pages = record { allowed = allowed_on c m a d there; reserved = reserved; name = name; pages = pages }

-- the same place, by the disk as another name has it
abbrev pub place_on : (c : SpaceCreation) (m : Manager) (n : NamedSpace) → HasPlace c m n → (d : Disk) → m.disk ≡ Some d → HasPlace c m n
place_on c m n p d there =
    let same = same-some p.allowed.disk d (sym p.allowed.there ∙ there) in
    place_in_table c m p.allowed d there n (subst (λ (x : Disk). IsReserved (part_of x.table) n) same p.reserved) p.name p.pages

-- a shape that is asked for, with fields in their limits and more pages than the overhead
pub is_shape : (c : SpaceCreation) → field_refused c ≡ None → overhead_pages (shape_asked c) < c.pages → IsShape (shape_asked c)
is_shape c fields large = record {
  queues = (grind (arith, nat_tests), grind (arith, nat_tests));
  messages = (grind (arith, nat_tests), grind (arith, nat_tests));
  transactions = (grind (arith, nat_tests), grind (arith, nat_tests));
  memory = grind (arith, nat_tests);
  pages = (large, grind (arith, nat_tests));
}

-- a table with room has an entry that is not used
pub no_entry : (d : Disk) (shown : List (Option SpaceFile)) → shown ≡ files_of d → length (present (part_of d.table).entries) < table_entries
    → ((i : ℕ) → i < length shown → is_some (get_or shown i None) ≡ true) → ⊥
no_entry d shown same room all =
    let t = part_of d.table in
    let used : (i : ℕ) → i < length (files_of d) → is_some (get_or (files_of d) i None) ≡ true =
    subst (λ (l : List (Option SpaceFile)). (i : ℕ) → i < length l → is_some (get_or l i None) ≡ true) same all in
    let there : (i : ℕ) → i < length t.entries → is_some (get_or t.entries i None) ≡ true = λ i lt.
    entry_used 0 t (get_or t.entries i None) (get_or (files_of d) i None) (d.fit.each i) ∙ used i (omega (arith, lt, d.fit.count, d.table.table.count)) in
    omega (arith, room, all_used t.entries there, d.table.table.count)

-- ---- the manager with the new space

-- the space in memory as it is made for its entry
pub record IsNewFile (shape : Shape) (t : TablePart) (n : NamedSpace) (f : SpaceFile) : Type 0 where
  pub place : IsInPlace 0 t n f
  pub held : held_in f ≡ empty_space shape t.site (8 * n.ordinal + 0)
  pub logged : logged_in f ≡ 0
  pub on : (epoch : ℕ) (image : List ℕ) → IsFormatted shape (clusters_of n.extents) image → reaches (clusters_of n.extents) image ≡ true → IsFile f epoch image

-- what is made of a shape, a map, and the numbers of the site and of the space
abbrev pub MakesFile : Shape → List ℕ → ℕ → ℕ → ℕ → SpaceFile → Type 0
MakesFile shape map pages site number f =
    (place_in f ≡ record { dev = 0; pages = pages; site = site; number = number }) × (clusters_in f ≡ map) × (held_in f ≡ empty_space shape site number)
    × (logged_in f ≡ 0)
    × ((epoch : ℕ) (image : List ℕ) → IsFormatted shape map image → reaches map image ≡ true → IsFile f epoch image)

pub new_file : (shape asked : Shape) (map : List ℕ) (site ordinal : ℕ) (t : TablePart) (n : NamedSpace) (f : SpaceFile) → shape ≡ asked
    → n.pages ≡ asked.pages → map ≡ clusters_of n.extents
    → site ≡ t.site → ordinal ≡ n.ordinal → MakesFile shape map shape.pages site (8 * ordinal) f → IsNewFile asked t n f
new_file shape asked map site ordinal t n f is pages mapped site_is ordinal_is makes =
    let number : 8 * ordinal ≡ 8 * n.ordinal + 0 = omega (arith, ordinal_is) in
    let given = subst (λ (l : List ℕ). MakesFile shape l shape.pages site (8 * ordinal) f) mapped makes in
    let asked_for = subst (λ (s : Shape). MakesFile s (clusters_of n.extents) s.pages site (8 * ordinal) f) is given in
    let here = subst (λ k. MakesFile asked (clusters_of n.extents) k site (8 * ordinal) f) (sym pages) asked_for in
    let on_site = subst (λ k. MakesFile asked (clusters_of n.extents) n.pages k (8 * ordinal) f) site_is here in
    let numbered = subst (λ k. MakesFile asked (clusters_of n.extents) n.pages t.site k f) number on_site in
    record { place = record { is = numbered.0; clusters = numbered.1 }; held = numbered.2; logged = numbered.3; on = numbered.4 }

module _ (c : SpaceCreation) (m : Manager) (n : NamedSpace) (p : HasPlace c m n) (at : ℕ) (low : IsLowest (files_of p.allowed.disk) at) (f : SpaceFile)
    (new : IsNewFile (shape_asked c) (part_of p.allowed.disk.table) n f) where
  abbrev disk : Disk
  disk = p.allowed.disk

  abbrev part : TablePart
  part = part_of disk.table

  abbrev next_part : TablePart
  next_part = with_new n part

  abbrev files : List (Option SpaceFile)
  files = set (files_of disk) at (Some f)

  abbrev used : IsLowest part.entries at
  used = entries_low c m n p at low

  in_place : IsInPlace 0 next_part n f
  in_place = record { is = new.place.is; clusters = new.place.clusters }

  -- what holds of each entry and of the new one holds of each entry of the new table
  each_entry : (P : Option NamedSpace → Option SpaceFile → Type 0) → P (Some n) (Some f)
      → ((i : ℕ) → P (get_or part.entries i None) (get_or (files_of disk) i None)) → (i : ℕ) → P (get_or next_part.entries i None) (get_or files i None)
  each_entry P here each i =
      subst (λ (l : List (Option NamedSpace)). P (get_or l i None) (get_or files i None)) (sym (entry_put n part.entries at used))
      (each_put P part.entries (files_of disk) at (Some n) (Some f) used.within low.within here each i)

  pub new_together : (t : TablePart) → t ≡ next_part → IsTogether 0 t files
  new_together t is = subst (λ (x : TablePart). IsTogether 0 x files) (sym is) (record {
    count = length-set (files_of disk) at (Some f) ∙ disk.fit.count;
    each = each_entry (IsFileOf 0 next_part) in_place (λ i. still_of (get_or part.entries i None) (get_or (files_of disk) i None) (disk.fit.each i));
  })
    where
      still_of : (named : Option NamedSpace) (file : Option SpaceFile) → IsFileOf 0 part named file → IsFileOf 0 next_part named file
      still_of None None is = tt
      still_of None (Some g) is = absurd is
      still_of (Some k) None is = absurd is
      still_of (Some k) (Some g) is = record { is = is.is; clusters = is.clusters }

  pub new_site_is : (t : TablePart) → t ≡ next_part → site_as t (epoch_of disk) m.next files ≡ (create_space c (site_of m)).site
  new_site_is t is =
      let made : SpaceOnDevice = new_placed c m n p in
      let entries = (volume_in disk).entries in
      let placed : placed_of n f ≡ made = λ i. space_placed n (new.held i) (new.logged i) in
      let spaces : all_placed next_part.entries files ≡ entries_with made entries =
      ap (λ (l : List (Option NamedSpace)). all_placed l files) (entry_put n part.entries at used)
      ∙ placed_put part.entries (files_of disk) at n f used.within low.within
      ∙ ap (λ (q : SpaceOnDevice). set entries at (Some q)) placed
      ∙ sym (space_put made entries at (placed_low c m n p at low)) in
      let with_entries = λ (l : List (Option SpaceOnDevice)). record (site_as next_part (epoch_of disk) m.next files) {
        devices = Some (record (volume_with next_part files) { entries = l }) ∷ [];
      } in
      ap (λ (x : TablePart). site_as x (epoch_of disk) m.next files) is ∙ ap with_entries spaces ∙ ap (λ (o : Outcome). o.site) (sym (outcome_is c m n p))

  -- an image on which the new space is laid out
  module _ (b image : List ℕ) (has : HasDisk disk m.next b) (step : IsLaidOut n b image) where
    pub new_journal : IsJournalOf disk.journal image
    new_journal = journal_of_kept b image (journal_laid part n p.reserved b image step has.table.has.size) disk.journal has.journal

    pub new_files : (t : TablePart) → t ≡ next_part → HasNewPages n (shape_asked c) image → HasFiles t (epoch_of disk) m.next files image
    new_files t is pages =
        let epoch = epoch_of disk in
        let here : HasFile next_part epoch m.next n f image = record {
          place = in_place;
          file = new.on epoch image pages.formatted pages.reach;
          newer = subst (IsNewer epoch m.next) (sym new.held) (empty_ids (IsBefore epoch m.next) (shape_asked c) part.site (8 * n.ordinal + 0));
        } in
        let was = table_was c m n p at low b (λ k. image) has step in
        let there = λ (i : ℕ).
        let named = get_or part.entries i None in
        let file = get_or (files_of disk) i None in
        still_has named file (file_of_laid part n p.reserved b image step has.table.has.size (least c m n p) was i epoch m.next named file refl
        (has.files i)) in
        subst (λ (x : TablePart). HasFiles x epoch m.next files image) (sym is)
        (each_entry (λ named file. HasFileOf next_part epoch m.next named file image) here there)
      where
        still_has : (named : Option NamedSpace) (file : Option SpaceFile) → HasFileOf part (epoch_of disk) m.next named file image
            → HasFileOf next_part (epoch_of disk) m.next named file image
        still_has None None is = tt
        still_has None (Some g) is = absurd is
        still_has (Some k) None is = absurd is
        still_has (Some k) (Some g) is = record { place = record { is = is.place.is; clusters = is.place.clusters }; file = is.file; newer = is.newer }
