-- A call on a space of the manager: the machine's step, the images within it, and the manager after it.
use Rattle.std.proofs.Common.{◌≡◌, inl, inr, ⊎_elim, ◌≤◌, ℕ, ◌+◌, List, [], ◌∷◌, Option, Some, None, get_or, set, map, refl, sym, ◌∙◌, ap, subst, arith}
use Rattle.std.specs.Prelude.{option_map}
use Rattle.std.proofs.Math.ListN.{get_or-map}
use Rattle.std.proofs.lemmas.List.{get_or-set_same, set-get_or}
use Rattle.tq_host.specs.View.{Told, View, Images, IsLawful}
use Rattle.tq_host.specs.Within.{KeepsRest, Within, WithinAll}
use Rattle.tq_host.proofs.AllDevices.{of_one}
use Rattle.tq_extent.specs.Clusters.{clusters_of}
use Rattle.tq_types.specs.declared.identifiers.Arrival.{Arrival}
use Rattle.tq_model.specs.Space.{Space}
use Rattle.tq_model.specs.Moves.{IndexedSpace, space_of}
use Rattle.tq_model.specs.Plain.{IsNewer}
use Rattle.tq_model.specs.Reading.{NamedSpace}
use Rattle.tq_model.specs.Site.{Site, Volume, SpaceOnDevice, volume_of, durable, durable_space}
use Rattle.tq_model.specs.Step.{Outcome, LoggedOutcome, through_log, with_outcome, take_numbers, on_space_found, on_space, next_arrival}
use Rattle.tq_devtab.specs.declared.table.DeviceTable.{DeviceTable}
use Rattle.tq_devtab.specs.InMemory.{part_of, IsTableOf}
use Rattle.tq_devtab.specs.Volume.{TablePart}
use Rattle.tq_site.specs.declared.journal.SiteJournal.{SiteJournal}
use Rattle.tq_site.specs.InMemory.{IsJournalOf}
use Rattle.tq_spacefile.specs.declared.file.SpaceFile.{SpaceFile}
use Rattle.tq_spacefile.specs.declared.place.SpacePlace.{SpacePlace}
use Rattle.tq_spacefile.specs.File.{place_in, clusters_in, held_in, logged_in, HasSpace, IsFile, AreFile, IsSameButSpace}
use Rattle.tq_coord.specs.declared.calls.Reply.{Reply}
use Rattle.tq_coord.specs.declared.planning.SpaceCall.{SpaceCall}
use Rattle.tq_coord.specs.declared.site.Disk.{Disk}
use Rattle.tq_coord.specs.declared.site.Manager.{Manager}
use Rattle.tq_coord.specs.Calls.{outcome_in, logged_outcome_in, IsCalled, IsSameOrChanged, HasOutcome, AreBehind}
use Rattle.tq_coord.specs.Images.{ImagesHave, AreEither, ImagesMatch}
use Rattle.tq_coord.specs.Manager.{site_of, site_with, epoch_of, files_of, volume_in, volume_with, placed_of, all_placed, HasDisk, HasDiskOrIsBlank, HasFile}
use Rattle.tq_coord.specs.Manager.{HasFileOf, HasFiles}
use Rattle.tq_coord.specs.Serving.{IsServed, ChangesOnce}
use Rattle.tq_coord.specs.SpaceCalls.{outcome_of, space_name}
use Rattle.tq_coord.specs.Together.{place_of, IsFileOf, IsInPlace}
use Rattle.tq_coord.proofs.FoundEntryLemmas.{space_placed, site_by}
use Rattle.tq_coord.proofs.FrameLemmas.{others_of_call, others_told}
use Rattle.tq_coord.proofs.ImageLemmas.{found_have}
use Rattle.tq_coord.proofs.MatchLemmas.{disk_on}
use Rattle.tq_coord.proofs.NamedEntryLemmas.{IsNamedAt, space_found, placed_there, space_changed}
use Rattle.tq_coord.proofs.OneEntryLemmas.{placed_put}
use Rattle.tq_coord.proofs.OneFileLemmas.{some_within, table_stays, journal_stays, files_with, found_with}

-- ---- the bytes that are taken of a space's log

abbrev logged_of : Option SpaceOnDevice → ℕ
logged_of None = 0
logged_of (Some p) = p.logged

abbrev entries_of : Option Volume → List (Option SpaceOnDevice)
entries_of None = []
entries_of (Some v) = v.entries

abbrev logged_at : ℕ → Site → ℕ
logged_at at s = logged_of (get_or (entries_of (volume_of s 0)) at None)

durable_logged : (at : ℕ) (entries : List (Option SpaceOnDevice)) → logged_of (get_or (map (option_map durable_space) entries) at None) ≡ logged_of
    (get_or entries at None)
durable_logged at entries = ap logged_of (get_or-map (option_map durable_space) entries at None) ∙ same (get_or entries at None)
  where
    same : (o : Option SpaceOnDevice) → logged_of (option_map durable_space o) ≡ logged_of o
    same None = refl
    same (Some p) = refl

-- ---- a device in memory with one file changed

abbrev site_parts : DeviceTable → SiteJournal → List (Option SpaceFile) → ℕ → Site
site_parts t j files next =
    record {
      identity = Some (record { site = (part_of t).site; epoch = j.epoch });
      next = next;
      clock = 0;
      devices = Some
          (volume_with (part_of t) files) ∷ [];
    }

-- it has the same table and journal, and these files
pub record IsDiskWith (d : Disk) (spaces : List (Option SpaceFile)) (d' : Disk) : Type 0 where
  pub table : d'.table ≡ d.table
  pub journal : d'.journal ≡ d.journal
  pub files : files_of d' ≡ spaces

site_with_files : (d d' : Disk) (files : List (Option SpaceFile)) (next : ℕ) → IsDiskWith d files d' → site_with
    (Some d') next ≡ site_parts d.table d.journal files next
site_with_files d d' files next same = λ i. site_parts (same.table i) (same.journal i) (same.files i) next

disk_with_files : (d d' : Disk) (files : List (Option SpaceFile)) (next : ℕ) (image : List ℕ) → IsDiskWith d files d' → IsTableOf d.table image
    → IsJournalOf d.journal image
    → HasFiles (part_of d.table) (epoch_of d) next files image → HasDisk d' next image
disk_with_files d d' files next image same table journal has = record {
  table = subst (λ (t : DeviceTable). IsTableOf t image) (sym same.table) table;
  journal = subst (λ (j : SiteJournal). IsJournalOf j image) (sym same.journal) journal;
  files = subst (λ (t : DeviceTable). HasFiles (part_of t) (epoch_of d') next (files_of d') image) (sym same.table)
      (subst (λ (j : SiteJournal). HasFiles (part_of d.table) j.epoch next (files_of d') image) (sym same.journal)
      (subst (λ (l : List (Option SpaceFile)). HasFiles (part_of d.table) (epoch_of d) next l image) (sym same.files) has));
}

-- ---- a call on the space of this entry

module _ (m : Manager) (d : Disk) (there : m.disk ≡ Some d) (call : SpaceCall) (at : ℕ) (n : NamedSpace) (f : SpaceFile)
    (is : IsNamedAt d (space_name call) at n f)
    (next : Arrival) (next_is : next ≡ next_arrival (site_of m)) where
  abbrev t : TablePart
  t = part_of d.table

  abbrev v : Volume
  v = volume_in d

  -- what it comes to, and as the machine's step
  abbrev o : LoggedOutcome
  o = logged_outcome_in f (outcome_in f call)

  abbrev step : Outcome
  step = on_space (space_name call) (outcome_of call) (site_of m)

  site_known : site_of m ≡ site_with (Some d) m.next
  site_known = ap (λ (x : Option Disk). site_with x m.next) there

  in_place : IsInPlace 0 t n f
  in_place =
      subst (λ (x : Option NamedSpace). IsFileOf 0 t x (Some f)) is.named
      (subst (λ (x : Option SpaceFile). IsFileOf 0 t (get_or t.entries at None) x) is.file (d.fit.each at))

  pub dev_is : (place_in f).dev ≡ 0
  dev_is = ap (λ (p : SpacePlace). p.dev) in_place.is

  arrival_is : next ≡ record { epoch = epoch_of d; number = m.next }
  arrival_is = next_is ∙ ap next_arrival site_known

  epoch_is : next.epoch ≡ epoch_of d
  epoch_is = ap (λ (x : Arrival). x.epoch) arrival_is

  has_file : (image : List ℕ) → HasDisk d m.next image → HasFile t (epoch_of d) m.next n f image
  has_file image has =
      subst (λ (x : Option NamedSpace). HasFileOf t (epoch_of d) m.next x (Some f) image) is.named
      (subst (λ (x : Option SpaceFile). HasFileOf t (epoch_of d) m.next (get_or t.entries at None) x image) is.file (has.files at))

  -- each image has the file, and the arrival is newer than all of it
  pub behind : (a : View) → ImagesMatch m a → AreBehind f next a
  behind a on image may =
      let has = has_file image (disk_on m d there a on image (subst (λ k. a.may_leave k image) dev_is may)) in
      record {
        file = subst (λ k. IsFile f k image) (sym epoch_is) has.file;
        some = subst (λ k. 1 ≤ k) (sym epoch_is) d.journal.some;
        newer = subst (λ (x : Arrival). IsNewer x.epoch x.number (held_in f)) (sym arrival_is) has.newer;
      }

  -- the step, of a place and an arrival
  abbrev after : SpacePlace → Arrival → Outcome
  after p x =
      let out = through_log p.pages (logged_in f) (space_of (held_in f)) (outcome_in f call) in
      record {
        site = take_numbers out.numbers (record
            (site_with (Some d) x.number) {
              devices = Some (record v {
                entries = set v.entries at
                    (Some (with_outcome out (placed_of n f)));
              }) ∷ [];
            });
        answer = out.answer;
      }

  made : step ≡ after (place_in f) next
  made =
      let name = space_name call in
      let out = through_log n.pages (logged_in f) (space_of (held_in f)) (outcome_in f call) in
      ap (on_space name (outcome_of call)) site_known
      ∙ ap (on_space_found name (outcome_of call) (site_with (Some d) m.next)) (space_found d name at n f is m.next)
      ∙ ap (λ (x : Site). let outcome : Outcome = record { site = take_numbers out.numbers x; answer = out.answer } in outcome)
      (space_changed d name at n f is m.next (with_outcome out))
      ∙ λ i. after (sym in_place.is i) (sym arrival_is i)

  -- a step that changes nothing that lasts takes nothing of the log
  pub takes_nothing : durable step.site ≡ durable (site_of m) → o.logged ≡ logged_in f
  takes_nothing same =
      let placed = Some (with_outcome o (placed_of n f)) in
      let within = some_within v.entries at (placed_of n f) (placed_there d (space_name call) at n f is m.next) in
      sym (ap (λ (x : Outcome). logged_at at (durable x.site)) made ∙ durable_logged at (set v.entries at placed) ∙ ap logged_of
      (get_or-set_same v.entries at placed None within))
      ∙ ap (logged_at at) same ∙ ap (λ (s : Site). logged_at at (durable s)) site_known ∙ durable_logged at v.entries
      ∙ ap logged_of (placed_there d (space_name call) at n f is m.next)

  at_place : (held : IndexedSpace) (logged : ℕ) (c : List ℕ) → HasSpace (place_in f) (clusters_in f) next.epoch held logged c
      → HasSpace (place_of 0 t n) (clusters_of n.extents) (epoch_of d) held logged c
  at_place held logged c has =
      subst (λ (p : SpacePlace). HasSpace p (clusters_of n.extents) (epoch_of d) held logged c) in_place.is
      (subst (λ (l : List ℕ). HasSpace (place_in f) l (epoch_of d) held logged c) in_place.clusters
      (subst (λ k. HasSpace (place_in f) (clusters_in f) k held logged c) epoch_is has))

  on_own : (b c : List ℕ) → IsSameButSpace (clusters_in f) b c → IsSameButSpace (clusters_of n.extents) b c
  on_own b c same = subst (λ (l : List ℕ). IsSameButSpace l b c) in_place.clusters same

  module _ (b : List ℕ) (images : Images) (has : HasDisk d m.next b) (same : IsSameButSpace (clusters_in f) b (images 0)) where
    unchanged : HasSpace (place_in f) (clusters_in f) next.epoch (held_in f) (logged_in f) (images 0) → ImagesHave (site_of m) images
    unchanged space =
        let stays = ap (set v.entries at) (sym (placed_there d (space_name call) at n f is m.next)) ∙ set-get_or v.entries at None in
        subst (λ (s : Site). ImagesHave s images) (sym site_known)
        (found_have images (site_by t (epoch_of d) v.entries)
        (found_with d at n is.named b (images 0) (on_own b (images 0) same) m.next has images refl (held_in f) (logged_in f)
        (at_place (held_in f) (logged_in f) (images 0) space)
        ∙ ap (λ (entries : List (Option SpaceOnDevice)). Some (site_by t (epoch_of d) entries)) stays))

    changed : HasOutcome f next.epoch o (images 0) → ImagesHave step.site images
    changed new =
        let entries = set v.entries at (Some (space_placed n new.held o.logged)) in
        subst (λ (s : Site). ImagesHave s images)
        (ap (λ (x : Space). take_numbers o.numbers (record
        (site_with (Some d) next.number) {
          devices = Some (record v {
            entries = set v.entries at
                (Some (record (placed_of n f) { logged = o.logged; space = x }));
          }) ∷ [];
        })) new.space
        ∙ sym (ap (λ (x : Outcome). x.site) made))
        (found_have images (site_by t (epoch_of d) entries)
        (found_with d at n is.named b (images 0) (on_own b (images 0) same) m.next has images refl new.held o.logged
        (at_place new.held o.logged (images 0) new.has)))

  -- the images within it
  pub within_call : (a b : View) → ImagesMatch m a → Within 0 (IsSameButSpace (clusters_in f)) (IsSameOrChanged f next o) a b → WithinAll
      (AreEither (site_of m) step.site) a b
  within_call a b on within =
      of_one 0 (IsSameButSpace (clusters_in f)) (IsSameOrChanged f next o) (AreEither (site_of m) step.site) a b
      (λ i images was same has. ⊎_elim (λ old. inl (unchanged i images (disk_on m d there a on i was) same old))
      (λ new. inr (changed i images (disk_on m d there a on i was) same new)) has) within

  -- what it changes of the device, as far as stops are told
  pub calling : {tells : Told} (a b : View) → IsLawful tells b → ImagesMatch m a → KeepsRest 0 a b
      → (tells.stops → Within 0 (IsSameButSpace (clusters_in f)) (IsSameOrChanged f next o) a b) → ChangesOnce step m a b
  calling a b lawful on rest told = record {
    within = record {
      later = rest.later;
      images = λ images may. (within_call a b on (told (lawful.stops_told 0 (images 0) (may 0)))).images images may;
      streams = rest.streams;
      pictures = λ x p le left. (within_call a b on (told (lawful.left_told x p left))).pictures x p le left;
    };
    attached = rest.attached;
    others = others_told a b lawful rest (λ x. others_of_call (IsSameButSpace (clusters_in f)) (IsSameOrChanged f next o) a b (told x) rest);
  }

  -- the manager after the call, with the file as the call left it
  module _ (f' : SpaceFile) (r : Reply) (called : IsCalled f f' next o r) (same_place : place_in f' ≡ place_in f)
      (same_clusters : clusters_in f' ≡ clusters_in f) (most : r.numbers ≤ 1)
      (d' : Disk) (with : IsDiskWith d (set (files_of d) at (Some f')) d') (m' : Manager) (there' : m'.disk ≡ Some d')
      (taken : m'.next ≡ m.next + r.numbers) where
    entries_after : all_placed t.entries (set (files_of d) at (Some f')) ≡ set v.entries at (Some (placed_of n f'))
    entries_after =
        let within = some_within t.entries at n is.named in
        ap (λ (l : List (Option NamedSpace)). all_placed l (set (files_of d) at (Some f')))
        (sym (ap (set t.entries at) (sym is.named) ∙ set-get_or t.entries at None))
        ∙ placed_put t.entries (files_of d) at n f' within (some_within (files_of d) at f is.file)

    next_after : m'.next ≡ next.number + o.numbers
    next_after = taken ∙ (λ i. ap (λ (x : Arrival). x.number) (sym arrival_is) i + called.numbers i)

    site_after : site_of m' ≡ step.site
    site_after =
        ap (λ (x : Option Disk). site_with x m'.next) there' ∙ site_with_files d d' (set (files_of d) at (Some f')) m'.next with
        ∙ (λ i. record (site_with (Some d) (next_after i)) { devices = Some (record v { entries = entries_after i }) ∷ [] })
        ∙ (λ i. record (site_with (Some d) (next.number + o.numbers)) {
          devices = Some
              (record v { entries = set v.entries at (Some (record (placed_of n f) { logged = called.logged i; space = called.space i })) }) ∷ [];
        })
        ∙ sym (ap (λ (x : Outcome). x.site) made)

    pub after_call : (a b : View) → ImagesMatch m a → ((image : List ℕ) → b.may_leave 0 image → Within 0 (IsSameButSpace (clusters_in f))
        (IsSameOrChanged f next o) a b)
        → AreFile f' next.epoch b → IsServed step m m' b r.answer
    after_call a b on within files = record {
      answer = called.answer ∙ sym (ap (λ (x : Outcome). x.answer) made);
      site = site_after;
      next = omega (arith, taken, most);
      images = λ image may.
          let came = (within image may).own image may in
          let had = disk_on m d there a on came.image came.was in
          let own = on_own came.image image came.step in
          let here : HasFile t (epoch_of d) m'.next n f' image =
          record {
            place = record { is = same_place ∙ in_place.is; clusters = same_clusters ∙ in_place.clusters };
            file = subst (λ k. IsFile f' k image) epoch_is (files image
                (subst (λ k. b.may_leave k image) (sym (ap (λ (p : SpacePlace). p.dev) same_place ∙ dev_is)) may));
            newer = subst (λ k. IsNewer k m'.next (held_in f')) epoch_is (subst (λ k. IsNewer next.epoch k (held_in f')) (sym next_after)
                (called.newer (subst (λ (x : Arrival). IsNewer x.epoch x.number (held_in f)) (sym arrival_is) (has_file came.image had).newer)));
          } in
          subst (λ (x : Option Disk). HasDiskOrIsBlank x m'.next image) (sym there')
          (disk_with_files d d' (set (files_of d) at (Some f')) m'.next image with (table_stays d at n is.named came.image image own had.table)
          (journal_stays d at n is.named came.image image own had.journal)
          (files_with d at n is.named came.image image own m.next had m'.next f' (omega (arith, taken)) here));
    }
