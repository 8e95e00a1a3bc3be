-- A step on the clusters of one space of a device: all else of the device stays.
use Rattle.std.proofs.Common.{◌≡◌, ◌≢◌, inl, inr, ⊎_elim, ◌<◌, ◌≤◌, ℕ, zero, suc, List, [], ◌∷◌, length, get_or, set, Option, Some, None, refl, sym, ◌∙◌}
use Rattle.std.proofs.Common.{subst, arith}
use Rattle.std.proofs.lemmas.Bool.{cases_lt}
use Rattle.std.proofs.lemmas.List.{get_or-set_same, get_or-set_other, length-set}
use Rattle.tq_host.specs.View.{Images}
use Rattle.tq_extent.specs.Bytes.{owned_bytes, ShareNone}
use Rattle.tq_extent.specs.Clusters.{clusters_of}
use Rattle.tq_extent.proofs.BytesLemmas.{others_kept, reaches_same}
use Rattle.tq_model.specs.Moves.{IndexedSpace}
use Rattle.tq_model.specs.Plain.{IsBefore, IsNewer}
use Rattle.tq_model.specs.Reading.{NamedSpace, site_found}
use Rattle.tq_model.specs.Site.{header_clusters, numbers_from, SpaceOnDevice}
use Rattle.tq_model.proofs.RecordMoves.{ids_weaker}
use Rattle.tq_devtab.specs.Volume.{TablePart, HasTable, most_bytes}
use Rattle.tq_devtab.specs.InMemory.{part_of, IsTableOf}
use Rattle.tq_devtab.proofs.KeptLemmas as tables
use Rattle.tq_devtab.proofs.OwnerLemmas.{entries_share_none, entry_beside_header}
use Rattle.tq_site.specs.InMemory.{IsJournalOf}
use Rattle.tq_site.specs.Journal.{HasEpoch}
use Rattle.tq_site.proofs.KeptLemmas as journals
use Rattle.tq_spacefile.specs.declared.file.SpaceFile.{SpaceFile}
use Rattle.tq_spacefile.specs.File.{clusters_in, HasSpace, IsAnyStep, IsSameButSpace}
use Rattle.tq_spacefile.proofs.Files.{file_kept}
use Rattle.tq_coord.specs.declared.site.Disk.{Disk}
use Rattle.tq_coord.specs.Frame.{device_count}
use Rattle.tq_coord.specs.Manager.{epoch_of, files_of, volume_in, HasDisk, HasFile, HasFileOf, HasFiles}
use Rattle.tq_coord.specs.Together.{place_of}
use Rattle.tq_coord.proofs.FoundLemmas.{file_at}
use Rattle.tq_coord.proofs.FoundEntryLemmas.{IsPlacedAt, space_placed, site_by, placed_by, placed_file, entries_found}
use Rattle.tq_coord.proofs.PlacedLemmas.{all-placed-long, placed-at}

-- what holds of each element holds of each where one is changed
pub each_set : {X : Type 0} (P : ℕ → X → Type 0) (xs : List X) (at : ℕ) (x d : X) → at < length xs → P at x → ((i : ℕ) → i ≢ at → P i (get_or xs i d))
    → (i : ℕ) → P i (get_or (set xs at x) i d)
each_set P xs at x d lt here other i = elim (cases_lt i at) [
  | inl before ↦ beside (omega arith)
  | inr from ↦ elim (cases_lt at i) [
    | inl behind ↦ beside (omega arith)
    | inr same ↦
        let is : at ≡ i = omega arith in
        subst (λ k. P k (get_or (set xs at x) k d)) is (subst (P at) (sym (get_or-set_same xs at x d lt)) here)
  ]
]
  where
    beside : i ≢ at → P i (get_or (set xs at x) i d)
    beside differs = subst (P i) (sym (get_or-set_other xs at i x d differs)) (other i differs)

-- an entry that is used is one of them
pub some_within : {X : Type 0} (xs : List (Option X)) (at : ℕ) (x : X) → get_or xs at None ≡ Some x → at < length xs
some_within [] at x is = absurd (cc)
some_within (y ∷ ys) zero x is = omega arith
some_within (y ∷ ys) (suc at) x is = let rest = some_within ys at x is in omega (arith, rest)

-- a later number is newer too
newer_later : (epoch next later : ℕ) (s : IndexedSpace) → next ≤ later → IsNewer epoch next s → IsNewer epoch later s
newer_later epoch next later s le is =
    ids_weaker (IsBefore epoch next) (IsBefore epoch later)
    (λ id before. ⊎_elim (λ earlier. inl earlier) (λ here. inr (here.0, omega (arith, here.1, le))) before) s is

module _ (d : Disk) (at : ℕ) (n : NamedSpace) (named : get_or (part_of d.table).entries at None ≡ Some n) (old new : List ℕ)
    (step : IsSameButSpace (clusters_of n.extents) old new) where
  abbrev t : TablePart
  t = part_of d.table

  abbrev own : List ℕ
  own = clusters_of n.extents

  beside_header : ShareNone own (numbers_from 0 header_clusters)
  beside_header = entry_beside_header t.next_space t.clusters most_bytes t.entries d.table.table (omega (arith, d.table.least)) at n named

  pub table_stays : IsTableOf d.table old → IsTableOf d.table new
  table_stays is = tables.table_of_kept d.table old new (tables.keeps_elsewhere own IsAnyStep old new beside_header step) is

  pub journal_stays : IsJournalOf d.journal old → IsJournalOf d.journal new
  journal_stays is = journals.journal_of_kept old new (journals.keeps_elsewhere own IsAnyStep old new is.has.size beside_header step) d.journal is

  other_stays : (i epoch next later : ℕ) (m : NamedSpace) (g : SpaceFile) → i ≢ at → get_or t.entries i None ≡ Some m → next ≤ later
      → HasFile t epoch next m g old → HasFile t epoch later m g new
  other_stays i epoch next later m g differs also le is =
      let apart = entries_share_none t.next_space t.clusters most_bytes t.entries d.table.table i at m n differs also named in
      let same = others_kept own (clusters_of m.extents) IsAnyStep old new step apart in
      record {
        place = is.place;
        file = file_kept g epoch old new (subst (λ (l : List ℕ). owned_bytes l new ≡ owned_bytes l old) (sym is.place.clusters) same)
            (reaches_same (clusters_in g) old new step.size ∙ is.file.has.reach) is.file;
        newer = newer_later epoch next later g.space.held le is.newer;
      }

  -- the spaces of the other entries
  pub others_stay : (i epoch next later : ℕ) (o : Option NamedSpace) (file : Option SpaceFile) → i ≢ at → get_or t.entries i None ≡ o → next ≤ later
      → HasFileOf t epoch next o file old → HasFileOf t epoch later o file new
  others_stay i epoch next later None None differs also le is = tt
  others_stay i epoch next later None (Some g) differs also le is = absurd is
  others_stay i epoch next later (Some m) None differs also le is = absurd is
  others_stay i epoch next later (Some m) (Some g) differs also le is = other_stays i epoch next later m g differs also le is

  module _ (next : ℕ) (has : HasDisk d next old) where
    -- the device with one space as it is now
    pub files_with : (later : ℕ) (f : SpaceFile) → next ≤ later → HasFile t (epoch_of d) later n f new
        → HasFiles t (epoch_of d) later (set (files_of d) at (Some f)) new
    files_with later f le here =
        each_set (λ i (o : Option SpaceFile). HasFileOf t (epoch_of d) later (get_or t.entries i None) o new) (files_of d) at (Some f) None
        (omega (arith, some_within t.entries at n named, d.table.table.count, d.fit.count))
        (subst (λ (o : Option NamedSpace). HasFileOf t (epoch_of d) later o (Some f) new) (sym named) here)
        (λ i differs. others_stay i (epoch_of d) next later (get_or t.entries i None) (get_or (files_of d) i None) differs refl le (has.files i))

    -- the site that is found has that space as it is on the device
    pub found_with : (images : Images) → images 0 ≡ new → (held : IndexedSpace) (logged : ℕ) → HasSpace (place_of 0 t n) own (epoch_of d) held logged new
        → site_found device_count images ≡ Some (site_by t (epoch_of d) (set (volume_in d).entries at (Some (space_placed n held logged))))
    found_with images is held logged space =
        let epoch = epoch_of d in
        let placed = (volume_in d).entries in
        let p = space_placed n held logged in
        let table = subst (λ k. HasTable k t new) d.number (table_stays has.table).has in
        let journal = (journal_stays has.journal).has in
        let long : length t.entries ≡ length (set placed at (Some p)) = d.table.table.count ∙ sym (all-placed-long d) ∙ sym (length-set placed at (Some p)) in
        let here = subst (λ (o : Option NamedSpace). IsPlacedAt t epoch new o (Some p)) (sym named) (placed_by t epoch n held logged new space) in
        let each = each_set (λ i (o : Option SpaceOnDevice). IsPlacedAt t epoch new (get_or t.entries i None) o) placed at (Some p) None
        (omega (arith, some_within t.entries at n named, d.table.table.count, all-placed-long d)) here
        (λ i differs.
        let o = get_or t.entries i None in
        let file = get_or (files_of d) i None in
        subst (λ (q : Option SpaceOnDevice). IsPlacedAt t epoch new o q) (sym (placed-at t.entries (files_of d) i))
        (placed_file t epoch o file new (file_at t epoch next o file new (others_stay i epoch next next o file differs refl (omega arith) (has.files i))))) in
        subst (λ (image : List ℕ). HasTable 0 t image → HasEpoch epoch image →
        ((i : ℕ) → IsPlacedAt t epoch image (get_or t.entries i None) (get_or (set placed at (Some p)) i None))
        → site_found device_count images ≡ Some (site_by t epoch (set placed at (Some p)))) is
        (λ table journal each. entries_found t epoch (set placed at (Some p)) images table journal long each) table journal each
