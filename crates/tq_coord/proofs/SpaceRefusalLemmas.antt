-- Why a space is not made: the machine's first reason, by what the manager finds.
use Rattle.std.proofs.Common.{◌≡◌, ◌≤◌, inl, inr, ℕ, suc, [], ◌∷◌, Bool, true, false, cond, not, List, length, get_or, Option, Some, None, refl, sym, ◌∙◌, ap, subst, arith}
use Rattle.std.specs.Prelude.{is_some, nat_lt, nat_le, ◌||◌, ◌&&◌, option_map, if◌then◌else◌}
use Rattle.std.specs.List.{find, list_all}
use Rattle.std.specs.Str.{bytes_eq}
use Rattle.std.proofs.lemmas.Bool.{le-leb, le-ltb, lt-ltb, lt-leb, or_left, or_right, true≢false}
use Rattle.std.proofs.lemmas.Bool.Decides.{same_from_decides}
use Rattle.std.proofs.lemmas.List.{append-nil}
use Rattle.std.proofs.lemmas.Slice.Eq.{bytes_eq-Decides}
use Rattle.tq_host.specs.View.{View}
use Rattle.tq_extent.specs.Clusters.{extents_on}
use Rattle.tq_model.specs.declared.answer.Answer.{Answer}
use Rattle.tq_model.specs.declared.answer.Answer.TheVariants as answers
use Rattle.tq_model.specs.declared.answer.ClusterRoom.{ClusterRoom}
use Rattle.tq_model.specs.declared.answer.DeviceAnswer.TheVariants as device_answers
use Rattle.tq_model.specs.declared.answer.Field.{Field}
use Rattle.tq_model.specs.declared.answer.SpaceAnswer.TheVariants as space_answers
use Rattle.tq_model.specs.declared.request.SpaceCreation.{SpaceCreation}
use Rattle.tq_model.specs.Reading.{NamedSpace}
use Rattle.tq_model.specs.Site.{SpaceOnDevice, Volume, volume_of, has_name, space_named, spaces_on, present, clusters_for, free_clusters, table_entries, last_space}
use Rattle.tq_model.specs.Space.{overhead_pages}
use Rattle.tq_model.specs.Step.{Outcome, create_space, unless, space_made, space_refusal, on_volume_refusal, limits_refusal, pages_refusal, placing_refusal, is_table_full, field_refused, pages_asked, shape_asked}
use Rattle.tq_devtab.specs.Errors.{IsFull, HasRoom, IsRefusal}
use Rattle.tq_devtab.specs.declared.error.ReserveError.TheVariants as errors
use Rattle.tq_devtab.specs.InMemory.{part_of}
use Rattle.tq_devtab.specs.Table.{extents_of}
use Rattle.tq_devtab.specs.Volume.{TablePart, free_of}
use Rattle.tq_devtab.proofs.OwnerLemmas.{free_of-volume}
use Rattle.tq_spacefile.specs.declared.file.SpaceFile.{SpaceFile}
use Rattle.tq_coord.specs.declared.site.Disk.{Disk}
use Rattle.tq_coord.specs.declared.site.Manager.{Manager}
use Rattle.tq_coord.specs.Images.{ImagesMatch}
use Rattle.tq_coord.specs.Manager.{site_of, site_with, volume_in, files_of, all_placed, placed_of}
use Rattle.tq_coord.specs.Serving.{IsServed}
use Rattle.tq_coord.specs.Spaces.{IsAllowed}
use Rattle.tq_coord.specs.Together.{IsFileOf}
use Rattle.tq_coord.proofs.OneEntryLemmas.{as_many}
use Rattle.tq_coord.proofs.PlacedLemmas.{placed-extents, placed-nothing, same-some}

-- ---- the spaces of a device in memory and those of its table

module _ (d : Disk) where
  pub extents_alike : extents_on (volume_in d) ≡ extents_of (part_of d.table).entries
  extents_alike = placed-extents 0 (part_of d.table) (part_of d.table).entries (files_of d) d.fit.each

  pub spaces_alike : length (spaces_on (volume_in d)) ≡ length (present (part_of d.table).entries)
  spaces_alike = as_many 0 (part_of d.table) (part_of d.table).entries (files_of d) d.fit.each

  pub free_alike : free_of (part_of d.table) ≡ free_clusters (volume_in d)
  free_alike = free_of-volume (volume_in d) (part_of d.table) refl extents_alike

bytes_eq-sym : (one other : List ℕ) → bytes_eq one other ≡ bytes_eq other one
bytes_eq-sym one other =
    same_from_decides (bytes_eq one other) (bytes_eq other one) (bytes_eq-Decides one other)
    (λ e. sym ((bytes_eq-Decides other one).0 e), λ e. (bytes_eq-Decides other one).1 (sym e))

-- a name that no space has is no entry's
not_named : (t : TablePart) (name : List ℕ) (named : List (Option NamedSpace)) (files : List (Option SpaceFile))
    → ((i : ℕ) → IsFileOf 0 t (get_or named i None) (get_or files i None))
    → find (has_name name) (present (all_placed named files)) ≡ None → list_all (λ (k : NamedSpace). not (bytes_eq name k.name)) (present named) ≡ true
not_named t name [] files each none = refl
not_named t name (None ∷ named) [] each none =
    not_named t name named [] (λ i. each (suc i)) (ap (λ (l : List (Option SpaceOnDevice)). find (has_name name) (present l)) (placed-nothing named) ∙ none)
not_named t name (Some n ∷ named) [] each none = absurd (each 0)
not_named t name (None ∷ named) (None ∷ files) each none = not_named t name named files (λ i. each (suc i)) none
not_named t name (None ∷ named) (Some f ∷ files) each none = absurd (each 0)
not_named t name (Some n ∷ named) (None ∷ files) each none = absurd (each 0)
not_named t name (Some n ∷ named) (Some f ∷ files) each none = by_test (bytes_eq n.name name) refl none (not_named t name named files (λ i. each (suc i)))
  where
    rest : Option SpaceOnDevice
    rest = find (has_name name) (present (all_placed named files))

    others : Bool
    others = list_all (λ (k : NamedSpace). not (bytes_eq name k.name)) (present named)

    by_test : (b : Bool) → bytes_eq n.name name ≡ b → cond b (Some (placed_of n f)) rest ≡ None → (rest ≡ None → others ≡ true)
        → (not (bytes_eq name n.name) && others) ≡ true
    by_test true is none later = absurd (cc)
    by_test false is none later =
        let other = bytes_eq-sym name n.name ∙ is in
        let after = later none in
        λ i. not (other i) && after i

-- ---- the reasons

-- the first space of a name, where one device is all
pub named_on : (name : List ℕ) (d : Disk) (next : ℕ) → space_named name (site_with (Some d) next) ≡ find (has_name name) (spaces_on (volume_in d))
named_on name d next = ap (find (has_name name)) (append-nil (spaces_on (volume_in d)))

module _ (c : SpaceCreation) (m : Manager) where
  abbrev at_dev : ℕ → Option Answer
  at_dev k =
      if nat_lt k (length (site_of m).devices) then on_volume_refusal c (site_of m) (volume_of (site_of m) k) else Some (answers.Device device_answers.NoDevice)

  module _ (dev : c.dev ≡ 0) where
    module _ (d : Disk) (there : m.disk ≡ Some d) where
      abbrev v : Volume
      v = volume_in d

      on_disk : (o : Option SpaceOnDevice) → find (has_name c.name) (spaces_on v) ≡ o
          → space_refusal c (site_of m) ≡ (if is_some o then Some (answers.Space space_answers.Taken) else limits_refusal c (field_refused c) v)
      on_disk o found =
          ap at_dev dev ∙ ap (λ (x : Option Disk). on_volume_refusal c (site_with x m.next) (option_map volume_in x)) there
          ∙ ap (λ (x : Option SpaceOnDevice). if is_some x then Some (answers.Space space_answers.Taken) else limits_refusal c (field_refused c) v)
          (named_on c.name d m.next ∙ found)

      module _ (new : find (has_name c.name) (spaces_on v) ≡ None) where
        within_limits : field_refused c ≡ None → space_refusal c (site_of m) ≡ pages_refusal c v
        within_limits none = on_disk None new ∙ ap (λ (o : Option Field). limits_refusal c o v) none

  -- what the table of its device says of a space that nothing else refuses
  placed_refusal : (a : IsAllowed c m) → space_refusal c (site_of m) ≡ placing_refusal c (volume_in a.disk)
  placed_refusal a =
      within_limits a.dev a.disk a.there a.new a.fields
      ∙ ap (λ b. if b then Some (answers.Space (space_answers.Small (pages_asked c))) else placing_refusal c (volume_in a.disk))
      (lt-leb c.pages (overhead_pages (shape_asked c)) a.large)

  refused_served : (a : Answer) → space_refusal c (site_of m) ≡ Some a → (v : View) → ImagesMatch m v → IsServed (create_space c (site_of m)) m m v a
  refused_served a is v on =
      let outcome = ap (λ (r : Option Answer). unless r (site_of m) (space_made c (site_of m) (volume_of (site_of m) c.dev))) is in
      record { answer = ap (λ (o : Outcome). o.answer) (sym outcome); site = ap (λ (o : Outcome). o.site) (sym outcome); next = omega arith; images = on }

  -- what its table says against it
  module _ (a : IsAllowed c m) where
    abbrev t : TablePart
    t = part_of a.disk.table

    abbrev placed : Volume
    placed = volume_in a.disk

    full : IsFull t → is_table_full placed ≡ true
    full (inl many) =
        or_left (nat_le table_entries (length (spaces_on placed))) (nat_le last_space placed.next_space)
        (le-leb table_entries (length (spaces_on placed)) (omega (arith, many, spaces_alike a.disk)))
    full (inr last) =
        or_right (nat_le table_entries (length (spaces_on placed))) (nat_le last_space placed.next_space) (le-leb last_space placed.next_space last)

    pub has_room : HasRoom t → is_table_full placed ≡ false
    has_room room =
        let entry = lt-leb table_entries (length (spaces_on placed)) (omega (arith, spaces_alike a.disk, room.0)) in
        let ordinal = lt-leb last_space placed.next_space room.1 in
        λ i. entry i || ordinal i

    abbrev by_room : Bool → Bool → Option Answer
    by_room is_full lacks =
        if is_full then Some (answers.Space space_answers.TableFull)
        else (if lacks then Some (answers.Space (space_answers.Lack (record { need = clusters_for c.pages; free = free_clusters placed }))) else None)

    -- nothing more
    pub not_refused : HasRoom t → clusters_for c.pages ≤ free_of t → space_refusal c (site_of m) ≡ None
    not_refused room enough =
        let lack = le-ltb (free_clusters placed) (clusters_for c.pages) (omega (arith, enough, free_alike a.disk)) in
        placed_refusal a ∙ (λ i. by_room (has_room room i) (lack i))

    module _ (name : List ℕ) (pages : ℕ) (is_name : name ≡ c.name) (is_pages : pages ≡ c.pages) where
      pub not_taken : IsRefusal t name pages errors.Taken → ⊥
      not_taken taken =
          let alone = not_named t c.name t.entries (files_of a.disk) a.disk.fit.each a.new in
          true≢false (sym taken ∙ ap (λ (l : List ℕ). not (list_all (λ (k : NamedSpace). not (bytes_eq l k.name)) (present t.entries))) is_name ∙ ap not alone)

      pub full_served : IsRefusal t name pages errors.TableFull → (v : View) → ImagesMatch m v
          → IsServed (create_space c (site_of m)) m m v (answers.Space space_answers.TableFull)
      full_served is v on =
          refused_served (answers.Space space_answers.TableFull)
          (placed_refusal a ∙ ap (λ b. by_room b (nat_lt (free_clusters placed) (clusters_for c.pages))) (full is.1)) v on

      pub lack_served : (room : ClusterRoom) → IsRefusal t name pages (errors.Lack room) → (v : View) → ImagesMatch m v
          → IsServed (create_space c (site_of m)) m m v (answers.Space (space_answers.Lack room))
      lack_served room is v on =
          let need = ap clusters_for is_pages in
          let lack = lt-ltb (free_clusters placed) (clusters_for c.pages) (omega (arith, need, is.2, free_alike a.disk)) in
          let same : room ≡ record { need = clusters_for c.pages; free = free_clusters placed } = is.3
          ∙ (λ i. record { need = need i; free = free_alike a.disk i }) in
          refused_served (answers.Space (space_answers.Lack room))
          (placed_refusal a ∙ (λ i. by_room (has_room is.1 i) (lack i)) ∙ ap (λ (r : ClusterRoom). Some (answers.Space (space_answers.Lack r))) (sym same)) v on

-- the same, by the disk as another name has it
abbrev pub allowed_on : (c : SpaceCreation) (m : Manager) → IsAllowed c m → (d : Disk) → m.disk ≡ Some d → IsAllowed c m
allowed_on c m a d there = record {
  dev = a.dev;
  disk = d;
  there = there;
  new = subst (λ (x : Disk). find (has_name c.name) (spaces_on (volume_in x)) ≡ None) (same-some a.disk d (sym a.there ∙ there)) a.new;
  fields = a.fields;
  large = a.large;
}
