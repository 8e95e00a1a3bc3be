-- The space of a name: its entry, the machine's site with a change of it, and the one without it.
use Rattle.std.proofs.Common.{◌≡◌, ◌≢◌, inl, inr, ◌<◌, ℕ, zero, suc, true, false, Bool, cond, List, [], ◌∷◌, length, get_or, set, map, Option, Some, None}
use Rattle.std.proofs.Common.{refl, sym, ◌∙◌, ap, subst, arith}
use Rattle.std.specs.Prelude.{is_some, option_map, not}
use Rattle.std.specs.List.{find, list_all}
use Rattle.std.specs.Str.{bytes_eq}
use Rattle.std.proofs.lemmas.Bool.{and_parts, cases_lt, not-true, false_from_ne_true}
use Rattle.std.proofs.lemmas.Cmp.{nat_list_eq_equiv}
use Rattle.std.proofs.lemmas.List.{append-nil, get_or_default}
use Rattle.tq_model.specs.Reading.{NamedSpace, no_two}
use Rattle.tq_model.specs.Site.{Site, Volume, SpaceOnDevice, space_named, spaces_on, has_name, with_space, without_space, changed_if, entry_beside, present}
use Rattle.tq_devtab.specs.Volume.{TablePart, most_bytes}
use Rattle.tq_devtab.specs.InMemory.{part_of}
use Rattle.tq_devtab.proofs.EntryLemmas.{same_name, table_parts}
use Rattle.tq_devtab.proofs.TableLemmas.{all-present}
use Rattle.tq_spacefile.specs.declared.file.SpaceFile.{SpaceFile}
use Rattle.tq_coord.specs.declared.site.Disk.{Disk}
use Rattle.tq_coord.specs.Manager.{site_with, files_of, volume_in, placed_in, placed_of}
use Rattle.tq_coord.proofs.PlacedLemmas.{placed-at, placed-none, all-placed-long}

-- ---- lists

-- what `find` finds passes
find-passes : {X : Type 0} (test : X → Bool) (xs : List X) (x : X) → find test xs ≡ Some x → test x ≡ true
find-passes test [] x found = cc
find-passes test (y ∷ ys) x found =
    elim (test y) as (λ b. test y ≡ b → cond b (Some y) (find test ys) ≡ Some x → test x ≡ true) [
      | true ↦ λ is k. let same : y ≡ x = cc in subst (λ z. test z ≡ true) same is
      | false ↦ λ is k. find-passes test ys x k
    ] refl found

-- what changes no element
map_none : {X : Type 0} (g : Option X → Option X) (xs : List (Option X)) → ((i : ℕ) → i < length xs → g (get_or xs i None) ≡ get_or xs i None) → map g xs ≡ xs
map_none g [] same = refl
map_none g (x ∷ xs) same =
    let first = same 0 (omega arith) in
    let rest = map_none g xs (λ k within. same (suc k) (omega (arith, within))) in
    λ i. first i ∷ rest i

-- what changes one element alone
map_one : {X : Type 0} (g : Option X → Option X) (xs : List (Option X)) (at : ℕ) (y : Option X) → at < length xs → g (get_or xs at None) ≡ y
    → ((i : ℕ) → i ≢ at → i < length xs → g (get_or xs i None) ≡ get_or xs i None) → map g xs ≡ set xs at y
map_one g [] at y lt here other = absurd (omega (arith, lt))
map_one g (x ∷ xs) zero y lt here other =
    let rest = map_none g xs (λ k within. other (suc k) (λ is. absurd (omega (arith, is))) (omega (arith, within))) in
    λ i. here i ∷ rest i
map_one g (x ∷ xs) (suc at) y lt here other =
    let first = other 0 (λ is. absurd (omega (arith, is))) (omega arith) in
    let rest = map_one g xs at y (omega (arith, lt)) here (λ i differs within. other (suc i) (λ is. differs (omega (arith, is))) (omega (arith, within))) in
    λ i. first i ∷ rest i

-- of two entries neither has the name of the other
earlier-differs : (entries : List (Option NamedSpace)) (i j : ℕ) (n m : NamedSpace) → no_two same_name (present entries) ≡ true → i < j
    → get_or entries i None ≡ Some n → get_or entries j None ≡ Some m → same_name n m ≡ false
earlier-differs [] i j n m apart lt at also = absurd (cc)
earlier-differs (o ∷ entries) i zero n m apart lt at also = absurd (omega arith)
earlier-differs (None ∷ entries) zero (suc j) n m apart lt at also = absurd (cc)
earlier-differs (Some k ∷ entries) zero (suc j) n m apart lt at also =
    let same : k ≡ n = cc in
    let parts = and_parts (list_all (λ (x : NamedSpace). not (same_name k x)) (present entries)) (no_two same_name (present entries)) apart in
    subst (λ (x : NamedSpace). same_name x m ≡ false) same
    (not-true (same_name k m) (all-present (λ (x : NamedSpace). not (same_name k x)) entries j m parts.0 also))
earlier-differs (None ∷ entries) (suc i) (suc j) n m apart lt at also = earlier-differs entries i j n m apart (omega arith) at also
earlier-differs (Some k ∷ entries) (suc i) (suc j) n m apart lt at also =
    let parts = and_parts (list_all (λ (x : NamedSpace). not (same_name k x)) (present entries)) (no_two same_name (present entries)) apart in
    earlier-differs entries i j n m parts.1 (omega arith) at also

-- what is nothing is not something
pub nothing_some : {X : Type 0} (o : Option X) → o ≡ None → is_some o ≡ true → ⊥
nothing_some None none some = cc
nothing_some (Some x) none some = absurd (cc)

-- ---- the entry of a name

-- The device in memory has the space of that name at this entry.
pub record IsNamedAt (d : Disk) (name : List ℕ) (at : ℕ) (n : NamedSpace) (f : SpaceFile) : Type 0 where
  pub within : at < 16
  pub named : get_or (part_of d.table).entries at None ≡ Some n
  pub file : get_or (files_of d) at None ≡ Some f
  pub same : bytes_eq n.name name ≡ true
  pub found : find (has_name name) (spaces_on (volume_in d)) ≡ Some (placed_of n f)

-- what is told of an entry that is found
abbrev pub IsFoundAt : Disk → List ℕ → ℕ → Type 0
IsFoundAt d name at =
    (at < 16) × (find (has_name name) (spaces_on (volume_in d)) ≡ get_or (volume_in d).entries at None) ×
    (is_some (get_or (volume_in d).entries at None) ≡ true)

-- its file, where it is read
pub file_read : (d : Disk) (at : ℕ) (o : Option SpaceFile) → at < 16 → o ≡ get_or (files_of d) at o → get_or (files_of d) at None ≡ o
file_read d at o within is = get_or_default (files_of d) at None o (omega (arith, within, d.fit.count)) ∙ sym is

module _ (d : Disk) (name : List ℕ) (at : ℕ) (is : IsFoundAt d name at) where
  abbrev placed : Option SpaceOnDevice
  placed = placed_in (get_or (part_of d.table).entries at None) (get_or (files_of d) at None)

  placed_is : get_or (volume_in d).entries at None ≡ placed
  placed_is = placed-at (part_of d.table).entries (files_of d) at

  pub no_file : get_or (files_of d) at None ≡ None → ⊥
  no_file none =
      let nothing = placed_is ∙ ap (placed_in (get_or (part_of d.table).entries at None)) none ∙ placed-none (get_or (part_of d.table).entries at None) in
      nothing_some (get_or (volume_in d).entries at None) nothing is.2

  pub named_at : (f : SpaceFile) → get_or (files_of d) at None ≡ Some f → (n : NamedSpace) × IsNamedAt d name at n f
  named_at f file = by_entry (get_or (part_of d.table).entries at None) refl
    where
      by_entry : (o : Option NamedSpace) → get_or (part_of d.table).entries at None ≡ o → (n : NamedSpace) × IsNamedAt d name at n f
      by_entry None entry =
          let nothing = placed_is ∙ ap (λ (o : Option NamedSpace). placed_in o (get_or (files_of d) at None)) entry in
          absurd (nothing_some (get_or (volume_in d).entries at None) nothing is.2)
      by_entry (Some n) entry =
          let there : get_or (volume_in d).entries at None ≡ Some (placed_of n f) = placed_is ∙ (λ i. placed_in (entry i) (file i)) in
          let found = is.1 ∙ there in (
            n,
            record {
              within = is.0;
              named = entry;
              file = file;
              same = find-passes (has_name name) (spaces_on (volume_in d))
                  (placed_of n f) found;
              found = found;
            },
          )

-- ---- the machine's site

module _ (d : Disk) (name : List ℕ) (at : ℕ) (n : NamedSpace) (f : SpaceFile) (is : IsNamedAt d name at n f) (next : ℕ) where
  abbrev v : Volume
  v = volume_in d

  abbrev t : TablePart
  t = part_of d.table

  pub space_found : space_named name (site_with (Some d) next) ≡ Some (placed_of n f)
  space_found = ap (find (has_name name)) (append-nil (spaces_on v)) ∙ is.found

  pub placed_there : get_or v.entries at None ≡ Some (placed_of n f)
  placed_there = placed-at t.entries (files_of d) at ∙ (λ i. placed_in (is.named i) (is.file i))

  -- no other space has the name
  other_name : (i : ℕ) (m : NamedSpace) → i ≢ at → get_or t.entries i None ≡ Some m → bytes_eq m.name name ≡ false
  other_name i m differs entry = false_from_ne_true (bytes_eq m.name name) (λ same.
      let names = (table_parts t.next_space t.clusters most_bytes t.entries d.table.table).names in
      let one = sym (nat_list_eq_equiv.congr name m.name n.name (nat_list_eq_equiv.symm name m.name ∙ same)) ∙ nat_list_eq_equiv.symm name n.name ∙ is.same in
      elim (cases_lt i at) [
        | inl before ↦ let apart = earlier-differs t.entries i at m n names before entry is.named in absurd (cc)
        | inr from ↦
            let apart = earlier-differs t.entries at i n m names (omega (arith, from, differs)) is.named entry in
            let other = nat_list_eq_equiv.symm n.name m.name ∙ one in
            absurd (cc)
      ])

  other_placed : (g : Option SpaceOnDevice → Option SpaceOnDevice) → g None ≡ None → ((p : SpaceOnDevice) → has_name name p ≡ false → g (Some p) ≡ Some p)
      → (i : ℕ) → i ≢ at → g (get_or v.entries i None) ≡ get_or v.entries i None
  other_placed g none keeps i differs =
      subst (λ (o : Option SpaceOnDevice). g o ≡ o) (sym (placed-at t.entries (files_of d) i))
      (by_entry (get_or t.entries i None) (get_or (files_of d) i None) refl)
    where
      by_entry : (o : Option NamedSpace) (file : Option SpaceFile) → get_or t.entries i None ≡ o → g (placed_in o file) ≡ placed_in o file
      by_entry None file entry = none
      by_entry (Some m) None entry = none
      by_entry (Some m) (Some x) entry = keeps (placed_of m x) (other_name i m differs entry)

  abbrev pub site_entries : List (Option SpaceOnDevice) → Site
  site_entries entries = record (site_with (Some d) next) { devices = Some (record v { entries = entries }) ∷ [] }

  -- the change of the space of that name is the change of its entry
  pub space_changed : (change : SpaceOnDevice → SpaceOnDevice) → with_space name change (site_with (Some d) next) ≡ site_entries
      (set v.entries at (Some (change (placed_of n f))))
  space_changed change =
      let p = placed_of n f in
      let g = option_map (changed_if name change) in
      ap site_entries (map_one g v.entries at (Some (change p)) (omega (arith, is.within, all-placed-long d))
      (ap g placed_there ∙ ap (λ b. Some (cond b (change p) p)) is.same)
      (λ i differs within. other_placed g refl (λ q other. ap (λ b. Some (cond b (change q) q)) other) i differs))

  pub space_gone : without_space name (site_with (Some d) next) ≡ site_entries (set v.entries at None)
  space_gone =
      let p = placed_of n f in
      let g = entry_beside name in
      ap site_entries (map_one g v.entries at None (omega (arith, is.within, all-placed-long d))
      (ap g placed_there ∙ ap (λ b. cond b None (Some p)) is.same)
      (λ i differs within. other_placed g refl (λ q other. ap (λ b. cond b None (Some q)) other) i differs))
