-- The spaces of a device, entry by entry.
use Rattle.std.proofs.Common.{◌≡◌, ℕ, zero, suc, ◌+◌, ◌<◌, ◌++◌, List, [], ◌∷◌, map, take, get_or, length, refl, sym, ap, subst, ◌∙◌, arith, true, false, cond, Option, Some, None, length-append}
use Rattle.std.specs.Prelude.{is_some, option_to_list, option_map}
use Rattle.std.specs.List.{find, flat_map}
use Rattle.std.specs.Option.{option_or}
use Rattle.std.proofs.lemmas.List.{take_more, map-append, get_or_default}
use Rattle.std.proofs.lemmas.List.Elements.{filter_map-append}
use Rattle.std.proofs.lemmas.List.Folds.{find-append}
use Rattle.tq_model.specs.declared.answer.Extent.{Extent}
use Rattle.tq_model.specs.declared.answer.SpaceLine.{SpaceLine}
use Rattle.tq_model.specs.Site.{SpaceOnDevice, present, has_name}
use Rattle.tq_model.specs.Reading.{NamedSpace}
use Rattle.tq_model.specs.Step.{space_line}
use Rattle.tq_devtab.specs.declared.entry.TableEntry.{TableEntry}
use Rattle.tq_devtab.specs.Table.{entry_view, entries_view, extents_of}
use Rattle.tq_devtab.specs.Volume.{TablePart}
use Rattle.tq_devtab.proofs.SpellingLemmas.{length-views, view-of}
use Rattle.tq_spacefile.specs.declared.file.SpaceFile.{SpaceFile}
use Rattle.tq_devtab.specs.InMemory.{part_of}
use Rattle.tq_coord.specs.declared.site.Disk.{Disk}
use Rattle.tq_coord.specs.Together.{IsFileOf}
use Rattle.tq_coord.specs.Manager.{placed_in, placed_of, all_placed, files_of, volume_in}

-- ---- Lists of options

present-single : {X : Type 0} (o : Option X) → present (o ∷ []) ≡ option_to_list o
present-single None = refl
present-single (Some x) = refl

-- one entry more
pub present-more : {X : Type 0} (xs : List (Option X)) (at : ℕ) (d : Option X) → at < length xs → present (take (at + 1) xs) ≡ present (take at xs) ++ option_to_list (get_or xs at d)
present-more xs at d within =
    ap present (take_more xs at d within) ∙ filter_map-append (λ o. o) (take at xs) (get_or xs at d ∷ []) ∙ ap (λ l. present (take at xs) ++ l) (present-single (get_or xs at d))

pub count-more : {X : Type 0} (count : ℕ) (xs : List (Option X)) (at : ℕ) (d : Option X) → at < length xs → count ≡ length (present (take at xs))
    → length (present (take (at + 1) xs)) ≡ count + length (option_to_list (get_or xs at d))
count-more count xs at d within is =
    let more = ap length (present-more xs at d within) ∙ length-append (present (take at xs)) (option_to_list (get_or xs at d)) in
    omega arith

pub some-one : {X : Type 0} (o : Option X) → is_some o ≡ true → length (option_to_list o) ≡ 1
some-one None is = absurd (cc)
some-one (Some x) is = refl

pub none-zero : {X : Type 0} (o : Option X) → is_some o ≡ false → length (option_to_list o) ≡ 0
none-zero None is = refl
none-zero (Some x) is = absurd (cc)

pub same-some : {X : Type 0} (x y : X) → Some x ≡ Some y → x ≡ y
same-some x y is = cc

-- all is empty still
pub none-more : {X : Type 0} (xs : List (Option X)) → ((i : ℕ) → get_or xs i None ≡ None) → (i : ℕ) → get_or (xs ++ None ∷ []) i None ≡ None
none-more [] none zero = refl
none-more [] none (suc i) = refl
none-more (x ∷ xs) none zero = none 0
none-more (x ∷ xs) none (suc i) = none-more xs (λ k. none (suc k)) i

-- ---- An entry

pub placed-none : (n : Option NamedSpace) → placed_in n None ≡ None
placed-none None = refl
placed-none (Some n) = refl

pub placed-at : (named : List (Option NamedSpace)) (files : List (Option SpaceFile)) (i : ℕ) → get_or (all_placed named files) i None ≡ placed_in (get_or named i None) (get_or files i None)
placed-at [] files i = refl
placed-at (n ∷ named) [] i = sym (placed-none (get_or (n ∷ named) i None))
placed-at (n ∷ named) (f ∷ files) zero = refl
placed-at (n ∷ named) (f ∷ files) (suc i) = placed-at named files i

pub length-placed : (named : List (Option NamedSpace)) (files : List (Option SpaceFile)) → length files ≡ length named → length (all_placed named files) ≡ length named
length-placed [] files same = refl
length-placed (n ∷ named) [] same = absurd (omega (arith, same))
length-placed (n ∷ named) (f ∷ files) same = ap suc (length-placed named files (omega (arith, same)))

-- ---- All entries

pub placed-nothing : (named : List (Option NamedSpace)) → all_placed named [] ≡ []
placed-nothing [] = refl
placed-nothing (n ∷ named) = refl

module _ (dev : ℕ) (t : TablePart) where
  -- the spaces have the extents of the entries
  pub placed-extents : (named : List (Option NamedSpace)) (files : List (Option SpaceFile)) → ((i : ℕ) → IsFileOf dev t (get_or named i None) (get_or files i None))
      → flat_map (λ (p : SpaceOnDevice). p.extents) (present (all_placed named files)) ≡ extents_of named
  placed-extents [] files each = refl
  placed-extents (None ∷ named) [] each = ap (λ (l : List (Option SpaceOnDevice)). flat_map (λ (p : SpaceOnDevice). p.extents) (present l)) (sym (placed-nothing named)) ∙ placed-extents named [] (λ i. each (suc i))
  placed-extents (Some n ∷ named) [] each = absurd (each 0)
  placed-extents (None ∷ named) (None ∷ files) each = placed-extents named files (λ i. each (suc i))
  placed-extents (None ∷ named) (Some f ∷ files) each = absurd (each 0)
  placed-extents (Some n ∷ named) (None ∷ files) each = absurd (each 0)
  placed-extents (Some n ∷ named) (Some f ∷ files) each = ap (λ (l : List Extent). n.extents ++ l) (placed-extents named files (λ i. each (suc i)))

  -- there are as many as used entries
  pub placed-count : (entries : List (Option TableEntry)) (files : List (Option SpaceFile))
      → ((i : ℕ) → IsFileOf dev t (get_or (entries_view entries) i None) (get_or files i None)) → length (present (all_placed (entries_view entries) files)) ≡ length (present entries)
  placed-count [] files each = refl
  placed-count (None ∷ entries) [] each = ap (λ (l : List (Option SpaceOnDevice)). length (present l)) (sym (placed-nothing (entries_view entries))) ∙ placed-count entries [] (λ i. each (suc i))
  placed-count (Some e ∷ entries) [] each = absurd (each 0)
  placed-count (None ∷ entries) (None ∷ files) each = placed-count entries files (λ i. each (suc i))
  placed-count (None ∷ entries) (Some f ∷ files) each = absurd (each 0)
  placed-count (Some e ∷ entries) (None ∷ files) each = absurd (each 0)
  placed-count (Some e ∷ entries) (Some f ∷ files) each = ap suc (placed-count entries files (λ i. each (suc i)))

-- the lines on one entry more
pub lines-more : (lines : List SpaceLine) (placed : List (Option SpaceOnDevice)) (at : ℕ) (o : Option SpaceOnDevice) → at < length placed → get_or placed at None ≡ o
    → lines ≡ map space_line (present (take at placed)) → map space_line (present (take (at + 1) placed)) ≡ lines ++ map space_line (option_to_list o)
lines-more lines placed at o within is so =
    ap (map space_line) (present-more placed at None within) ∙ map-append space_line (present (take at placed)) (option_to_list (get_or placed at None))
    ∙ (λ k. sym so k ++ map space_line (option_to_list (is k)))

pub placed-count-of : (dev : ℕ) (t : TablePart) (entries : List (Option TableEntry)) (named : List (Option NamedSpace)) (files : List (Option SpaceFile)) → entries_view entries ≡ named
    → ((i : ℕ) → IsFileOf dev t (get_or named i None) (get_or files i None)) → length (present (all_placed named files)) ≡ length (present entries)
placed-count-of dev t entries named files is each =
    ap (λ (l : List (Option NamedSpace)). length (present (all_placed l files))) (sym is)
    ∙ placed-count dev t entries files (subst (λ (l : List (Option NamedSpace)). (i : ℕ) → IsFileOf dev t (get_or l i None) (get_or files i None)) (sym is) each)

-- what stands at an entry
pub placed-entry : (entries : List (Option TableEntry)) (named : List (Option NamedSpace)) (files : List (Option SpaceFile)) (i : ℕ) (e : Option TableEntry) (f : Option SpaceFile)
    → entries_view entries ≡ named → i < length entries → i < length files → e ≡ get_or entries i e → f ≡ get_or files i f → get_or (all_placed named files) i None ≡ placed_in (option_map entry_view e) f
placed-entry entries named files i e f is le lf entry file =
    placed-at named files i
    ∙ (λ k. placed_in ((ap (λ (l : List (Option NamedSpace)). get_or l i None) (sym is) ∙ sym (view-of entries i e le entry)) k) ((get_or_default files i None f lf ∙ sym file) k))

-- the lines on the spaces of a device, with that of one entry more
pub lines-on : (d : Disk) (lines : List SpaceLine) (i : ℕ) (entries : List (Option TableEntry)) (e : Option TableEntry) (f : Option SpaceFile) → entries_view entries ≡ (part_of d.table).entries
    → i < 16 → e ≡ get_or entries i e → f ≡ get_or (files_of d) i f → lines ≡ map space_line (present (take i (volume_in d).entries))
    → map space_line (present (take (i + 1) (volume_in d).entries)) ≡ lines ++ map space_line (option_to_list (placed_in (option_map entry_view e) f))
lines-on d lines i entries e f is within entry file so =
    let long = sym (length-views entries) ∙ ap length is ∙ d.table.table.count in
    let placed = length-placed (part_of d.table).entries (files_of d) (d.fit.count ∙ sym d.table.table.count) ∙ d.table.table.count in
    lines-more lines (volume_in d).entries i (placed_in (option_map entry_view e) f) (omega (arith, within, placed))
    (placed-entry entries (part_of d.table).entries (files_of d) i e f is (omega (arith, within, long)) (omega (arith, within, d.fit.count)) entry file) so

pub all-placed-long : (d : Disk) → length (volume_in d).entries ≡ 16
all-placed-long d = length-placed (part_of d.table).entries (files_of d) (d.fit.count ∙ sym d.table.table.count) ∙ d.table.table.count

-- ---- The space of a name

-- the first of that name, where it is not before this entry
pub found-at : (name : List ℕ) (placed : List (Option SpaceOnDevice)) (i : ℕ) (p : SpaceOnDevice) → find (has_name name) (present (take i placed)) ≡ None
    → get_or placed i None ≡ Some p → has_name name p ≡ true → find (has_name name) (present placed) ≡ Some p
found-at name [] i p none at is = absurd (cc)
found-at name (None ∷ xs) zero p none at is = absurd (cc)
found-at name (Some q ∷ xs) zero p none at is =
    let same : q ≡ p = cc in
    ap (λ b. cond b (Some q) (find (has_name name) (present xs))) (ap (has_name name) same ∙ is) ∙ at
found-at name (None ∷ xs) (suc i) p none at is = found-at name xs i p none at is
found-at name (Some q ∷ xs) (suc i) p none at is =
    elim (has_name name q) as (λ b. cond b (Some q) (find (has_name name) (present (take i xs))) ≡ None → cond b (Some q) (find (has_name name) (present xs)) ≡ Some p) [
      | true ↦ λ none. absurd (cc)
      | false ↦ λ none. found-at name xs i p none at is
    ] none

-- one entry more without it
pub unnamed-more : (name : List ℕ) (placed : List (Option SpaceOnDevice)) (i : ℕ) → i < length placed → find (has_name name) (present (take i placed)) ≡ None
    → ((p : SpaceOnDevice) → get_or placed i None ≡ Some p → has_name name p ≡ false) → find (has_name name) (present (take (i + 1) placed)) ≡ None
unnamed-more name placed i within none other =
    ap (find (has_name name)) (present-more placed i None within) ∙ find-append (has_name name) (present (take i placed)) (option_to_list (get_or placed i None))
    ∙ ap (λ o. option_or o (find (has_name name) (option_to_list (get_or placed i None)))) none ∙ not-there (get_or placed i None) other
  where
    not-there : (o : Option SpaceOnDevice) → ((p : SpaceOnDevice) → o ≡ Some p → has_name name p ≡ false) → find (has_name name) (option_to_list o) ≡ None
    not-there None other = refl
    not-there (Some p) other = ap (λ b. cond b (Some p) None) (other p refl)

-- what stands at an entry that is used, and at one that is not
pub entry-there : (d : Disk) (i : ℕ) (entries : List (Option TableEntry)) (e : TableEntry) → entries_view entries ≡ (part_of d.table).entries → i < 16 → Some e ≡ get_or entries i (Some e)
    → (p : SpaceOnDevice) × ((get_or (volume_in d).entries i None ≡ Some p) × (p.name ≡ e.name))
entry-there d i entries e is within entry =
    let t = part_of d.table in
    let f = get_or (files_of d) i None in
    let long = sym (length-views entries) ∙ ap length is ∙ d.table.table.count in
    let named = ap (λ (l : List (Option NamedSpace)). get_or l i None) (sym is) ∙ sym (view-of entries i (Some e) (omega (arith, within, long)) entry) in
    at-file f (subst (λ (o : Option NamedSpace). IsFileOf 0 t o f) named (d.fit.each i)) (placed-at t.entries (files_of d) i ∙ ap (λ (o : Option NamedSpace). placed_in o f) named)
  where
    at-file : (f : Option SpaceFile) → IsFileOf 0 (part_of d.table) (Some (entry_view e)) f → get_or (volume_in d).entries i None ≡ placed_in (Some (entry_view e)) f
        → (p : SpaceOnDevice) × ((get_or (volume_in d).entries i None ≡ Some p) × (p.name ≡ e.name))
    at-file None is at = absurd is
    at-file (Some f) is at = (placed_of (entry_view e) f, (at, refl))

pub entry-unused : (d : Disk) (i : ℕ) (entries : List (Option TableEntry)) (e : Option TableEntry) → entries_view entries ≡ (part_of d.table).entries → i < 16 → e ≡ get_or entries i e → e ≡ None
    → get_or (volume_in d).entries i None ≡ None
entry-unused d i entries e is within entry none =
    let t = part_of d.table in
    let f = get_or (files_of d) i None in
    let long = sym (length-views entries) ∙ ap length is ∙ d.table.table.count in
    let named = ap (λ (l : List (Option NamedSpace)). get_or l i None) (sym is) ∙ sym (view-of entries i e (omega (arith, within, long)) entry) ∙ ap (option_map entry_view) none in
    placed-at t.entries (files_of d) i ∙ ap (λ (o : Option NamedSpace). placed_in o f) named
