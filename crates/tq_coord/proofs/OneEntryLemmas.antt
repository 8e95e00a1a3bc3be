-- One entry of a table that is used from now on, and the lists beside the table that have one element more.
use Rattle.std.proofs.Common.{◌≡◌, ◌≢◌, inl, inr, ◌<◌, ℕ, zero, suc, true, List, [], ◌∷◌, length, get_or, set, Option, Some, None, refl, sym, ◌∙◌, ap, subst, arith}
use Rattle.std.specs.Prelude.{is_some}
use Rattle.std.proofs.lemmas.Bool.{cases_lt}
use Rattle.std.proofs.lemmas.List.{get_or-set_same, get_or-set_other}
use Rattle.tq_model.specs.Reading.{NamedSpace}
use Rattle.tq_model.specs.Site.{SpaceOnDevice, entries_with, present}
use Rattle.tq_devtab.specs.Table.{with_entry}
use Rattle.tq_devtab.specs.Volume.{TablePart}
use Rattle.tq_spacefile.specs.declared.file.SpaceFile.{SpaceFile}
use Rattle.tq_coord.specs.Manager.{placed_in, placed_of, all_placed}
use Rattle.tq_coord.specs.Together.{IsFileOf, IsTogether}
use Rattle.tq_coord.proofs.PlacedLemmas.{placed-at, placed-none, placed-nothing}

-- the lowest entry that is not used
pub record IsLowest {X : Type 0} (entries : List (Option X)) (at : ℕ) : Type 0 where
  pub within : at < length entries
  pub unused : get_or entries at None ≡ None
  pub before : (i : ℕ) → i < at → is_some (get_or entries i None) ≡ true

-- what is put into the first unused entry is put into the lowest one
put_lowest : {X : Type 0} (put : X → List (Option X) → List (Option X)) → ((x : X) (xs : List (Option X)) → put x (None ∷ xs) ≡ Some x ∷ xs)
    → ((x y : X) (xs : List (Option X)) → put x (Some y ∷ xs) ≡ Some y ∷ put x xs) → (x : X) (xs : List (Option X)) (at : ℕ) → IsLowest xs at
    → put x xs ≡ set xs at (Some x)
put_lowest {X = X} put here later x [] at is = absurd (omega (arith, is.within))
put_lowest {X = X} put here later x (None ∷ xs) zero is = here x xs
put_lowest {X = X} put here later x (None ∷ xs) (suc at) is = let used = is.before 0 (omega arith) in absurd (cc)
put_lowest {X = X} put here later x (Some y ∷ xs) zero is = let unused = is.unused in absurd (cc)
put_lowest {X = X} put here later x (Some y ∷ xs) (suc at) is =
    later x y xs ∙ ap (λ (l : List (Option X)). Some y ∷ l)
    (put_lowest put here later x xs at (record { within = omega (arith, is.within); unused = is.unused; before = λ i lt. is.before (suc i) (omega arith) }))

pub entry_put : (n : NamedSpace) (entries : List (Option NamedSpace)) (at : ℕ) → IsLowest entries at → with_entry n entries ≡ set entries at (Some n)
entry_put n entries at is = put_lowest with_entry (λ x xs. refl) (λ x y xs. refl) n entries at is

pub space_put : (p : SpaceOnDevice) (entries : List (Option SpaceOnDevice)) (at : ℕ) → IsLowest entries at → entries_with p entries ≡ set entries at (Some p)
space_put p entries at is = put_lowest entries_with (λ x xs. refl) (λ x y xs. refl) p entries at is

-- what holds of each entry holds of each where one is changed in both lists
pub each_put : {X Y : Type 0} (P : Option X → Option Y → Type 0) (xs : List (Option X)) (ys : List (Option Y)) (at : ℕ) (x : Option X) (y : Option Y)
    → at < length xs → at < length ys
    → P x y → ((i : ℕ) → P (get_or xs i None) (get_or ys i None)) → (i : ℕ) → P (get_or (set xs at x) i None) (get_or (set ys at y) i None)
each_put P xs ys at x y lt also here each i = elim (cases_lt i at) [
  | inl before ↦ other (omega arith)
  | inr from ↦ elim (cases_lt at i) [
    | inl behind ↦ other (omega arith)
    | inr same ↦
        let is : at ≡ i = omega arith in
        subst (λ k. P (get_or (set xs at x) k None) (get_or (set ys at y) k None)) is
        (subst (λ o. P o (get_or (set ys at y) at None)) (sym (get_or-set_same xs at x None lt)) (subst (P x) (sym (get_or-set_same ys at y None also)) here))
  ]
]
  where
    other : i ≢ at → P (get_or (set xs at x) i None) (get_or (set ys at y) i None)
    other differs =
        subst (λ o. P o (get_or (set ys at y) i None)) (sym (get_or-set_other xs at i x None differs))
        (subst (P (get_or xs i None)) (sym (get_or-set_other ys at i y None differs)) (each i))

-- an entry of the device in memory is used where its space is there
module _ (dev : ℕ) (t : TablePart) where
  used_alike : (named : Option NamedSpace) (file : Option SpaceFile) → IsFileOf dev t named file → (is_some named ≡ is_some file)
      × (is_some (placed_in named file) ≡ is_some file)
  used_alike None None is = (refl, refl)
  used_alike None (Some f) is = absurd is
  used_alike (Some n) None is = absurd is
  used_alike (Some n) (Some f) is = (refl, refl)

  pub entry_used : (named : Option NamedSpace) (file : Option SpaceFile) → IsFileOf dev t named file → is_some named ≡ is_some file
  entry_used named file is = (used_alike named file is).0

  pub entries_lowest : (files : List (Option SpaceFile)) (at : ℕ) → IsTogether dev t files → IsLowest files at → at < length t.entries → IsLowest t.entries at
  entries_lowest files at fit is within = record {
    within = within;
    unused = not_used (get_or t.entries at None) (get_or files at None) (fit.each at) is.unused;
    before = λ i lt. (used_alike (get_or t.entries i None) (get_or files i None) (fit.each i)).0 ∙ is.before i lt;
  }
    where
      not_used : (named : Option NamedSpace) (file : Option SpaceFile) → IsFileOf dev t named file → file ≡ None → named ≡ None
      not_used None file is none = refl
      not_used (Some n) None is none = absurd is
      not_used (Some n) (Some f) is none = absurd (cc)

  pub placed_lowest : (files : List (Option SpaceFile)) (at : ℕ) → IsTogether dev t files → IsLowest files at → at < length (all_placed t.entries files)
      → IsLowest (all_placed t.entries files) at
  placed_lowest files at fit is within = record {
    within = within;
    unused = placed-at t.entries files at ∙ ap (placed_in (get_or t.entries at None)) is.unused ∙ placed-none (get_or t.entries at None);
    before = λ i lt. ap is_some (placed-at t.entries files i) ∙ (used_alike (get_or t.entries i None) (get_or files i None) (fit.each i)).1 ∙ is.before i lt;
  }

  -- there are as many spaces as used entries
  pub as_many : (named : List (Option NamedSpace)) (files : List (Option SpaceFile)) → ((i : ℕ) → IsFileOf dev t (get_or named i None) (get_or files i None))
      → length (present (all_placed named files)) ≡ length (present named)
  as_many [] files each = refl
  as_many (None ∷ named) [] each =
      ap (λ (l : List (Option SpaceOnDevice)). length (present l)) (sym (placed-nothing named)) ∙ as_many named [] (λ i. each (suc i))
  as_many (Some n ∷ named) [] each = absurd (each 0)
  as_many (None ∷ named) (None ∷ files) each = as_many named files (λ i. each (suc i))
  as_many (None ∷ named) (Some f ∷ files) each = absurd (each 0)
  as_many (Some n ∷ named) (None ∷ files) each = absurd (each 0)
  as_many (Some n ∷ named) (Some f ∷ files) each = ap suc (as_many named files (λ i. each (suc i)))

-- the spaces of a table in which one entry is used from now on
pub placed_put : (named : List (Option NamedSpace)) (files : List (Option SpaceFile)) (at : ℕ) (n : NamedSpace) (f : SpaceFile) → at < length named
    → at < length files
    → all_placed (set named at (Some n)) (set files at (Some f)) ≡ set (all_placed named files) at (Some (placed_of n f))
placed_put [] files at n f lt also = absurd (omega (arith, lt))
placed_put (o ∷ named) [] at n f lt also = absurd (omega (arith, also))
placed_put (o ∷ named) (x ∷ files) zero n f lt also = refl
placed_put (o ∷ named) (x ∷ files) (suc at) n f lt also =
    ap (λ (l : List (Option SpaceOnDevice)). placed_in o x ∷ l) (placed_put named files at n f (omega (arith, lt)) (omega (arith, also)))

-- where all entries are used, as many stand there
pub all_used : {X : Type 0} (xs : List (Option X)) → ((i : ℕ) → i < length xs → is_some (get_or xs i None) ≡ true) → length (present xs) ≡ length xs
all_used [] each = refl
all_used (None ∷ xs) each = let used = each 0 (omega arith) in absurd (cc)
all_used (Some x ∷ xs) each = ap suc (all_used xs (λ i lt. each (suc i) (omega (arith, lt))))
