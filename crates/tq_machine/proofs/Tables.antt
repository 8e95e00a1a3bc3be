-- The spaces in a table.
use Rattle.std.proofs.Common.{◌≡◌, ℕ, ◌+◌, ◌-◌, ◌<◌, true, false, cond, suc, List, [], ◌∷◌, ◌++◌, map, take, get_or, set, length, refl, sym, ap, ◌∙◌, arith, Option, Some, None, length-append}
use Rattle.std.specs.Prelude.{◌==◌, option_to_list, IsSome, MatchOption}
use Rattle.std.specs.List.{find, position, position_or_len, sum_by}
use Rattle.std.proofs.lemmas.Bool.{eq-eqb, eqb-true}
use Rattle.std.proofs.lemmas.List.{take_more, map-append, get_or-set_same, get_or-set_other, set_past}
use Rattle.std.proofs.lemmas.List.Sums.{sum_by-append}
use Rattle.std.proofs.lemmas.List.Quantifiers.{position-Some}
use Rattle.std.proofs.lemmas.List.Elements.{filter_map-append}
use Rattle.tq_model.specs.Site.{SpaceOnDevice, present, has_name, entries_with}
use Rattle.tq_machine.specs.Tables.{is_placed, is_unused}
use Rattle.tq_model.specs.Space.{change_first}
use Rattle.tq_model.proofs.Places.{change_first-at, position-found, find-found, find-none, position-none}

present-single : {X : Type 0} (o : Option X) → present (o ∷ []) ≡ option_to_list o
present-single None = refl
present-single (Some x) = refl

-- one entry more
pub present-more : {X : Type 0} (xs : List (Option X)) (at : ℕ) (d : Option X) → at < length xs → present (take (at + 1) xs) ≡ present (take at xs) ++ option_to_list (get_or xs at d)
present-more xs at d within =
    ap present (take_more xs at d within) ∙ filter_map-append (λ o. o) (take at xs) (get_or xs at d ∷ []) ∙ ap (λ l. present (take at xs) ++ l) (present-single (get_or xs at d))

pub count-more : {X : Type 0} (count : ℕ) (xs : List (Option X)) (at : ℕ) (d : Option X) → at < length xs → count ≡ length (present (take at xs))
    → count + length (option_to_list (get_or xs at d)) ≡ length (present (take (at + 1) xs))
count-more count xs at d within is =
    let more = ap length (present-more xs at d within) ∙ length-append (present (take at xs)) (option_to_list (get_or xs at d)) in
    omega arith

-- what is found is what stands at the first place
abbrev found-in : Option (Option SpaceOnDevice) → Option SpaceOnDevice
found-in None = None
found-in (Some o) = o

find-present : (name : List ℕ) (xs : List (Option SpaceOnDevice)) → find (has_name name) (present xs) ≡ found-in (find (is_placed name) xs)
find-present name [] = refl
find-present name (None ∷ xs) = find-present name xs
find-present name (Some p ∷ xs) =
    elim (has_name name p) as (λ b. cond b (Some p) (find (has_name name) (present xs)) ≡ found-in (cond b (Some (Some p)) (find (is_placed name) xs))) [
      | true ↦ refl
      | false ↦ find-present name xs
    ]

passes-some : (name : List ℕ) (o : Option SpaceOnDevice) → is_placed name o ≡ true → IsSome o
passes-some name None h = cc
passes-some name (Some p) h = refl

-- the place of a space of that name is where it is found
pub entry-found : (name : List ℕ) (xs : List (Option SpaceOnDevice)) (r : Option ℕ) → r ≡ position (is_placed name) xs
    → MatchOption r (find (has_name name) (present xs) ≡ None) (λ at. (find (has_name name) (present xs) ≡ get_or xs at None) × IsSome (get_or xs at None))
entry-found name xs None is =
    find-present name xs ∙ ap found-in (find-none (is_placed name) xs (position-none (is_placed name) xs (sym is)))
entry-found name xs (Some at) is =
    let passes = position-Some (is_placed name) xs at None (sym is) in
    (find-present name xs ∙ ap found-in (find-found (is_placed name) xs at None (sym is)), passes-some name (get_or xs at None) passes.1)

-- what is left without the spaces of one entry more
pub left-more : (g : SpaceOnDevice → ℕ) (n left : ℕ) (xs : List (Option SpaceOnDevice)) (at : ℕ) (d : Option SpaceOnDevice) → at < length xs → left ≡ n - sum_by g (present (take at xs))
    → left - sum_by g (option_to_list (get_or xs at d)) ≡ n - sum_by g (present (take (at + 1) xs))
left-more g n left xs at d within is =
    let sum : sum_by g (present (take (at + 1) xs)) ≡ sum_by g (present (take at xs)) + sum_by g (option_to_list (get_or xs at d)) =
    ap (sum_by g) (present-more xs at d within) ∙ sum_by-append g (present (take at xs)) (option_to_list (get_or xs at d)) in
    omega arith

-- one line more
pub lines-more : {Y : Type 0} (f : SpaceOnDevice → Y) (lines : List Y) (xs : List (Option SpaceOnDevice)) (at : ℕ) (d : Option SpaceOnDevice) → at < length xs → lines ≡ map f (present (take at xs))
    → lines ++ map f (option_to_list (get_or xs at d)) ≡ map f (present (take (at + 1) xs))
lines-more f lines xs at d within is =
    ap (λ l. l ++ map f (option_to_list (get_or xs at d))) is ∙ sym (ap (map f) (present-more xs at d within) ∙ map-append f (present (take at xs)) (option_to_list (get_or xs at d)))

-- a space is entered at the first place that is not used
entered-first : (p : SpaceOnDevice) (xs : List (Option SpaceOnDevice)) → change_first is_unused (λ o. Some p) xs ≡ entries_with p xs
entered-first p [] = refl
entered-first p (None ∷ xs) = refl
entered-first p (Some q ∷ xs) = ap (λ l. Some q ∷ l) (entered-first p xs)

entered-place : (p : SpaceOnDevice) (xs : List (Option SpaceOnDevice)) → entries_with p xs ≡ set xs (position_or_len is_unused xs) (Some p)
entered-place p xs = sym (entered-first p xs) ∙ change_first-at is_unused (λ o. Some p) None xs

pub entered-at : (p : SpaceOnDevice) (xs : List (Option SpaceOnDevice)) (at : ℕ) → position is_unused xs ≡ Some at → set xs at (Some p) ≡ entries_with p xs
entered-at p xs at is = sym (entered-place p xs ∙ ap (λ n. set xs n (Some p)) (position-found is_unused xs at is).0)

pub entered-nowhere : (p : SpaceOnDevice) (xs : List (Option SpaceOnDevice)) → position is_unused xs ≡ None → entries_with p xs ≡ xs
entered-nowhere p xs is = entered-place p xs ∙ set_past xs (position_or_len is_unused xs) (Some p) (position-none is_unused xs is)

pub length-entries_with : (p : SpaceOnDevice) (xs : List (Option SpaceOnDevice)) → length (entries_with p xs) ≡ length xs
length-entries_with p [] = refl
length-entries_with p (None ∷ xs) = refl
length-entries_with p (Some q ∷ xs) = ap suc (length-entries_with p xs)

-- what stands in a list without one place
pub beside-single : {X : Type 0} (xs : List (Option X)) (dev at : ℕ) (d : Option X) → at < length xs → length (option_to_list (cond (at == dev) None (get_or xs at d))) ≡ length (option_to_list (get_or (set xs dev None) at d))
beside-single {X = X} xs dev at d within =
    elim (at == dev) as (λ b. (at == dev) ≡ b → length (option_to_list (cond b None (get_or xs at d))) ≡ length (option_to_list (get_or (set xs dev None) at d))) [
      | true ↦ λ is. let same = eqb-true at dev is in ap (λ (o : Option X). length (option_to_list o)) (sym (ap (λ n. get_or (set xs n None) at d) (sym same) ∙ get_or-set_same xs at None d within))
      | false ↦ λ is. ap (λ (o : Option X). length (option_to_list o)) (sym (get_or-set_other xs dev at None d (λ same. let no = sym is ∙ eq-eqb at dev same in cc)))
    ] refl
