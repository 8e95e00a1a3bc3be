-- The sets between two lists of slots lead from the one to the other.
use Rattle.std.proofs.Common.{◌≡◌, ℕ, zero, suc, ◌+◌, ◌<◌, ◌≤◌, Bool, true, List, [], ◌∷◌, ◌++◌, map, length, set, refl, sym, ap, ◌∙◌, arith, ⊎_elim, Less}
use Rattle.std.specs.Ordering.{nat_cmp}
use Rattle.std.proofs.lemmas.Bool.{cond_both}
use Rattle.std.proofs.lemmas.Bool.Decides.{nat_tests}
use Rattle.tq_slots.specs.SpaceOrder.{IsOneOf, IsAscending}
use Rattle.tq_slots.specs.SlotSets.{sets_from, sets_between, with_sets, by_index, AreMadeBySets, set_read}

set-joined : {X : Type 0} (front : List X) (x y : X) (rest : List X) (i : ℕ) → i ≡ length front → set (front ++ x ∷ rest) i y ≡ front ++ y ∷ rest
set-joined [] x y rest i at = ap (λ (n : ℕ). set (x ∷ rest) n y) at
set-joined (z ∷ front) x y rest i at = ap (λ (n : ℕ). set (z ∷ (front ++ x ∷ rest)) n y) at ∙ ap (λ r. z ∷ r) (set-joined front x y rest (length front) refl)

length_pushed : {X : Type 0} (front : List X) (x : X) → length (front ++ x ∷ []) ≡ length front + 1
length_pushed [] x = refl
length_pushed (z ∷ front) x = omega (arith, length_pushed front x)

push-joined : {X : Type 0} (front : List X) (x : X) (rest : List X) → (front ++ x ∷ []) ++ rest ≡ front ++ x ∷ rest
push-joined [] x rest = refl
push-joined (z ∷ front) x rest = ap (λ r. z ∷ r) (push-joined front x rest)

less_is : (i j : ℕ) → i + 1 ≤ j → nat_cmp i j ≡ Less
less_is i j h = grind (arith, nat_tests)

module _ {X : Type 0} (same : X → X → Bool) where
  with_sets_from : ((x y : X) → same x y ≡ true → x ≡ y) → (front before after : List X) (i : ℕ) → i ≡ length front → length before ≡ length after
      → with_sets (sets_from same i before after) (front ++ before) ≡ front ++ after
  with_sets_from exact front [] [] i at long = refl
  with_sets_from exact front [] (y ∷ after) i at long = absurd (omega arith)
  with_sets_from exact front (x ∷ before) [] i at long = absurd (omega arith)
  with_sets_from exact front (x ∷ before) (y ∷ after) i at long =
      let rest = sets_from same (i + 1) before after in
      let next : i + 1 ≡ length (front ++ y ∷ []) = omega (arith, length_pushed front y) in
      let on : with_sets rest (front ++ y ∷ before) ≡ front ++ y ∷ after =
      ap (with_sets rest) (sym (push-joined front y before)) ∙ with_sets_from exact (front ++ y ∷ []) before after (i + 1) next (omega arith)
      ∙ push-joined front y after in
      cond_both (same x y) rest ((i, y) ∷ rest) (λ sets. with_sets sets (front ++ x ∷ before) ≡ front ++ y ∷ after)
      (λ e. ap (λ z. with_sets rest (front ++ z ∷ before)) (exact x y e) ∙ on)
      (λ e. ap (with_sets rest) (set-joined front x y before i at) ∙ on)

  with_sets_between : ((x y : X) → same x y ≡ true → x ≡ y) → (before after : List X) → length before ≡ length after
      → with_sets (sets_between same before after) before ≡ after
  with_sets_between exact before after long = with_sets_from exact [] before after 0 refl long

  at_least : (before after : List X) (i : ℕ) (z : ℕ × X) → IsOneOf (sets_from same i before after) z → i ≤ z.0
  at_least [] after i z h = absurd h
  at_least (x ∷ before) [] i z h = absurd h
  at_least (x ∷ before) (y ∷ after) i z h =
      let rest = sets_from same (i + 1) before after in
      let on : IsOneOf rest z → i ≤ z.0 = λ k. let l = at_least before after (i + 1) z k in omega arith in
      cond_both (same x y) rest ((i, y) ∷ rest) (λ sets. IsOneOf sets z → i ≤ z.0)
      (λ e. on)
      (λ e g. ⊎_elim (λ one. let l : i ≡ z.0 = ap (λ (w : ℕ × X). w.0) one in omega arith) on g)
      h

  sets_ascend : (before after : List X) (i : ℕ) → IsAscending by_index (sets_from same i before after)
  sets_ascend [] after i = tt
  sets_ascend (x ∷ before) [] i = tt
  sets_ascend (x ∷ before) (y ∷ after) i =
      let rest = sets_from same (i + 1) before after in
      let up = sets_ascend before after (i + 1) in
      cond_both (same x y) rest ((i, y) ∷ rest) (IsAscending by_index) (λ e. up) (λ e. (λ z h. less_is i z.0 (at_least before after (i + 1) z h), up))

  below_all : (before after : List X) (i : ℕ) (z : ℕ × X) → IsOneOf (sets_from same i before after) z → z.0 < i + length before
  below_all [] after i z h = absurd h
  below_all (x ∷ before) [] i z h = absurd h
  below_all (x ∷ before) (y ∷ after) i z h =
      let rest = sets_from same (i + 1) before after in
      let on : IsOneOf rest z → z.0 < i + suc (length before) = λ k. let l = below_all before after (i + 1) z k in omega arith in
      cond_both (same x y) rest ((i, y) ∷ rest) (λ sets. IsOneOf sets z → z.0 < i + suc (length before))
      (λ e. on)
      (λ e g. ⊎_elim (λ one. let l : i ≡ z.0 = ap (λ (w : ℕ × X). w.0) one in omega arith) on g)
      h

  at_most_all : (before after : List X) (i : ℕ) → length (sets_from same i before after) ≤ length before
  at_most_all [] after i = omega arith
  at_most_all (x ∷ before) [] i = omega arith
  at_most_all (x ∷ before) (y ∷ after) i =
      let rest = sets_from same (i + 1) before after in
      let most = at_most_all before after (i + 1) in
      cond_both (same x y) rest ((i, y) ∷ rest) (λ sets. length sets ≤ suc (length before)) (λ e. omega arith) (λ e. omega arith)

pub made_by_sets : {X : Type 0} (before after : List X) → length before ≡ length after → AreMadeBySets before after
made_by_sets before after long same exact = (
  sets_ascend same before after 0,
  λ z h. let l = below_all same before after 0 z h in omega arith,
  at_most_all same before after 0,
  with_sets_between same exact before after long,
)

-- ---- what sets of bytes say

map-set : {B X : Type 0} (read : B → X) (slots : List B) (i : ℕ) (b : B) → map read (set slots i b) ≡ set (map read slots) i (read b)
map-set read [] i b = refl
map-set read (c ∷ slots) zero b = refl
map-set read (c ∷ slots) (suc i) b = ap (λ r. read c ∷ r) (map-set read slots i b)

pub with_sets-read : {B X : Type 0} (read : B → X) (sets : List (ℕ × B)) (slots : List B)
    → map read (with_sets sets slots) ≡ with_sets (map (set_read read) sets) (map read slots)
with_sets-read read [] slots = refl
with_sets-read read (s ∷ sets) slots =
    with_sets-read read sets (set slots s.0 s.1) ∙ ap (with_sets (map (set_read read) sets)) (map-set read slots s.0 s.1)
