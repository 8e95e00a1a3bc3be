-- Lists with one more behind.
use Rattle.std.proofs.Common.{◌≡◌, ℕ, zero, suc, ◌+◌, ◌<◌, ◌≤◌, List, [], ◌∷◌, ◌++◌, get_or, set, length, take, drop, Option, Some, None, refl, sym, ap, ◌∙◌}
use Rattle.std.proofs.Common.{arith}
use Rattle.std.proofs.lemmas.List.{length-take, take-append-drop}
use Rattle.std.proofs.Math.Seq.{take-suc}
use Rattle.std.specs.declared.cmp.Ordering.{Ordering}
use Rattle.tq_slots.specs.SlotTable.{table_of, with_slot}

pub snoc-at : {X : Type 0} (xs : List X) (x d : X) → get_or (xs ++ x ∷ []) (length xs) d ≡ x
snoc-at [] x d = refl
snoc-at (y ∷ xs) x d = snoc-at xs x d

pub snoc-other : {X : Type 0} (xs : List X) (x d : X) (i : ℕ) → (i ≡ length xs → ⊥) → get_or (xs ++ x ∷ []) i d ≡ get_or xs i d
snoc-other [] x d zero other = absurd (other refl)
snoc-other [] x d (suc i) other = refl
snoc-other (y ∷ xs) x d zero other = refl
snoc-other (y ∷ xs) x d (suc i) other = snoc-other xs x d i (λ e. other (ap suc e))

-- nothing more is said
pub snoc-none : {X : Type 0} (xs : List (Option X)) (i : ℕ) → get_or (xs ++ None ∷ []) i None ≡ get_or xs i None
snoc-none [] zero = refl
snoc-none [] (suc i) = refl
snoc-none (y ∷ xs) zero = refl
snoc-none (y ∷ xs) (suc i) = snoc-none xs i

pub snoc-set : {X : Type 0} (xs : List X) (x y : X) → set (xs ++ x ∷ []) (length xs) y ≡ xs ++ y ∷ []
snoc-set [] x y = refl
snoc-set (z ∷ xs) x y = ap (λ l. z ∷ l) (snoc-set xs x y)

pub table-none : {K S X : Type 0} {R : K → K → Ordering} (key : S → K) (value : S → Option X) (slots : List (Option S))
    → table_of R key value (slots ++ None ∷ []) ≡ table_of R key value slots
table-none key value [] = refl
table-none key value (None ∷ slots) = table-none key value slots
table-none key value (Some s ∷ slots) = ap (with_slot (key s) (value s)) (table-none key value slots)

-- a part with the next one
pub part-more : {X : Type 0} (xs : List X) (i j : ℕ) (d : X) → i < length xs → j ≡ i + 1 → take j xs ≡ take i xs ++ get_or xs i d ∷ []
part-more xs i j d below is = let n : j ≡ suc i = omega arith in ap (λ (k : ℕ). take k xs) n ∙ take-suc xs i d below

-- the next one between a part and the rest
pub part-next : {X : Type 0} (xs : List X) (i : ℕ) (d : X) → i < length xs → xs ≡ (take i xs ++ get_or xs i d ∷ []) ++ drop (i + 1) xs
part-next xs i d below = sym (ap (λ (l : List _). l ++ drop (i + 1) xs) (sym (part-more xs i (i + 1) d below refl)) ∙ take-append-drop (i + 1) xs)

pub length-part : {X : Type 0} (xs : List X) (i : ℕ) → i ≤ length xs → length (take i xs) ≡ i
length-part xs i le = let size = length-take i xs in omega arith
