-- Lists in an order, with one element inserted at its place, or removed.
use Rattle.std.proofs.Common.{◌≡◌, ◌≢◌, inl, inr, ⊎_elim, ℕ, ◌+◌, ◌-◌, ◌<◌, ◌≤◌, List, length, get_or, insert, remove, All, Contains, AllPairs, sym, ap, ◌∙◌, arith}
use Rattle.std.specs.List.{AllWithin}
use Rattle.std.proofs.lemmas.Bool.{cases_lt, cases_eq, cases_order}
use Rattle.std.proofs.lemmas.List.Edits.{length-insert, length-remove, get_or-insert_below, get_or-insert_at, get_or-insert_above, get_or-remove_below, get_or-remove_above}

module _ {X : Type 0} (xs : List X) (n : ℕ) where
  above_inserted : (y d : X) (k : ℕ) → n < k → n ≤ length xs → get_or (insert xs n y) k d ≡ get_or xs (k - 1) d
  above_inserted y d k lt le =
      let at : k ≡ k - 1 + 1 = omega arith in
      ap (λ m. get_or (insert xs n y) m d) at ∙ get_or-insert_above xs n y d (k - 1) (omega arith) le

  at_inserted : (y d : X) (k : ℕ) → k ≡ n → n ≤ length xs → get_or (insert xs n y) k d ≡ y
  at_inserted y d k same le = ap (λ m. get_or (insert xs n y) m d) same ∙ get_or-insert_at xs n y d le

  pub contains_inserted : (y : X) → n ≤ length xs → Contains (insert xs n y) y
  contains_inserted y le = let long = length-insert xs n y le in (n, omega arith, get_or-insert_at xs n y y le)

  pub contains_insert : (x y : X) → n ≤ length xs → Contains xs x → Contains (insert xs n y) x
  contains_insert x y le has =
      let long = length-insert xs n y le in
      let within = has.1 in
      ⊎_elim
      (λ below. (has.0, omega arith, get_or-insert_below xs n y x has.0 below le ∙ has.2))
      (λ above. (has.0 + 1, omega arith, get_or-insert_above xs n y x has.0 above le ∙ has.2))
      (cases_lt has.0 n)

  pub all_insert : (P : X → Type 0) (y : X) → n ≤ length xs → P y → All P xs → All P (insert xs n y)
  all_insert P y le here all k d lt =
      let long = length-insert xs n y le in
      ⊎_elim
      (λ below. rw (get_or-insert_below xs n y d k below le) (all k d (omega arith)))
      (λ from. ⊎_elim
      (λ same. rw (at_inserted y d k same le) here)
      (λ other. rw (above_inserted y d k (omega (arith, other)) le) (all (k - 1) d (omega (arith, other))))
      (cases_eq k n))
      (cases_lt k n)

  pub pairs_insert : (R : X → X → Type 0) (y : X) → n ≤ length xs → AllPairs R xs → AllWithin (λ x. R x y) xs 0 n → AllWithin (λ x. R y x) xs n (length xs)
      → AllPairs R (insert xs n y)
  pairs_insert R y le all before behind i j d lt within =
      let long = length-insert xs n y le in
      elim (cases_order j n) [
        | inr (inl j_below) ↦ rw (get_or-insert_below xs n y d i (omega arith) le, get_or-insert_below xs n y d j j_below le) (all i j d lt (omega arith))
        | inl j_same ↦ rw (get_or-insert_below xs n y d i (omega arith) le, at_inserted y d j j_same le) (before i d (omega arith) (omega arith))
        | inr (inr j_above) ↦ elim (cases_order i n) [
          | inr (inl i_below) ↦ rw (get_or-insert_below xs n y d i i_below le, above_inserted y d j j_above le) (all i (j - 1) d (omega arith) (omega arith))
          | inl i_same ↦ rw (at_inserted y d i i_same le, above_inserted y d j j_above le) (behind (j - 1) d (omega arith) (omega arith))
          | inr (inr i_above) ↦ rw (above_inserted y d i i_above le, above_inserted y d j j_above le) (all (i - 1) (j - 1) d (omega arith) (omega arith))
        ]
      ]

  pub contains_remove : (x : X) → n < length xs → get_or xs n x ≢ x → Contains xs x → Contains (remove xs n) x
  contains_remove x lt apart has =
      let long = length-remove xs n lt in
      let within = has.1 in
      ⊎_elim
      (λ below. (has.0, omega arith, get_or-remove_below xs n x has.0 below lt ∙ has.2))
      (λ from. ⊎_elim
      (λ same. absurd (apart (ap (λ k. get_or xs k x) (sym same) ∙ has.2)))
      (λ other.
      let k = has.0 - 1 in
      let next : k + 1 ≡ has.0 = omega (arith, other) in
      (k, omega (arith, other), get_or-remove_above xs n x k (omega (arith, other)) lt ∙ ap (λ m. get_or xs m x) next ∙ has.2))
      (cases_eq has.0 n))
      (cases_lt has.0 n)

  -- what is left stood before what was removed, or behind it
  pub all_remove : (P : X → Type 0) → n < length xs → ((k : ℕ) (d : X) → k < length xs → k ≢ n → P (get_or xs k d)) → All P (remove xs n)
  all_remove P lt all k d within =
      let long = length-remove xs n lt in
      ⊎_elim
      (λ below. rw (get_or-remove_below xs n d k below lt) (all k d (omega arith) (λ e. omega arith)))
      (λ from. rw (get_or-remove_above xs n d k from lt) (all (k + 1) d (omega arith) (λ e. omega arith)))
      (cases_lt k n)
