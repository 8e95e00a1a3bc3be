-- Extents with further ones behind them.
use Rattle.std.proofs.Common.{◌≡◌, ◌<◌, ◌≤◌, ℕ, zero, suc, ◌+◌, ◌-◌, ◌*◌, Bool, true, false, List, [], ◌∷◌, ◌++◌, length, get_or, take, drop, refl, sym, ap, ◌∙◌, arith}
use Rattle.std.specs.Prelude.{◌==◌, nat_le, if◌then◌else◌}
use Rattle.std.proofs.lemmas.Bool.{leb-true}
use Rattle.std.proofs.lemmas.List.{append-nil}
use Rattle.tq_model.specs.declared.answer.Extent.{Extent}
use Rattle.tq_model.specs.DeviceForm.{cluster_bytes}
use Rattle.tq_extent.proofs.ExtentLemmas.{all-get}
use Rattle.tq_devtab.specs.Table.{AreReached, as_one, joined_extents, no_extent}
use Rattle.tq_devtab.specs.Volume.{most_bytes}

-- none behind them
joined-none : (extents : List Extent) → joined_extents extents [] ≡ extents
joined-none [] = refl
joined-none (e ∷ []) = refl
joined-none (e ∷ d ∷ extents) = ap (λ (l : List Extent). e ∷ l) (joined-none (d ∷ extents))

pub joined-empty : (extents more : List Extent) → length more ≡ 0 → joined_extents extents more ≡ extents ++ more
joined-empty extents [] none = joined-none extents ∙ sym (append-nil extents)
joined-empty extents (x ∷ more) none = absurd (omega arith)

pub not-empty : (n : ℕ) (b : Bool) → b ≡ (n == 0) → b ≡ false → 1 ≤ n
not-empty zero b is none = absurd (cc)
not-empty (suc n) b is none = omega arith

-- the last one and the first further one, adjacent or not
joined-last : (extents : List Extent) (i : ℕ) (e x : Extent) (more : List Extent) (b : Bool) → length extents ≡ i + 1 → e ≡ get_or extents i no_extent
    → (e.first + e.count == x.first) ≡ b
    → joined_extents extents (x ∷ more) ≡ (if b then take i extents ++ as_one e x ∷ more else extents ++ x ∷ more)
joined-last [] i e x more b count last test = absurd (omega arith)
joined-last (d ∷ []) (suc i) e x more b count last test = absurd (omega arith)
joined-last (d ∷ []) zero e x more true count last test =
    let own : (d.first + d.count == x.first) ≡ true = ap (λ (k : Extent). k.first + k.count == x.first) (sym last) ∙ test in
    ap (λ b. if b then as_one d x ∷ more else d ∷ x ∷ more) own ∙ ap (λ (k : Extent). as_one k x ∷ more) (sym last)
joined-last (d ∷ []) zero e x more false count last test =
    let own : (d.first + d.count == x.first) ≡ false = ap (λ (k : Extent). k.first + k.count == x.first) (sym last) ∙ test in
    ap (λ b. if b then as_one d x ∷ more else d ∷ x ∷ more) own
joined-last (c ∷ d ∷ extents) zero e x more b count last test = absurd (omega arith)
joined-last (c ∷ d ∷ extents) (suc i) e x more true count last test =
    ap (λ (l : List Extent). c ∷ l) (joined-last (d ∷ extents) i e x more true (omega arith) last test)
joined-last (c ∷ d ∷ extents) (suc i) e x more false count last test =
    ap (λ (l : List Extent). c ∷ l) (joined-last (d ∷ extents) i e x more false (omega arith) last test)

module _ (extents more : List Extent) (some : 1 ≤ length extents) (other : 1 ≤ length more) where
  abbrev e : Extent
  e = get_or extents (length extents - 1) no_extent

  abbrev x : Extent
  x = get_or more 0 no_extent

  first-other : more ≡ x ∷ drop 1 more
  first-other = split more other
    where
      split : (l : List Extent) → 1 ≤ length l → l ≡ get_or l 0 no_extent ∷ drop 1 l
      split [] le = absurd (omega arith)
      split (y ∷ l) le = refl

  pub joined-apart : (e.first + e.count == x.first) ≡ false → joined_extents extents more ≡ extents ++ more
  joined-apart test =
      ap (joined_extents extents) first-other ∙ joined-last extents (length extents - 1) e x (drop 1 more) false (omega arith) refl test ∙ ap (λ (l : List Extent). extents ++ l) (sym first-other)

  pub joined-one : (e.first + e.count == x.first) ≡ true → joined_extents extents more ≡ take (length extents - 1) extents ++ as_one e x ∷ drop 1 more
  joined-one test = ap (joined_extents extents) first-other ∙ joined-last extents (length extents - 1) e x (drop 1 more) true (omega arith) refl test

-- an extent of the largest device ends by its last cluster
pub ends-low : (extents : List Extent) (i : ℕ) → AreReached most_bytes extents → i < length extents
    → (get_or extents i no_extent).first + (get_or extents i no_extent).count ≤ 8192
ends-low extents i all lt =
    let e = get_or extents i no_extent in
    let own = all-get (λ (k : Extent). nat_le (cluster_bytes * (k.first + k.count)) most_bytes) extents i no_extent all lt in
    let end = leb-true (cluster_bytes * (e.first + e.count)) most_bytes own in
    omega arith
