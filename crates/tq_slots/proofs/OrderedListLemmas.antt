-- Lists in order: what keeps them so, and that they are known by their members.
use Rattle.std.proofs.Common.{◌≡◌, ◌⊎◌, ℕ, zero, suc, ◌+◌, not, Bool, true, false, cond, List, [], ◌∷◌, Ordering, Less, Equal, Greater, refl, sym, ap, ◌∙◌}
use Rattle.std.proofs.Common.{subst, arith, ⊎_elim, inl, inr}
use Rattle.std.specs.List.{insert, remove, position_or_len}
use Rattle.std.specs.Ordering.{is_lt}
use Rattle.std.specs.Cmp.{IsTotalOrder}
use Rattle.std.proofs.lemmas.Bool.{false≢true, cond_both, cases_Bool}
use Rattle.std.proofs.lemmas.Cmp.{tied_itself}
use Rattle.tq_model.specs.Space.{change_first}
use Rattle.tq_slots.specs.SpaceOrder.{IsOneOf, IsAscending, in_place, in_order}
use Rattle.tq_slots.proofs.ListLemmas.{of_changed, of_removed, without_first}

-- the order tells them apart
abbrev pub AreApart : {X : Type 0} → (X → X → Ordering) → X → X → Type 0
AreApart R x y = (R x y ≡ Less) ⊎ (R y x ≡ Less)

abbrev pub AreAllApart : {X : Type 0} → (X → X → Ordering) → List X → Type 0
AreAllApart {X} R [] = Unit {0}
AreAllApart {X} R (x ∷ xs) = ((z : X) → IsOneOf xs z → AreApart R x z) × AreAllApart R xs

is_before : (r : Ordering) → is_lt r ≡ true → r ≡ Less
is_before Less e = refl
is_before Equal e = cc
is_before Greater e = cc

pub less_equal : Less ≡ Equal → ⊥
less_equal h = cc

-- one more in its place
pub in_place-cons : {X : Type 0} (R : X → X → Ordering) (x y : X) (ys : List X)
    → in_place R x (y ∷ ys) ≡ cond (is_lt (R x y)) (x ∷ y ∷ ys) (y ∷ in_place R x ys)
in_place-cons R x y ys =
    let at = position_or_len (λ z. is_lt (R x z)) ys in
    let more : 1 + at ≡ suc at = omega arith in
    (elim (is_lt (R x y)) as (λ b. insert (y ∷ ys) (cond (not b) (1 + at) 0) x ≡ cond b (x ∷ y ∷ ys) (y ∷ in_place R x ys)) [
      | true ↦ refl
      | false ↦ ap (λ (n : ℕ). insert (y ∷ ys) n x) more
    ])

pub ascending_apart : {X : Type 0} (R : X → X → Ordering) (xs : List X) (x y : X) → IsAscending R xs → IsOneOf xs x → IsOneOf xs y → (x ≡ y) ⊎ AreApart R x y
ascending_apart R [] x y up a b = absurd a
ascending_apart R (z ∷ xs) x y up (inl e) (inl f) = inl (sym e ∙ f)
ascending_apart R (z ∷ xs) x y up (inl e) (inr b) = inr (inl (ap (λ w. R w y) (sym e) ∙ up.0 y b))
ascending_apart R (z ∷ xs) x y up (inr a) (inl f) = inr (inr (ap (λ w. R w x) (sym f) ∙ up.0 x a))
ascending_apart R (z ∷ xs) x y up (inr a) (inr b) = ascending_apart R xs x y up.1 a b

pub removed_ascending : {X : Type 0} (R : X → X → Ordering) (xs : List X) (at : ℕ) → IsAscending R xs → IsAscending R (remove xs at)
removed_ascending R [] zero up = up
removed_ascending R [] (suc at) up = up
removed_ascending R (x ∷ xs) zero up = up.1
removed_ascending R (x ∷ xs) (suc at) up = (λ z h. up.0 z (of_removed xs at z h), removed_ascending R xs at up.1)

-- one is changed in a way that the order does not see
pub changed_ascending : {X : Type 0} (R : X → X → Ordering) (test : X → Bool) (change : X → X) (xs : List X)
    → ((x z : X) → IsOneOf xs x → test x ≡ true → R (change x) z ≡ R x z) → ((x z : X) → IsOneOf xs x → test x ≡ true → R z (change x) ≡ R z x)
    → IsAscending R xs → IsAscending R (change_first test change xs)
changed_ascending R test change [] left right up = tt
changed_ascending R test change (x ∷ xs) left right up =
    cond_both (test x) (change x ∷ xs) (x ∷ change_first test change xs) (IsAscending R)
    (λ t. (λ z h. left x z (inl refl) t ∙ up.0 z h, up.1))
    (λ f. (
      λ z h. ⊎_elim (λ k. up.0 z k) (λ r. ap (R x) (sym r.3) ∙ right r.0 x (inr r.1) r.2 ∙ up.0 r.0 r.1) (of_changed test change xs z h),
      changed_ascending R test change xs (λ y z k. left y z (inr k)) (λ y z k. right y z (inr k)) up.1,
    ))

module _ {X : Type 0} {R : X → X → Ordering} (o : IsTotalOrder R) where
  pub not_below_itself : (x : X) → R x x ≡ Less → ⊥
  not_below_itself x h = less_equal (sym h ∙ tied_itself o x)

  not_both : (x y : X) → R x y ≡ Less → R y x ≡ Less → ⊥
  not_both x y h g = let t = o.antisymm x y in cc

  -- where one alone passes a test, none is left that does
  pub only_one_passes : (p : X → Bool) (xs : List X) → IsAscending R xs → ((x y : X) → IsOneOf xs x → IsOneOf xs y → p x ≡ true → p y ≡ true → x ≡ y)
      → (z : X) → IsOneOf (remove xs (position_or_len p xs)) z → p z ≡ true → ⊥
  only_one_passes p [] up one z h t = absurd h
  only_one_passes p (x ∷ xs) up one z h t =
      cond_both (p x) xs (x ∷ remove xs (position_or_len p xs)) (λ ys. IsOneOf ys z → ⊥)
      (λ e g. not_below_itself x (ap (R x) (one x z (inl refl) (inr g) e t) ∙ up.0 z g))
      (λ e g. ⊎_elim (λ s. false≢true (sym e ∙ ap p s ∙ t)) (λ k. only_one_passes p xs up.1 (λ y w h' k'. one y w (inr h') (inr k')) z k t) g)
      (subst (λ ys. IsOneOf ys z) (without_first p x xs) h)

  -- where one alone passes a test, what has not changed does not pass it
  pub of_changed_one : (test : X → Bool) (change : X → X) (xs : List X) → IsAscending R xs
      → ((x y : X) → IsOneOf xs x → IsOneOf xs y → test x ≡ true → test y ≡ true → x ≡ y)
      → (z : X) → IsOneOf (change_first test change xs) z → (IsOneOf xs z × (test z ≡ false)) ⊎ ((x : X) × IsOneOf xs x × (test x ≡ true) × (change x ≡ z))
  of_changed_one test change [] up one z h = absurd h
  of_changed_one test change (x ∷ xs) up one z h =
      cond_both (test x) (change x ∷ xs) (x ∷ change_first test change xs)
      (λ ys. IsOneOf ys z → (IsOneOf (x ∷ xs) z × (test z ≡ false)) ⊎ ((y : X) × IsOneOf (x ∷ xs) y × (test y ≡ true) × (change y ≡ z)))
      (λ t g. ⊎_elim
      (λ e. inr (x, inl refl, t, e))
      (λ k. ⊎_elim (λ t'. absurd (not_below_itself x (ap (R x) (one x z (inl refl) (inr k) t t') ∙ up.0 z k))) (λ f. inl (inr k, f)) (cases_Bool (test z)))
      g)
      (λ f g. ⊎_elim
      (λ e. inl (inl e, ap test (sym e) ∙ f))
      (λ k. ⊎_elim (λ l. inl (inr l.0, l.1)) (λ r. inr (r.0, inr r.1, r.2, r.3))
      (of_changed_one test change xs up.1 (λ y w h' k'. one y w (inr h') (inr k')) z k))
      g)
      h

  -- ---- lists with the same members

  same_first : (x y : X) (xs ys : List X) → IsOneOf (y ∷ ys) x → IsOneOf (x ∷ xs) y → ((z : X) → IsOneOf ys z → R y z ≡ Less)
      → ((z : X) → IsOneOf xs z → R x z ≡ Less) → x ≡ y
  same_first x y xs ys (inl e) b f g = sym e
  same_first x y xs ys (inr a) (inl e) f g = e
  same_first x y xs ys (inr a) (inr b) f g = absurd (not_both x y (g y b) (f x a))

  in_rest : (x y : X) (xs ys : List X) → x ≡ y → ((z : X) → IsOneOf xs z → R x z ≡ Less) → ((z : X) → IsOneOf (x ∷ xs) z → IsOneOf (y ∷ ys) z)
      → (z : X) → IsOneOf xs z → IsOneOf ys z
  in_rest x y xs ys e first all z one =
      ⊎_elim (λ same. absurd (not_below_itself x (ap (R x) (e ∙ same) ∙ first z one))) (λ there. there) (all z (inr one))

  pub one_list : (xs ys : List X) → IsAscending R xs → IsAscending R ys → ((z : X) → IsOneOf xs z → IsOneOf ys z) → ((z : X) → IsOneOf ys z → IsOneOf xs z)
      → xs ≡ ys
  one_list [] [] a b f g = refl
  one_list [] (y ∷ ys) a b f g = absurd (g y (inl refl))
  one_list (x ∷ xs) [] a b f g = absurd (f x (inl refl))
  one_list (x ∷ xs) (y ∷ ys) a b f g =
      let e = same_first x y xs ys (f x (inl refl)) (g y (inl refl)) b.0 a.0 in
      let rest = one_list xs ys a.1 b.1 (in_rest x y xs ys e a.0 f) (in_rest y x ys xs (sym e) b.0 g) in
      λ i. e i ∷ rest i

  -- ---- one more in its place

  pub of_placed : (x : X) (xs : List X) (z : X) → IsOneOf (in_place R x xs) z → (x ≡ z) ⊎ IsOneOf xs z
  of_placed x [] z h = h
  of_placed x (y ∷ ys) z h =
      cond_both (is_lt (R x y)) (x ∷ y ∷ ys) (y ∷ in_place R x ys) (λ zs. IsOneOf zs z → (x ≡ z) ⊎ IsOneOf (y ∷ ys) z)
      (λ t g. g)
      (λ f g. ⊎_elim (λ e. inr (inl e)) (λ k. ⊎_elim (λ e. inl e) (λ j. inr (inr j)) (of_placed x ys z k)) g)
      (subst (λ zs. IsOneOf zs z) (in_place-cons R x y ys) h)

  pub to_placed : (x : X) (xs : List X) (z : X) → (x ≡ z) ⊎ IsOneOf xs z → IsOneOf (in_place R x xs) z
  to_placed x [] z h = h
  to_placed x (y ∷ ys) z h =
      subst (λ zs. IsOneOf zs z) (sym (in_place-cons R x y ys)) (cond_both (is_lt (R x y)) (x ∷ y ∷ ys) (y ∷ in_place R x ys) (λ zs. IsOneOf zs z)
      (λ t. h)
      (λ f. ⊎_elim (λ e. inr (to_placed x ys z (inl e))) (λ k. ⊎_elim (λ e. inl e) (λ j. inr (to_placed x ys z (inr j))) k) h))

  pub placed_ascending : (x : X) (xs : List X) → IsAscending R xs → ((z : X) → IsOneOf xs z → AreApart R x z) → IsAscending R (in_place R x xs)
  placed_ascending x [] up apart = (λ z h. absurd h, tt)
  placed_ascending x (y ∷ ys) up apart =
      subst (IsAscending R) (sym (in_place-cons R x y ys)) (cond_both (is_lt (R x y)) (x ∷ y ∷ ys) (y ∷ in_place R x ys) (IsAscending R)
      (λ t.
      let first = is_before (R x y) t in
      (λ z h. ⊎_elim (λ same. ap (R x) (sym same) ∙ first) (λ there. o.trans x y z first (up.0 z there)) h, up))
      (λ f.
      let back : R y x ≡ Less = ⊎_elim (λ h. absurd (false≢true (sym f ∙ ap is_lt h))) (λ h. h) (apart y (inl refl)) in (
        λ z h. ⊎_elim (λ same. ap (R y) (sym same) ∙ back) (λ there. up.0 z there) (of_placed x ys z h),
        placed_ascending x ys up.1 (λ z h. apart z (inr h)),
      )))

  -- ---- all put in order

  pub of_in_order : (xs : List X) (z : X) → IsOneOf (in_order R xs) z → IsOneOf xs z
  of_in_order [] z h = h
  of_in_order (x ∷ xs) z h = ⊎_elim (λ e. inl e) (λ there. inr (of_in_order xs z there)) (of_placed x (in_order R xs) z h)

  pub to_in_order : (xs : List X) (z : X) → IsOneOf xs z → IsOneOf (in_order R xs) z
  to_in_order [] z h = h
  to_in_order (x ∷ xs) z h = to_placed x (in_order R xs) z (⊎_elim (λ e. inl e) (λ there. inr (to_in_order xs z there)) h)

  pub in_order_ascending : (xs : List X) → AreAllApart R xs → IsAscending R (in_order R xs)
  in_order_ascending [] apart = tt
  in_order_ascending (x ∷ xs) apart = placed_ascending x (in_order R xs) (in_order_ascending xs apart.1) (λ z h. apart.0 z (of_in_order xs z h))
