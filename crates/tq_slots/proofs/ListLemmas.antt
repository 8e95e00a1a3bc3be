-- What is in a list, and lists with one more, one less, or one changed.
use Rattle.std.proofs.Common.{◌≡◌, ◌⊎◌, ℕ, eqb-true, zero, suc, ◌+◌, ◌==◌, ◌||◌, not, Bool, true, false, cond, List, [], ◌∷◌, ◌++◌, map, Option, Some, None}
use Rattle.std.proofs.Common.{refl}
use Rattle.std.proofs.Common.{sym, ap, ◌∙◌, subst, arith, ⊎_elim, inl, inr, get_or}
use Rattle.std.specs.Prelude.{is_some}
use Rattle.std.specs.List.{filter, filter_map, cons_option, flat_map, find, remove, position_or_len, list_any, list_all}
use Rattle.std.proofs.lemmas.Bool.{false≢true, false_from_ne_true, cond_both, cases_Bool, and_from, and_parts, or_parts, not_from_true}
use Rattle.std.proofs.lemmas.Bool.Decides.{nat_tests}
use Rattle.tq_model.specs.Reading.{no_two}
use Rattle.tq_model.specs.Space.{change_first}
use Rattle.tq_slots.specs.SpaceOrder.{IsOneOf}

-- ---- options and tests

pub some_none : {X : Type 0} {x : X} → Some x ≡ None → ⊥
some_none h = cc

pub some_injective : {X : Type 0} {x y : X} → Some x ≡ Some y → x ≡ y
some_injective h = cc

pub no_some : {X : Type 0} (o : Option X) → is_some o ≡ false → o ≡ None
no_some None e = refl
no_some (Some x) e = cc

pub the_some : {X : Type 0} (o : Option X) → is_some o ≡ true → (x : X) × (o ≡ Some x)
the_some None e = absurd (false≢true e)
the_some (Some x) e = (x, refl)

pub eq_itself : (n : ℕ) → n == n ≡ true
eq_itself n = grind (arith, nat_tests)

pub eq_other : (i j : ℕ) → (i ≡ j → ⊥) → (i == j) ≡ false
eq_other i j other = false_from_ne_true (i == j) (λ e. other (eqb-true i j e))

-- ---- members

pub of_map : {X Y : Type 0} (f : X → Y) (xs : List X) (y : Y) → IsOneOf (map f xs) y → (x : X) × IsOneOf xs x × (f x ≡ y)
of_map f [] y h = absurd h
of_map f (x ∷ xs) y (inl e) = (x, inl refl, e)
of_map f (x ∷ xs) y (inr h) = let r = of_map f xs y h in (r.0, inr r.1, r.2)

pub to_map : {X Y : Type 0} (f : X → Y) (xs : List X) (x : X) → IsOneOf xs x → IsOneOf (map f xs) (f x)
to_map f [] x h = absurd h
to_map f (y ∷ xs) x (inl e) = inl (ap f e)
to_map f (y ∷ xs) x (inr h) = inr (to_map f xs x h)

pub of_filter : {X : Type 0} (p : X → Bool) (xs : List X) (x : X) → IsOneOf (filter p xs) x → (p x ≡ true) × IsOneOf xs x
of_filter p [] x h = absurd h
of_filter p (y ∷ xs) x h =
    cond_both (p y) (y ∷ filter p xs) (filter p xs) (λ zs. IsOneOf zs x → (p x ≡ true) × IsOneOf (y ∷ xs) x)
    (λ t g. ⊎_elim (λ e. (ap p (sym e) ∙ t, inl e)) (λ k. let r = of_filter p xs x k in (r.0, inr r.1)) g)
    (λ f g. let r = of_filter p xs x g in (r.0, inr r.1))
    h

pub to_filter : {X : Type 0} (p : X → Bool) (xs : List X) (x : X) → p x ≡ true → IsOneOf xs x → IsOneOf (filter p xs) x
to_filter p [] x t h = h
to_filter p (y ∷ xs) x t h =
    cond_both (p y) (y ∷ filter p xs) (filter p xs) (λ zs. IsOneOf zs x)
    (λ t'. ⊎_elim (λ e. inl e) (λ k. inr (to_filter p xs x t k)) h)
    (λ f. ⊎_elim (λ e. absurd (false≢true (sym f ∙ ap p e ∙ t))) (λ k. to_filter p xs x t k) h)

of_joined : {X : Type 0} (xs ys : List X) (x : X) → IsOneOf (xs ++ ys) x → IsOneOf xs x ⊎ IsOneOf ys x
of_joined [] ys x h = inr h
of_joined (y ∷ xs) ys x (inl e) = inl (inl e)
of_joined (y ∷ xs) ys x (inr h) = ⊎_elim (λ l. inl (inr l)) (λ r. inr r) (of_joined xs ys x h)

to_left : {X : Type 0} (xs ys : List X) (x : X) → IsOneOf xs x → IsOneOf (xs ++ ys) x
to_left [] ys x h = absurd h
to_left (y ∷ xs) ys x (inl e) = inl e
to_left (y ∷ xs) ys x (inr h) = inr (to_left xs ys x h)

to_right : {X : Type 0} (xs ys : List X) (x : X) → IsOneOf ys x → IsOneOf (xs ++ ys) x
to_right [] ys x h = h
to_right (y ∷ xs) ys x h = inr (to_right xs ys x h)

pub of_flat : {X Y : Type 0} (f : X → List Y) (xs : List X) (y : Y) → IsOneOf (flat_map f xs) y → (x : X) × IsOneOf xs x × IsOneOf (f x) y
of_flat f [] y h = absurd h
of_flat f (x ∷ xs) y h =
    ⊎_elim (λ l. (x, inl refl, l)) (λ r. let rest = of_flat f xs y r in (rest.0, inr rest.1, rest.2)) (of_joined (f x) (flat_map f xs) y h)

pub to_flat : {X Y : Type 0} (f : X → List Y) (xs : List X) (x : X) (y : Y) → IsOneOf xs x → IsOneOf (f x) y → IsOneOf (flat_map f xs) y
to_flat f [] x y h g = absurd h
to_flat f (z ∷ xs) x y (inl e) g = to_left (f z) (flat_map f xs) y (subst (λ w. IsOneOf (f w) y) (sym e) g)
to_flat f (z ∷ xs) x y (inr h) g = to_right (f z) (flat_map f xs) y (to_flat f xs x y h g)

pub of_filter_map : {X Y : Type 0} (h : X → Option Y) (xs : List X) (y : Y) → IsOneOf (filter_map h xs) y → (x : X) × IsOneOf xs x × (h x ≡ Some y)
of_filter_map h [] y k = absurd k
of_filter_map {X} h (x ∷ xs) y k =
    (elim (h x) as (λ o. h x ≡ o → IsOneOf (cons_option o (filter_map h xs)) y → (z : X) × IsOneOf (x ∷ xs) z × (h z ≡ Some y)) [
      | None ↦ λ e g. let r = of_filter_map h xs y g in (r.0, inr r.1, r.2)
      | Some w ↦ λ e g. ⊎_elim (λ s. (x, inl refl, e ∙ ap Some s)) (λ l. let r = of_filter_map h xs y l in (r.0, inr r.1, r.2)) g
    ]) refl k

pub to_filter_map : {X Y : Type 0} (h : X → Option Y) (xs : List X) (x : X) (y : Y) → IsOneOf xs x → h x ≡ Some y → IsOneOf (filter_map h xs) y
to_filter_map h [] x y k e = k
to_filter_map h (z ∷ xs) x y (inl s) e = subst (λ o. IsOneOf (cons_option o (filter_map h xs)) y) (sym (ap h s ∙ e)) (inl refl)
to_filter_map h (z ∷ xs) x y (inr k) e =
    let rest = to_filter_map h xs x y k e in
    (elim (h z) as (λ o. IsOneOf (cons_option o (filter_map h xs)) y) [ None ↦ rest | Some w ↦ inr rest ])

-- ---- tests over lists

pub of_find : {X : Type 0} (p : X → Bool) (xs : List X) (x : X) → find p xs ≡ Some x → IsOneOf xs x × (p x ≡ true)
of_find p [] x h = absurd (some_none (sym h))
of_find p (y ∷ xs) x h =
    cond_both (p y) (Some y) (find p xs) (λ o. o ≡ Some x → IsOneOf (y ∷ xs) x × (p x ≡ true))
    (λ t g. (inl (some_injective g), ap p (sym (some_injective g)) ∙ t))
    (λ f g. let r = of_find p xs x g in (inr r.0, r.1))
    h

pub of_any : {X : Type 0} (p : X → Bool) (xs : List X) → list_any p xs ≡ true → (x : X) × IsOneOf xs x × (p x ≡ true)
of_any p [] h = absurd (false≢true h)
of_any p (y ∷ xs) h =
    ⊎_elim (λ t. (y, inl refl, t)) (λ f. let r = of_any p xs (sym (ap (λ b. b || list_any p xs) f) ∙ h) in (r.0, inr r.1, r.2)) (cases_Bool (p y))

or_true : (b : Bool) → (b || true) ≡ true
or_true true = refl
or_true false = refl

pub to_any : {X : Type 0} (p : X → Bool) (xs : List X) (x : X) → IsOneOf xs x → p x ≡ true → list_any p xs ≡ true
to_any p [] x h e = absurd h
to_any p (y ∷ xs) x (inl s) e = ap (λ b. b || list_any p xs) (ap p s ∙ e)
to_any p (y ∷ xs) x (inr h) e = ap (λ b. p y || b) (to_any p xs x h e) ∙ or_true (p y)

pub none_of_two : {X : Type 0} (test : X → Bool) (xs ys : List X) → list_any test (xs ++ ys) ≡ false → (list_any test xs ≡ false) × (list_any test ys ≡ false)
none_of_two test [] ys e = (refl, e)
none_of_two test (x ∷ xs) ys e =
    let p = or_parts (test x) (list_any test (xs ++ ys)) e in
    let q = none_of_two test xs ys p.1 in
    (ap (λ b. b || list_any test xs) p.0 ∙ q.0, q.1)

pub to_all : {X : Type 0} (p : X → Bool) (xs : List X) → ((x : X) → IsOneOf xs x → p x ≡ true) → list_all p xs ≡ true
to_all p [] h = refl
to_all p (x ∷ xs) h = and_from (p x) (list_all p xs) (h x (inl refl)) (to_all p xs (λ y k. h y (inr k)))

pub of_all : {X : Type 0} (p : X → Bool) (xs : List X) (x : X) → list_all p xs ≡ true → IsOneOf xs x → p x ≡ true
of_all p [] x all h = absurd h
of_all p (y ∷ xs) x all (inl e) = ap p (sym e) ∙ (and_parts (p y) (list_all p xs) all).0
of_all p (y ∷ xs) x all (inr h) = of_all p xs x (and_parts (p y) (list_all p xs) all).1 h

pub no_two_parts : {X : Type 0} (test : X → X → Bool) (x : X) (xs : List X) → no_two test (x ∷ xs) ≡ true
    → ((y : X) → IsOneOf xs y → test x y ≡ true → ⊥) × (no_two test xs ≡ true)
no_two_parts test x xs h =
    let p = and_parts (list_all (λ y. not (test x y)) xs) (no_two test xs) h in
    (λ y k e. false≢true (sym (not_from_true (test x y) e) ∙ of_all (λ z. not (test x z)) xs y p.0 k), p.1)

-- ---- one changed, one less

pub of_changed : {X : Type 0} (test : X → Bool) (change : X → X) (xs : List X) (z : X) → IsOneOf (change_first test change xs) z
    → IsOneOf xs z ⊎ ((x : X) × IsOneOf xs x × (test x ≡ true) × (change x ≡ z))
of_changed test change [] z h = absurd h
of_changed {X} test change (x ∷ xs) z h =
    cond_both (test x) (change x ∷ xs) (x ∷ change_first test change xs)
    (λ ys. IsOneOf ys z → IsOneOf (x ∷ xs) z ⊎ ((y : X) × IsOneOf (x ∷ xs) y × (test y ≡ true) × (change y ≡ z)))
    (λ t g. ⊎_elim (λ e. inr (x, inl refl, t, e)) (λ k. inl (inr k)) g)
    (λ f g. ⊎_elim (λ e. inl (inl e)) (λ k. ⊎_elim (λ l. inl (inr l)) (λ r. inr (r.0, inr r.1, r.2, r.3)) (of_changed test change xs z k)) g)
    h

-- the list without the first that passes
pub without_first : {X : Type 0} (p : X → Bool) (x : X) (xs : List X)
    → remove (x ∷ xs) (position_or_len p (x ∷ xs)) ≡ cond (p x) xs (x ∷ remove xs (position_or_len p xs))
without_first p x xs =
    let more : 1 + position_or_len p xs ≡ suc (position_or_len p xs) = omega arith in
    (elim (p x) as (λ b. remove (x ∷ xs) (cond (not b) (1 + position_or_len p xs) 0) ≡ cond b xs (x ∷ remove xs (position_or_len p xs))) [
      | true ↦ refl
      | false ↦ ap (λ (n : ℕ). remove (x ∷ xs) n) more
    ])

pub of_removed : {X : Type 0} (xs : List X) (at : ℕ) (z : X) → IsOneOf (remove xs at) z → IsOneOf xs z
of_removed [] zero z h = h
of_removed [] (suc at) z h = h
of_removed (x ∷ xs) zero z h = inr h
of_removed (x ∷ xs) (suc at) z h = ⊎_elim (λ e. inl e) (λ k. inr (of_removed xs at z k)) h

-- what stands at a place is in the list that is one longer one place further on
pub further : {S : Type 0} (x : Option S) (slots : List (Option S)) (n : ℕ) → get_or slots n None ≡ get_or (x ∷ slots) (1 + n) None
further x slots n = let e : suc n ≡ 1 + n = omega arith in ap (λ (k : ℕ). get_or (x ∷ slots) k None) e
