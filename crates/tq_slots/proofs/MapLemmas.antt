-- Maps, by what is found in them.
use Rattle.std.proofs.Common.{◌≡◌, ◌+◌, Bool, true, false, cond, Option, Some, None, Ordering, Less, Equal, Greater, refl, sym, ap, ◌∙◌, arith, ⊎_elim}
use Rattle.std.specs.Prelude.{is_some}
use Rattle.std.specs.Cmp.{IsTotalOrder}
use Rattle.std.specs.Ordering.{eq_by_cmp, is_eq}
use Rattle.std.proofs.lemmas.Cmp.{tied_itself}
use Rattle.std.proofs.lemmas.Bool.{cases_Bool}
use Rattle.std.specs.FinMap.{FinMap, get, insert, remove, len, IsAntisymmetric, same_map, get-insert, get-remove, len-insert}
use Rattle.tq_slots.proofs.ListLemmas.{some_none}

equal_true : (r : Ordering) → is_eq r ≡ true → r ≡ Equal
equal_true Less e = cc
equal_true Equal e = refl
equal_true Greater e = cc

pub same_keys : {K : Type 0} {R : K → K → Ordering} → IsAntisymmetric R → (q k : K) → eq_by_cmp R q k ≡ true → q ≡ k
same_keys {R = R} same q k e = same q k (equal_true (R q k) e)

pub key_itself : {K : Type 0} {R : K → K → Ordering} → IsTotalOrder R → (k : K) → eq_by_cmp R k k ≡ true
key_itself o k = ap is_eq (tied_itself o k)

none_before : {X : Type 0} (b : Bool) (x : X) (o r : Option X) → r ≡ cond b (Some x) o → r ≡ None → o ≡ None
none_before true x o r e h = cc
none_before false x o r e h = cc

module _ {K X : Type 0} {R : K → K → Ordering} (o : IsTotalOrder R) (same : IsAntisymmetric R) (m : FinMap R X) (k : K) where
  pub get_inserted : (x : X) → get (insert m k x) k ≡ Some x
  get_inserted x = get-insert o m k x k ∙ ap (λ b. cond b (Some x) (get m k)) (key_itself o k)

  pub get_inserted_other : (x : X) (q : K) → eq_by_cmp R q k ≡ false → get (insert m k x) q ≡ get m q
  get_inserted_other x q e = get-insert o m k x q ∙ ap (λ b. cond b (Some x) (get m q)) e

  pub get_removed : get (remove m k) k ≡ None
  get_removed = get-remove o m k k ∙ ap (λ b. cond b None (get m k)) (key_itself o k)

  pub get_removed_other : (q : K) → eq_by_cmp R q k ≡ false → get (remove m k) q ≡ get m q
  get_removed_other q e = get-remove o m k q ∙ ap (λ b. cond b None (get m q)) e

  pub none_inserted : (x : X) (q : K) → get (insert m k x) q ≡ None → get m q ≡ None
  none_inserted x q h = none_before (eq_by_cmp R q k) x (get m q) _ (get-insert o m k x q) h

  pub get_other : (j : K) (x y : X) → get m k ≡ None → get m j ≡ Some y → get (insert m k x) j ≡ Some y
  get_other j x y new there =
      ⊎_elim (λ e. absurd (some_none (sym there ∙ ap (get m) (same_keys same j k e) ∙ new))) (λ e. get_inserted_other x j e ∙ there)
      (cases_Bool (eq_by_cmp R j k))

  pub still_none : (j : K) (x y : X) → get m k ≡ None → get (insert m k x) j ≡ None → get (insert m j y) k ≡ None
  still_none j x y new new' =
      get-insert o m j y k ∙ ⊎_elim
      (λ e. absurd (some_none (sym (ap (get (insert m k x)) (sym (same_keys same k j e)) ∙ get_inserted x) ∙ new')))
      (λ e. rw e new)
      (cases_Bool (eq_by_cmp R k j))

  -- ---- one map and another

  pub remove-insert_new : (x : X) → get m k ≡ None → remove (insert m k x) k ≡ m
  remove-insert_new x new = same_map o same _ _ (λ q. grind (arith, get-insert {X = X} o, get-remove {X = X} o, same_keys {R = R} same q k))

  pub remove-insert_other : (j : K) (x y : X) → get m k ≡ None → get m j ≡ Some y → remove (insert m k x) j ≡ insert (remove m j) k x
  remove-insert_other j x y new there =
      same_map o same _ _ (λ q. grind (arith, get-insert {X = X} o, get-remove {X = X} o, same_keys {R = R} same q k, same_keys {R = R} same q j))

  pub insert-insert_other : (j : K) (x y : X) → get (insert m k x) j ≡ None → insert (insert m k x) j y ≡ insert (insert m j y) k x
  insert-insert_other j x y new =
      same_map o same _ _ (λ q. grind (arith, get-insert {X = X} o, same_keys {R = R} same q k, same_keys {R = R} same q j))

  pub insert-removed : (x : X) → insert (remove m k) k x ≡ insert m k x
  insert-removed x = same_map o same _ _ (λ q. grind (arith, get-insert {X = X} o, get-remove {X = X} o))

  insert_there : (x : X) → get m k ≡ Some x → insert m k x ≡ m
  insert_there x at = same_map o same _ _ (λ q. grind (arith, get-insert {X = X} o, same_keys {R = R} same q k))

  pub len_without : (x : X) → get m k ≡ Some x → len (remove m k) + 1 ≡ len m
  len_without x at =
      sym (len-insert o (remove m k) k x ∙ ap (λ v. cond (is_some v) (len (remove m k)) (len (remove m k) + 1)) get_removed)
      ∙ ap len (insert-removed x ∙ insert_there x at)
