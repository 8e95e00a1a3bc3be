-- What a table in slots says after some of its slots have changed.
use Rattle.std.proofs.Common.{◌≡◌, ◌⊎◌, ◌==◌, eqb-true, ℕ, zero, suc, ◌+◌, ◌<◌, ◌≤◌, Bool}
use Rattle.std.proofs.Common.{true, false, not, ◌||◌, cond, List, [], ◌∷◌, Option, Some, None, Ordering}
use Rattle.std.proofs.Common.{length, get_or, set, refl, sym, ap, ◌∙◌, subst, arith, ⊎_elim, inl, inr}
use Rattle.std.specs.Prelude.{is_some, option_map}
use Rattle.std.specs.Cmp.{IsTotalOrder}
use Rattle.std.specs.Ordering.{eq_by_cmp}
use Rattle.std.specs.List.{list_all}
use Rattle.std.proofs.lemmas.Bool.{cases_Bool, false≢true, and_from, and_parts, not_from_false, false_from_ne_true}
use Rattle.tq_model.specs.Reading.{no_two}
use Rattle.tq_slots.specs.SpaceOrder.{IsOneOf}
use Rattle.tq_slots.specs.QueueSlots.{used_slots}
use Rattle.std.proofs.lemmas.List.{set-set, length-set, get_or-set_same, get_or-set_other}
use Rattle.std.specs.FinMap.{FinMap, empty, get, insert, remove, len, IsAntisymmetric, same_map, get-empty}
use Rattle.tq_slots.specs.SlotTable.{with_value, with_slot, table_of, place_of, lowest_empty, with_slot_renewed, with_key_renewed, with_slot_entered}
use Rattle.tq_slots.specs.SlotTable.{with_key_entered, each, slots_for, is_one_of, ChangesOnly}
use Rattle.tq_slots.proofs.ListLemmas.{some_none, some_injective, eq_itself, no_some, the_some, further, to_all, no_two_parts}
use Rattle.tq_slots.proofs.MapLemmas.{same_keys, get_inserted, get_inserted_other, get_removed, get_removed_other, none_inserted, get_other, still_none}
use Rattle.tq_slots.proofs.MapLemmas.{remove-insert_new, remove-insert_other, insert-insert_other, insert-removed, len_without}

-- ---- one slot in front

-- how a slot and the slots behind it have come to say m
pub record Parts {K X : Type 0} {R : K → K → Ordering} (k : K) (v : Option X) (t : Option (FinMap R X)) (m : FinMap R X) : Type 0 where
  pub rest : FinMap R X
  pub value : X
  pub says : v ≡ Some value
  pub table : t ≡ Some rest
  pub new : get rest k ≡ None
  pub is : m ≡ insert rest k value

value_parts : {K X : Type 0} {R : K → K → Ordering} (k : K) (v : Option X) (rest m : FinMap R X) (b : Bool) → is_some (get rest k) ≡ b
    → with_value k v b rest ≡ Some m → Parts k v (Some rest) m
value_parts k None rest m b e h = cc
value_parts k (Some x) rest m true e h = cc
value_parts k (Some x) rest m false e h = record { rest = rest; value = x; says = refl; table = refl; new = no_some (get rest k) e; is = cc }

pub parts : {K X : Type 0} {R : K → K → Ordering} (k : K) (v : Option X) (t : Option (FinMap R X)) (m : FinMap R X) → with_slot k v t ≡ Some m → Parts k v t m
parts k v None m h = cc
parts k v (Some rest) m h = value_parts k v rest m (is_some (get rest k)) refl h

added : {K X : Type 0} {R : K → K → Ordering} (k : K) (v : Option X) (t : Option (FinMap R X)) (m : FinMap R X) (x : X) → v ≡ Some x → t ≡ Some m
    → get m k ≡ None
    → with_slot k v t ≡ Some (insert m k x)
added k v t m x says table new =
    ap (λ o. with_slot k v o) table ∙ ap (λ o. with_value k o (is_some (get m k)) m) says ∙ ap (λ o. with_value k (Some x) (is_some o) m) new

-- what slots say depends only on what those that are used say
pub table_same : {K S X : Type 0} {R : K → K → Ordering} (key : S → K) (value value' : S → Option X) (slots : List (Option S))
    → ((i : ℕ) (s : S) → get_or slots i None ≡ Some s → value' s ≡ value s) → table_of R key value' slots ≡ table_of R key value slots
table_same key value value' [] same = refl
table_same key value value' (None ∷ slots) same = table_same key value value' slots (λ i s e. same (suc i) s e)
table_same key value value' (Some s ∷ slots) same = λ j. with_slot (key s) (same 0 s refl j) (table_same key value value' slots (λ i t e. same (suc i) t e) j)

-- ---- one slot anywhere

-- what the slots say once one is emptied
pub record Empties {K S X : Type 0} {R : K → K → Ordering} (key : S → K) (value : S → Option X) (slots : List (Option S)) (i : ℕ) (s : S)
    (m : FinMap R X) : Type 0 where
  pub old : X
  pub says : value s ≡ Some old
  pub had : get m (key s) ≡ Some old
  pub table : table_of R key value (set slots i None) ≡ Some (remove m (key s))

within_some : {S : Type 0} (slots : List (Option S)) (i : ℕ) (s : S) → get_or slots i None ≡ Some s → i < length slots
within_some [] i s e = cc
within_some (x ∷ slots) zero s e = omega arith
within_some (x ∷ slots) (suc i) s e = omega (arith, within_some slots i s e)

module _ {K S X : Type 0} {R : K → K → Ordering} (o : IsTotalOrder R) (same : IsAntisymmetric R) (key : S → K) (value : S → Option X) where
  pub emptied : (slots : List (Option S)) (i : ℕ) (s : S) (m : FinMap R X) → table_of R key value slots ≡ Some m → get_or slots i None ≡ Some s
      → Empties key value slots i s m
  emptied [] i s m t at = cc
  emptied (None ∷ slots) zero s m t at = cc
  emptied (Some r ∷ slots) zero s m t at =
      let p = parts (key r) (value r) (table_of R key value slots) m t in
      let e : s ≡ r = cc in
      let m_is : m ≡ insert p.rest (key s) p.value = p.is ∙ ap (λ z. insert p.rest (key z) p.value) (sym e) in
      let new : get p.rest (key s) ≡ None = ap (λ z. get p.rest (key z)) e ∙ p.new in
      record {
        old = p.value;
        says = ap value e ∙ p.says;
        had = ap (λ n. get n (key s)) m_is ∙ get_inserted o same p.rest (key s) p.value;
        table = p.table ∙ ap Some (sym (ap (λ n. remove n (key s)) m_is ∙ remove-insert_new o same p.rest (key s) p.value new));
      }
  emptied (None ∷ slots) (suc i) s m t at =
      let h = emptied slots i s m t at in
      record { old = h.old; says = h.says; had = h.had; table = h.table }
  emptied (Some r ∷ slots) (suc i) s m t at =
      let p = parts (key r) (value r) (table_of R key value slots) m t in
      let h = emptied slots i s p.rest p.table at in
      let apart : get (remove p.rest (key s)) (key r) ≡ None =
      ⊎_elim
      (λ e. ap (get (remove p.rest (key s))) (same_keys same (key r) (key s) e) ∙ get_removed o same p.rest (key s))
      (λ e. get_removed_other o same p.rest (key s) (key r) e ∙ p.new)
      (cases_Bool (eq_by_cmp R (key r) (key s))) in
      record {
        old = h.old;
        says = h.says;
        had = ap (λ n. get n (key s)) p.is ∙ get_other o same p.rest (key r) (key s) p.value h.old p.new h.had;
        table =
            added (key r) (value r) _ (remove p.rest (key s)) p.value p.says h.table apart
            ∙ ap Some (sym (ap (λ n. remove n (key s)) p.is ∙ remove-insert_other o same p.rest (key r) (key s) p.value h.old p.new h.had));
      }

  -- an empty slot gets a new key
  pub filled : (slots : List (Option S)) (i : ℕ) (s : S) (x : X) (m : FinMap R X) → table_of R key value slots ≡ Some m → i < length slots
      → get_or slots i None ≡ None
      → value s ≡ Some x → get m (key s) ≡ None → table_of R key value (set slots i (Some s)) ≡ Some (insert m (key s) x)
  filled [] i s x m t within at says new = absurd (omega arith)
  filled (None ∷ slots) zero s x m t within at says new = added (key s) (value s) _ m x says t new
  filled (Some r ∷ slots) zero s x m t within at says new = cc
  filled (None ∷ slots) (suc i) s x m t within at says new = filled slots i s x m t (omega arith) at says new
  filled (Some r ∷ slots) (suc i) s x m t within at says new =
      let p = parts (key r) (value r) (table_of R key value slots) m t in
      let new' : get (insert p.rest (key r) p.value) (key s) ≡ None = ap (λ n. get n (key s)) (sym p.is) ∙ new in
      let h = filled slots i s x p.rest p.table (omega arith) at says (none_inserted o same p.rest (key r) p.value (key s) new') in
      added (key r) (value r) _ (insert p.rest (key s) x) p.value p.says h (still_none o same p.rest (key r) (key s) p.value x p.new new')
      ∙ ap Some (sym (ap (λ n. insert n (key s) x) p.is ∙ insert-insert_other o same p.rest (key r) (key s) p.value x new'))

  -- a slot changes, and keeps its key
  refilled : (slots : List (Option S)) (i : ℕ) (s s' : S) (x : X) (m : FinMap R X) → table_of R key value slots ≡ Some m → get_or slots i None ≡ Some s
      → key s' ≡ key s → value s' ≡ Some x → table_of R key value (set slots i (Some s')) ≡ Some (insert m (key s) x)
  refilled slots i s s' x m t at alike says =
      let e = emptied slots i s m t at in
      let within : i < length slots = within_some slots i s at in
      ap (table_of R key value) (sym (set-set slots i None (Some s')))
      ∙ filled (set slots i None) i s' x (remove m (key s)) e.table (subst (λ (n : ℕ). i < n) (sym (length-set slots i None)) within)
      (get_or-set_same slots i None None within) says
      (ap (get (remove m (key s))) alike ∙ get_removed o same m (key s))
      ∙ ap Some (ap (λ k. insert (remove m (key s)) k x) alike ∙ insert-removed o same m (key s) x)

  -- ---- the slot of a key

  pub has_its_key : (slots : List (Option S)) (k : K) (s : S) → get_or slots (place_of R key k slots) None ≡ Some s → key s ≡ k
  has_its_key [] k s at = cc
  has_its_key (None ∷ slots) k s at = has_its_key slots k s (further None slots (place_of R key k slots) ∙ at)
  has_its_key (Some r ∷ slots) k s at =
      (elim (eq_by_cmp R k (key r)) as (λ b. eq_by_cmp R k (key r) ≡ b → get_or (Some r ∷ slots) (cond (not b) (1 + place_of R key k slots) 0) None ≡ Some s
      → key s ≡ k) [
        | true ↦ λ e h. ap key (sym (some_injective h)) ∙ sym (same_keys same k (key r) e)
        | false ↦ λ e h. has_its_key slots k s (further (Some r) slots (place_of R key k slots) ∙ h)
      ]) refl at

  -- of a key that has no slot nothing is said
  pub missing : (slots : List (Option S)) (k : K) (m : FinMap R X) → table_of R key value slots ≡ Some m → get_or slots (place_of R key k slots) None ≡ None
      → get m k ≡ None
  missing [] k m t at = ap (λ n. get n k) (sym (some_injective t)) ∙ get-empty R k
  missing (None ∷ slots) k m t at = missing slots k m t (further None slots (place_of R key k slots) ∙ at)
  missing (Some r ∷ slots) k m t at =
      let p = parts (key r) (value r) (table_of R key value slots) m t in
      (elim (eq_by_cmp R k (key r)) as (λ b. eq_by_cmp R k (key r) ≡ b → get_or (Some r ∷ slots) (cond (not b) (1 + place_of R key k slots) 0) None ≡ None
      → get m k ≡ None) [
        | true ↦ λ e h. absurd (some_none h)
        | false ↦ λ e h.
            ap (λ n. get n k) p.is ∙ get_inserted_other o same p.rest (key r) p.value k e ∙ missing slots k p.rest p.table
            (further (Some r) slots (place_of R key k slots) ∙ h)
      ]) refl at

-- ---- what is said, slot by slot

module _ {K S X : Type 0} {R : K → K → Ordering} (o : IsTotalOrder R) (same : IsAntisymmetric R) (key : S → K) (value : S → Option X) where
  -- what a slot says is in the table
  pub said_there : (slots : List (Option S)) (s : S) (m : FinMap R X) → table_of R key value slots ≡ Some m → IsOneOf (used_slots slots) s
      → (x : X) × (value s ≡ Some x) × (get m (key s) ≡ Some x)
  said_there [] s m t h = absurd h
  said_there (None ∷ slots) s m t h = said_there slots s m t h
  said_there (Some r ∷ slots) s m t (inl e) =
      let h = emptied o same key value (Some r ∷ slots) 0 s m t (ap Some e) in
      (h.old, h.says, h.had)
  said_there (Some r ∷ slots) s m t (inr h) =
      let p = parts (key r) (value r) (table_of R key value slots) m t in
      let rest = said_there slots s p.rest p.table h in
      (rest.0, rest.1, ap (λ n. get n (key s)) p.is ∙ get_other o same p.rest (key r) (key s) p.value rest.0 p.new rest.2)

  -- what is in the table a slot says
  pub there_said : (slots : List (Option S)) (k : K) (x : X) (m : FinMap R X) → table_of R key value slots ≡ Some m → get m k ≡ Some x
      → (s : S) × IsOneOf (used_slots slots) s × (value s ≡ Some x) × (key s ≡ k)
  there_said [] k x m t at = absurd (some_none (sym at ∙ ap (λ n. get n k) (sym (some_injective t)) ∙ get-empty R k))
  there_said (None ∷ slots) k x m t at = there_said slots k x m t at
  there_said (Some r ∷ slots) k x m t at =
      let p = parts (key r) (value r) (table_of R key value slots) m t in
      ⊎_elim
      (λ e.
      let here : get m k ≡ Some p.value = ap (get m) (same_keys same k (key r) e) ∙ ap (λ n. get n (key r)) p.is ∙ get_inserted o same p.rest (key r) p.value in
      (r, inl refl, p.says ∙ sym here ∙ at, sym (same_keys same k (key r) e)))
      (λ e.
      let rest = there_said slots k x p.rest p.table (sym (get_inserted_other o same p.rest (key r) p.value k e) ∙ ap (λ n. get n k) (sym p.is) ∙ at) in
      (rest.0, inr rest.1, rest.2, rest.3))
      (cases_Bool (eq_by_cmp R k (key r)))

  not_behind : (u : S) (slots : List (Option S)) (m : FinMap R X) → table_of R key value (Some u ∷ slots) ≡ Some m → (j : ℕ) (r : S)
      → get_or slots j None ≡ Some r
      → key u ≡ key r → ⊥
  not_behind u slots m t j r at alike =
      let p = parts (key u) (value u) (table_of R key value slots) m t in
      let h = emptied o same key value slots j r p.rest p.table at in
      some_none (sym h.had ∙ ap (get p.rest) (sym alike) ∙ p.new)

  -- two slots of one key are one
  pub one_place : (slots : List (Option S)) (m : FinMap R X) → table_of R key value slots ≡ Some m → (i j : ℕ) (s r : S)
      → get_or slots i None ≡ Some s → get_or slots j None ≡ Some r → key s ≡ key r → i ≡ j
  one_place [] m t i j s r a b alike = cc
  one_place (None ∷ slots) m t zero j s r a b alike = cc
  one_place (None ∷ slots) m t (suc i) zero s r a b alike = cc
  one_place (None ∷ slots) m t (suc i) (suc j) s r a b alike = ap suc (one_place slots m t i j s r a b alike)
  one_place (Some u ∷ slots) m t zero zero s r a b alike = refl
  one_place (Some u ∷ slots) m t zero (suc j) s r a b alike = absurd (not_behind u slots m t j r b (ap key (some_injective a) ∙ alike))
  one_place (Some u ∷ slots) m t (suc i) zero s r a b alike = absurd (not_behind u slots m t i s a (ap key (some_injective b) ∙ sym alike))
  one_place (Some u ∷ slots) m t (suc i) (suc j) s r a b alike =
      let p = parts (key u) (value u) (table_of R key value slots) m t in
      ap suc (one_place slots p.rest p.table i j s r a b alike)

  pub all_say : (slots : List (Option S)) (m : FinMap R X) → table_of R key value slots ≡ Some m → list_all (λ s. is_some (value s)) (used_slots slots) ≡ true
  all_say slots m t = to_all (λ s. is_some (value s)) (used_slots slots) (λ s h. ap is_some (said_there slots s m t h).1)

  pub keys_differ : (test : S → S → Bool) → ((s r : S) → test s r ≡ true → key s ≡ key r) → (slots : List (Option S)) (m : FinMap R X)
      → table_of R key value slots ≡ Some m
      → no_two test (used_slots slots) ≡ true
  keys_differ test exact [] m t = refl
  keys_differ test exact (None ∷ slots) m t = keys_differ test exact slots m t
  keys_differ test exact (Some r ∷ slots) m t =
      let p = parts (key r) (value r) (table_of R key value slots) m t in
      and_from (list_all (λ s. not (test r s)) (used_slots slots)) (no_two test (used_slots slots))
      (to_all (λ s. not (test r s)) (used_slots slots) (λ s h. not_from_false (test r s) (false_from_ne_true (test r s) (λ e.
      some_none (sym (said_there slots s p.rest p.table h).2 ∙ ap (get p.rest) (sym (exact r s e)) ∙ p.new)))))
      (keys_differ test exact slots p.rest p.table)

  -- slots of different keys that all say something have a table
  pub table_there : (test : S → S → Bool) → ((s r : S) → key s ≡ key r → test s r ≡ true) → (slots : List (Option S))
      → list_all (λ s. is_some (value s)) (used_slots slots) ≡ true
      → no_two test (used_slots slots) ≡ true → (m : FinMap R X) × (table_of R key value slots ≡ Some m)
  table_there test finds [] say differ = (empty, refl)
  table_there test finds (None ∷ slots) say differ = table_there test finds slots say differ
  table_there test finds (Some r ∷ slots) say differ =
      let two = no_two_parts test r (used_slots slots) differ in
      let both = and_parts (is_some (value r)) (list_all (λ s. is_some (value s)) (used_slots slots)) say in
      let rest = table_there test finds slots both.1 two.1 in
      let x = the_some (value r) both.0 in
      let new : get rest.0 (key r) ≡ None =
      (elim (get rest.0 (key r)) as (λ o. get rest.0 (key r) ≡ o → o ≡ None) [
        | None ↦ λ e. refl
        | Some y ↦ λ e.
            let s = there_said slots (key r) y rest.0 rest.1 e in
            absurd (two.0 s.0 s.1 (finds r s.0 (sym s.3)))
      ]) refl in
      (insert rest.0 (key r) x.0, added (key r) (value r) (table_of R key value slots) rest.0 x.0 x.1 rest.1 new)

-- ---- room

used : {S : Type 0} → List (Option S) → ℕ
used [] = 0
used (None ∷ slots) = used slots
used (Some s ∷ slots) = 1 + used slots

empty_there : {S : Type 0} (slots : List (Option S)) → get_or slots (lowest_empty slots) None ≡ None
empty_there [] = refl
empty_there (None ∷ slots) = refl
empty_there (Some s ∷ slots) = sym (further (Some s) slots (lowest_empty slots)) ∙ empty_there slots

lowest_within : {S : Type 0} (slots : List (Option S)) → used slots < length slots → lowest_empty slots < length slots
unfolding used
lowest_within [] room = room
lowest_within (None ∷ slots) room = omega arith
lowest_within (Some s ∷ slots) room = omega (arith, lowest_within slots (omega arith))

-- each key has in the one map what it has in the other, or nothing
abbrev IsPart : {K X : Type 0} {R : K → K → Ordering} → FinMap R X → FinMap R X → Type 0
IsPart {K} m n = (q : K) → (get m q ≡ get n q) ⊎ (get m q ≡ None)

module _ {K S X : Type 0} {R : K → K → Ordering} (o : IsTotalOrder R) (same : IsAntisymmetric R) (key : S → K) (value : S → Option X) where
  used_at_most : (slots : List (Option S)) (m n : FinMap R X) → table_of R key value slots ≡ Some m → IsPart m n → used slots ≤ len n
  unfolding used
  used_at_most [] m n t part = omega arith
  used_at_most (None ∷ slots) m n t part = used_at_most slots m n t part
  used_at_most (Some r ∷ slots) m n t part =
      let p = parts (key r) (value r) (table_of R key value slots) m t in
      let k = key r in
      let here : get m k ≡ Some p.value = ap (λ a. get a k) p.is ∙ get_inserted o same p.rest k p.value in
      let there : get n k ≡ Some p.value = ⊎_elim (λ e. sym e ∙ here) (λ e. absurd (some_none (sym here ∙ e))) (part k) in
      let rest = used_at_most slots p.rest (remove n k) p.table (λ q. ⊎_elim
      (λ e. inr (ap (get p.rest) (same_keys same q k e) ∙ p.new))
      (λ e.
      let left : get m q ≡ get p.rest q = ap (λ a. get a q) p.is ∙ get_inserted_other o same p.rest k p.value q e in
      ⊎_elim (λ s. inl (sym left ∙ s ∙ sym (get_removed_other o same n k q e))) (λ s. inr (sym left ∙ s)) (part q))
      (cases_Bool (eq_by_cmp R q k))) in
      omega (arith, len_without o same n k p.value there)

-- ---- keys that are written

-- what the slots say after one key is written
pub record Says {K S X : Type 0} {R : K → K → Ordering} (key : S → K) (value : S → Option X) (k : K) (Here : Option X → Type 0) (slots : List (Option S))
    (m : FinMap R X) : Type 0 where
  pub now : FinMap R X
  pub table : table_of R key value slots ≡ Some now
  pub here : Here (get now k)
  pub other : (q : K) → eq_by_cmp R q k ≡ false → get now q ≡ get m q

module _ {K S X : Type 0} {R : K → K → Ordering} (key : S → K) (write : K → X → S) (after : FinMap R X) where
  length_each_renewed : (ks : List K) (slots : List (Option S)) → length (each (with_key_renewed key write after) ks slots) ≡ length slots
  length_each_renewed [] slots = refl
  length_each_renewed (k ∷ ks) slots =
      let i = place_of R key k slots in
      let new = option_map (write k) (get after k) in
      length_each_renewed ks (with_key_renewed key write after k slots)
      ∙ (elim (get_or slots i None) as (λ at. length (with_slot_renewed i at new slots) ≡ length slots) [ None ↦ refl | Some s ↦ length-set slots i new ])

  length_entered : (k : K) (slots : List (Option S)) → length (with_key_entered key write after k slots) ≡ length slots
  length_entered k slots =
      let new = option_map (write k) (get after k) in
      (elim (get_or slots (place_of R key k slots) None) as (λ at. length (with_slot_entered at new slots) ≡ length slots) [
        | Some s ↦ refl
        | None ↦ (elim new as (λ v. length (with_slot_entered None v slots) ≡ length slots) [
          | None ↦ refl
          | Some s ↦ length-set slots (lowest_empty slots)
              (Some s)
        ])
      ])

  length_each_entered : (ks : List K) (slots : List (Option S)) → length (each (with_key_entered key write after) ks slots) ≡ length slots
  length_each_entered [] slots = refl
  length_each_entered (k ∷ ks) slots = length_each_entered ks (with_key_entered key write after k slots) ∙ length_entered k slots

  pub length_slots_for : (ks : List K) (slots : List (Option S)) → length (slots_for key write after ks slots) ≡ length slots
  length_slots_for ks slots = length_each_entered ks (each (with_key_renewed key write after) ks slots) ∙ length_each_renewed ks slots

module _ {K S X : Type 0} {R : K → K → Ordering} (o : IsTotalOrder R) (same : IsAntisymmetric R) (key : S → K) (value : S → Option X) (write : K → X → S)
    (after : FinMap R X)
    (keys : (k : K) (x : X) → get after k ≡ Some x → key (write k x) ≡ k)
    (values : (k : K) (x : X) → get after k ≡ Some x → value (write k x) ≡ Some x) where
  -- a key that has a slot
  renews : (k : K) (slots : List (Option S)) (m : FinMap R X) → table_of R key value slots ≡ Some m
      → Says key value k (λ v. (v ≡ get after k) ⊎ ((v ≡ None) × (get m k ≡ None))) (with_key_renewed key write after k slots) m
  renews k slots m t =
      let i = place_of R key k slots in
      let Here : Option X → Type 0 = λ v. (v ≡ get after k) ⊎ ((v ≡ None) × (get m k ≡ None)) in
      (elim (get_or slots i None) as (λ at. get_or slots i None ≡ at → Says key value k Here
      (with_slot_renewed i at (option_map (write k) (get after k)) slots) m) [
        | None ↦ λ e. record { now = m; table = t; here = (let gone = missing o same key value slots k m t e in inr (gone, gone)); other = λ q n. refl }
        | Some s ↦ λ e.
            let its = has_its_key o same key value slots k s e in
            (elim (get after k) as (λ v. get after k ≡ v → Says key value k Here (set slots i (option_map (write k) v)) m) [
              | None ↦ λ a.
                  record {
                    now = remove m k;
                    table = (emptied o same key value slots i s m t e).table ∙ ap (λ j. Some (remove m j)) its;
                    here = inl (get_removed o same m k ∙ sym a);
                    other = λ q n. get_removed_other o same m k q n;
                  }
              | Some x ↦ λ a.
                  record {
                    now = insert m k x;
                    table = refilled o same key value slots i s (write k x) x m t e (keys k x a ∙ sym its) (values k x a) ∙ ap (λ j. Some (insert m j x)) its;
                    here = inl (get_inserted o same m k x ∙ sym a);
                    other = λ q n. get_inserted_other o same m k x q n;
                  }
            ]) refl
      ]) refl

  room_for : (slots : List (Option S)) (m : FinMap R X) (k : K) (x : X) → table_of R key value slots ≡ Some m → IsPart m after
      → get m k ≡ None → get after k ≡ Some x → len after ≤ length slots → lowest_empty slots < length slots
  room_for slots m k x t part gone a room =
      let fewer = used_at_most o same key value slots m (remove after k) t (λ q.
      ⊎_elim
      (λ e. inr (ap (get m) (same_keys same q k e) ∙ gone))
      (λ e. ⊎_elim (λ s. inl (s ∙ sym (get_removed_other o same after k q e))) (λ s. inr s) (part q))
      (cases_Bool (eq_by_cmp R q k))) in
      lowest_within slots (omega (arith, len_without o same after k x a))

  -- a key that comes to have one
  enters : (k : K) (slots : List (Option S)) (m : FinMap R X) → table_of R key value slots ≡ Some m → IsPart m after → len after ≤ length slots
      → Says key value k (λ v. v ≡ get after k) (with_key_entered key write after k slots) m
  enters k slots m t part room =
      let i = place_of R key k slots in
      let Here : Option X → Type 0 = λ v. v ≡ get after k in
      (elim (get_or slots i None) as (λ at. get_or slots i None ≡ at → Says key value k Here
      (with_slot_entered at (option_map (write k) (get after k)) slots) m) [
        | Some s ↦ λ e.
            let h = emptied o same key value slots i s m t e in
            let there : get m k ≡ Some h.old = ap (get m) (sym (has_its_key o same key value slots k s e)) ∙ h.had in
            record { now = m; table = t; here = ⊎_elim (λ s. s) (λ none. absurd (some_none (sym there ∙ none))) (part k); other = λ q n. refl }
        | None ↦ λ e.
            let gone = missing o same key value slots k m t e in
            (elim (get after k) as (λ v. get after k ≡ v → Says key value k Here (with_slot_entered None (option_map (write k) v) slots) m) [
              | None ↦ λ a. record { now = m; table = t; here = gone ∙ sym a; other = λ q n. refl }
              | Some x ↦ λ a.
                  let its = keys k x a in
                  record {
                    now = insert m k x;
                    table =
                        filled o same key value slots (lowest_empty slots) (write k x) x m t (room_for slots m k x t part gone a room) (empty_there slots)
                        (values k x a) (ap (get m) its ∙ gone)
                        ∙ ap (λ j. Some (insert m j x)) its;
                    here = get_inserted o same m k x ∙ sym a;
                    other = λ q n. get_inserted_other o same m k x q n;
                  }
            ]) refl
      ]) refl

  -- ---- one key after another

  all_renewed : (ks all : List K) (slots : List (Option S)) (m : FinMap R X) → table_of R key value slots ≡ Some m
      → ((q : K) → (get m q ≡ get after q) ⊎ (((is_one_of R ks q ≡ true) ⊎ (get m q ≡ None)) × (is_one_of R all q ≡ true)))
      → (now : FinMap R X) × (table_of R key value (each (with_key_renewed key write after) ks slots) ≡ Some now)
      × ((q : K) → (get now q ≡ get after q) ⊎ ((get now q ≡ None) × (is_one_of R all q ≡ true)))
  all_renewed [] all slots m t ahead = (m, t, λ q. ⊎_elim (λ s. inl s) (λ h. inr (⊎_elim (λ f. absurd (false≢true f)) (λ gone. gone) h.0, h.1)) (ahead q))
  all_renewed (k ∷ ks) all slots m t ahead =
      let r = renews k slots m t in
      all_renewed ks all (with_key_renewed key write after k slots) r.now r.table (λ q. ⊎_elim
      (λ e.
      let qk = same_keys same q k e in
      ⊎_elim
      (λ s. inl (ap (get r.now) qk ∙ s ∙ ap (get after) (sym qk)))
      (λ gone. ⊎_elim (λ s. inl (ap (get r.now) qk ∙ gone.0 ∙ sym (ap (get m) qk ∙ gone.1) ∙ s)) (λ h. inr (inr (ap (get r.now) qk ∙ gone.0), h.1)) (ahead q))
      r.here)
      (λ e. ⊎_elim
      (λ s. inl (r.other q e ∙ s))
      (λ h. inr (⊎_elim (λ named. inl (sym (ap (λ b. b || is_one_of R ks q) e) ∙ named)) (λ gone. inr (r.other q e ∙ gone)) h.0, h.1))
      (ahead q))
      (cases_Bool (eq_by_cmp R q k)))

  all_entered : (ks : List K) (slots : List (Option S)) (m : FinMap R X) → table_of R key value slots ≡ Some m → len after ≤ length slots
      → ((q : K) → (get m q ≡ get after q) ⊎ ((get m q ≡ None) × (is_one_of R ks q ≡ true)))
      → table_of R key value (each (with_key_entered key write after) ks slots) ≡ Some after
  all_entered [] slots m t room ahead = t ∙ ap Some (same_map o same m after (λ q. ⊎_elim (λ s. s) (λ h. absurd (false≢true h.1)) (ahead q)))
  all_entered (k ∷ ks) slots m t room ahead =
      let r = enters k slots m t (λ q. ⊎_elim (λ s. inl s) (λ h. inr h.0) (ahead q)) room in
      all_entered ks (with_key_entered key write after k slots) r.now r.table
      (subst (λ (n : ℕ). len after ≤ n) (sym (length_entered key write after k slots)) room) (λ q. ⊎_elim
      (λ e. let qk = same_keys same q k e in inl (ap (get r.now) qk ∙ r.here ∙ ap (get after) (sym qk)))
      (λ e. ⊎_elim (λ s. inl (r.other q e ∙ s)) (λ h. inr (r.other q e ∙ h.0, sym (ap (λ b. b || is_one_of R ks q) e) ∙ h.1)) (ahead q))
      (cases_Bool (eq_by_cmp R q k)))

  -- the slots for a map say that map
  pub slots_say : (ks : List K) (slots : List (Option S)) (m : FinMap R X) → table_of R key value slots ≡ Some m → ChangesOnly ks m after
      → len after ≤ length slots
      → table_of R key value (slots_for key write after ks slots) ≡ Some after
  slots_say ks slots m t only room =
      let r = all_renewed ks ks slots m t (λ q. ⊎_elim (λ named. inr (inl named, named)) (λ other. inl (only q other)) (cases_Bool (is_one_of R ks q))) in
      all_entered ks (each (with_key_renewed key write after) ks slots) r.0 r.1
      (subst (λ (n : ℕ). len after ≤ n) (sym (length_each_renewed key write after ks slots)) room) r.2

-- ---- places that stay

module _ {K S X : Type 0} {R : K → K → Ordering} (o : IsTotalOrder R) (same : IsAntisymmetric R) (key : S → K) (value : S → Option X) (write : K → X → S)
    (after : FinMap R X) (keys : (k : K) (x : X) → get after k ≡ Some x → key (write k x) ≡ k) where
  -- a slot of this key, with something that each slot written for the key has
  abbrev HasPlace : (S → Type 0) → K → ℕ → List (Option S) → Type 0
  HasPlace Q a i slots = (s : S) × (get_or slots i None ≡ Some s) × (key s ≡ a) × Q s

  module _ (Q : S → Type 0) (a : K) (x : X) (i : ℕ) (kept : get after a ≡ Some x) (writes : Q (write a x)) where
    place_renewed : (k : K) (slots : List (Option S)) → HasPlace Q a i slots → HasPlace Q a i (with_key_renewed key write after k slots)
    place_renewed k slots p =
        let j = place_of R key k slots in
        let new = option_map (write k) (get after k) in
        (elim (get_or slots j None) as (λ at. get_or slots j None ≡ at → HasPlace Q a i (with_slot_renewed j at new slots)) [
          | None ↦ λ e. p
          | Some r ↦ λ e. ⊎_elim
              (λ here.
              let one : i ≡ j = eqb-true i j here in
              let r_is : r ≡ p.0 = some_injective (sym e ∙ ap (λ (n : ℕ). get_or slots n None) (sym one) ∙ p.1) in
              let k_is : k ≡ a = sym (has_its_key o same key value slots k r e) ∙ ap key r_is ∙ p.2 in
              let is : new ≡ Some (write a x) = ap (λ c. option_map (write c) (get after c)) k_is ∙ ap (option_map (write a)) kept in
              let there = ap (λ (n : ℕ). get_or (set slots j new) n None) one ∙ get_or-set_same slots j new None (within_some slots j r e) ∙ is in
              (write a x, there, keys a x kept, writes))
              (λ other.
              let stays = get_or-set_other slots j i new None (λ s. false≢true (sym other ∙ ap (λ (n : ℕ). n == j) s ∙ eq_itself j)) in
              (p.0, stays ∙ p.1, p.2, p.3))
              (cases_Bool (i == j))
        ]) refl

    place_entered : (k : K) (slots : List (Option S)) → HasPlace Q a i slots → HasPlace Q a i (with_key_entered key write after k slots)
    place_entered k slots p =
        let j = lowest_empty slots in
        let new = option_map (write k) (get after k) in
        (elim (get_or slots (place_of R key k slots) None) as (λ at. HasPlace Q a i (with_slot_entered at new slots)) [
          | Some r ↦ p
          | None ↦ (elim new as (λ v. HasPlace Q a i (with_slot_entered None v slots)) [
            | None ↦ p
            | Some r ↦
                let stays = get_or-set_other slots j i (Some r) None (λ s. some_none (sym p.1 ∙ ap (λ (n : ℕ). get_or slots n None) s ∙ empty_there slots)) in
                (p.0, stays ∙ p.1, p.2, p.3)
          ])
        ])

    each_place_renewed : (ks : List K) (slots : List (Option S)) → HasPlace Q a i slots → HasPlace Q a i (each (with_key_renewed key write after) ks slots)
    each_place_renewed [] slots p = p
    each_place_renewed (k ∷ ks) slots p = each_place_renewed ks (with_key_renewed key write after k slots) (place_renewed k slots p)

    each_place_entered : (ks : List K) (slots : List (Option S)) → HasPlace Q a i slots → HasPlace Q a i (each (with_key_entered key write after) ks slots)
    each_place_entered [] slots p = p
    each_place_entered (k ∷ ks) slots p = each_place_entered ks (with_key_entered key write after k slots) (place_entered k slots p)

    -- the slot of a key that stays is the key's after all changes
    pub place_stays : (ks : List K) (slots : List (Option S)) (s : S) → get_or slots i None ≡ Some s → key s ≡ a → Q s
        → (r : S) × (get_or (slots_for key write after ks slots) i None ≡ Some r) × (key r ≡ a) × Q r
    place_stays ks slots s at its has = each_place_entered ks (each (with_key_renewed key write after) ks slots) (each_place_renewed ks slots (s, at, its, has))
