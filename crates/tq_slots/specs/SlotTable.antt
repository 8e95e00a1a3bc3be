-- A table in slots, each of them empty or with a key: what its slots say of their keys, and the slots that say something else.
use Rattle.std.specs.Prelude.{◌≡◌, ℕ, Bool, true, false, is_some, List, [], ◌∷◌, Option, Some, None, option_map, slice_index_or, slice_set}
use Rattle.std.specs.List.{list_any, position_or_len}
use Rattle.std.specs.declared.cmp.Ordering.{Ordering}
use Rattle.std.specs.FinMap.{FinMap, empty, get, insert}
use Rattle.std.specs.Ordering.{eq_by_cmp}

-- What the slots say

-- with one slot more: none where it says nothing, or where its key has been spoken of
abbrev pub with_value : {K X : Type 0} {R : K → K → Ordering} → K → Option X → Bool → FinMap R X → Option (FinMap R X)
with_value k None there m = None
with_value k (Some x) true m = None
with_value k (Some x) false m = Some (insert m k x)

abbrev pub with_slot : {K X : Type 0} {R : K → K → Ordering} → K → Option X → Option (FinMap R X) → Option (FinMap R X)
with_slot k x None = None
with_slot k x (Some m) = with_value k x (is_some (get m k)) m

-- all that the slots say, by their keys
abbrev pub table_of : {K S X : Type 0} (R : K → K → Ordering) → (S → K) → (S → Option X) → List (Option S) → Option (FinMap R X)
table_of R key value [] = Some empty
table_of R key value (None ∷ slots) = table_of R key value slots
table_of R key value (Some s ∷ slots) = with_slot (key s) (value s) (table_of R key value slots)

-- Places

abbrev pub has_key : {K S : Type 0} (R : K → K → Ordering) → (S → K) → K → Option S → Bool
has_key R key k None = false
has_key R key k (Some s) = eq_by_cmp R k (key s)

-- the first slot of that key, or the number of slots
abbrev pub place_of : {K S : Type 0} (R : K → K → Ordering) → (S → K) → K → List (Option S) → ℕ
place_of R key k slots = position_or_len (has_key R key k) slots

abbrev pub is_empty : {S : Type 0} → Option S → Bool
is_empty None = true
is_empty (Some s) = false

abbrev pub lowest_empty : {S : Type 0} → List (Option S) → ℕ
lowest_empty slots = position_or_len is_empty slots

-- Slots that say something else

-- The slot of a key, where it has one, gets what is written of the key: that is what `after` has there, or an empty slot.
abbrev pub with_slot_renewed : {S : Type 0} → ℕ → Option S → Option S → List (Option S) → List (Option S)
with_slot_renewed i None new slots = slots
with_slot_renewed i (Some s) new slots = slice_set slots i new

abbrev pub with_key_renewed : {K S X : Type 0} {R : K → K → Ordering} → (S → K) → (K → X → S) → FinMap R X → K → List (Option S) → List (Option S)
with_key_renewed {R = R} key write after k slots =
    let i = place_of R key k slots in
    with_slot_renewed i (slice_index_or slots i None) (option_map (write k) (get after k)) slots

-- a key that has no slot takes the lowest empty one, where `after` has something there
abbrev pub with_slot_entered : {S : Type 0} → Option S → Option S → List (Option S) → List (Option S)
with_slot_entered (Some s) new slots = slots
with_slot_entered None None slots = slots
with_slot_entered None (Some s) slots = slice_set slots (lowest_empty slots) (Some s)

abbrev pub with_key_entered : {K S X : Type 0} {R : K → K → Ordering} → (S → K) → (K → X → S) → FinMap R X → K → List (Option S) → List (Option S)
with_key_entered {R = R} key write after k slots =
    with_slot_entered (slice_index_or slots (place_of R key k slots) None) (option_map (write k) (get after k)) slots

abbrev pub each : {K T : Type 0} → (K → T → T) → List K → T → T
each change [] t = t
each change (k ∷ ks) t = each change ks (change k t)

-- Of these keys first those that have slots, and then those that come to have one: so a slot that is emptied here can be taken here.
abbrev pub slots_for : {K S X : Type 0} {R : K → K → Ordering} → (S → K) → (K → X → S) → FinMap R X → List K → List (Option S) → List (Option S)
slots_for key write after ks slots = each (with_key_entered key write after) ks (each (with_key_renewed key write after) ks slots)

abbrev pub is_one_of : {K : Type 0} → (K → K → Ordering) → List K → K → Bool
is_one_of R ks k = list_any (eq_by_cmp R k) ks

-- the maps differ at these keys at most
abbrev pub ChangesOnly : {K X : Type 0} {R : K → K → Ordering} → List K → FinMap R X → FinMap R X → Type 0
ChangesOnly {K} {R = R} ks before after = (k : K) → is_one_of R ks k ≡ false → get before k ≡ get after k
