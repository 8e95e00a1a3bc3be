-- The sets by which slots become other slots: each is the index of a slot, and what the slot becomes.
use Rattle.std.specs.declared.cmp.Ordering.{Ordering}
use Rattle.std.specs.Ordering.{nat_cmp}
use Rattle.std.specs.Prelude.{◌≡◌, ◌<◌, ◌≤◌, ◌+◌, if◌then◌else◌, ℕ, Bool, true, List, [], ◌∷◌, length, slice_set}
use Rattle.tq_slots.specs.SpaceOrder.{IsOneOf, IsAscending}

-- one for each slot that `same` tells from the one before
abbrev pub sets_from : {X : Type 0} → (X → X → Bool) → ℕ → List X → List X → List (ℕ × X)
sets_from same i [] after = []
sets_from same i (x ∷ before) [] = []
sets_from same i (x ∷ before) (y ∷ after) = if same x y then sets_from same (i + 1) before after else (i, y) ∷ sets_from same (i + 1) before after

abbrev pub sets_between : {X : Type 0} → (X → X → Bool) → List X → List X → List (ℕ × X)
sets_between same before after = sets_from same 0 before after

-- the slots with these sets applied, one after another
abbrev pub with_sets : {X : Type 0} → List (ℕ × X) → List X → List X
with_sets [] slots = slots
with_sets (set ∷ sets) slots = with_sets sets (slice_set slots set.0 set.1)

abbrev pub by_index : {X : Type 0} → ℕ × X → ℕ × X → Ordering
by_index a b = nat_cmp a.0 b.0

-- By each test that tells slots apart, the sets between them ascend by index, no index twice and none past the slots, are no more than
-- the slots, and make the slots after of those before.
abbrev pub AreMadeBySets : {X : Type 0} → List X → List X → Type 0
AreMadeBySets {X} before after =
    (same : X → X → Bool) → ((x y : X) → same x y ≡ true → x ≡ y)
    → IsAscending by_index (sets_between same before after)
    × ((set : ℕ × X) → IsOneOf (sets_between same before after) set → set.0 < length before)
    × (length (sets_between same before after) ≤ length before)
    × (with_sets (sets_between same before after) before ≡ after)

-- a set of a slot's bytes, as a set of what they say
abbrev pub set_read : {F X : Type 0} → (F → X) → ℕ × F → ℕ × X
set_read read set = (set.0, read set.1)
