-- Lists of criteria.
use Rattle.std.specs.Prelude.{◌≡◌, ◌≢◌, ◌<◌, ℕ, List, length, slice_get}
use Rattle.tq_types.specs.declared.orders.Criterion.{Criterion}

-- no two of the places below n hold the same
abbrev pub AreDistinctBelow : List Criterion → ℕ → Type 0
AreDistinctBelow criteria n = (i j : ℕ) → i < j → j < n → slice_get criteria i ≢ slice_get criteria j

abbrev pub IsDistinct : List Criterion → Type 0
IsDistinct criteria = AreDistinctBelow criteria (length criteria)

-- the place is the first that holds what an earlier place holds
abbrev pub IsFirstRepeat : List Criterion → ℕ → Type 0
IsFirstRepeat criteria at =
    (at < length criteria) × AreDistinctBelow criteria at
    × ((earlier : ℕ) × (earlier < at) × (slice_get criteria earlier ≡ slice_get criteria at))
