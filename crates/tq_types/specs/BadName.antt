-- Why a text is no name.
use Rattle.std.specs.Prelude.{◌≡◌, ◌<◌, ◌≤◌, ◌⊎◌, ℕ, false, IsTrue, List, length, slice_index}
use Rattle.tq_types.specs.Name.{is_allowed_at}
use Rattle.tq_types.specs.declared.names.BadName.{BadName}
use Rattle.tq_types.specs.declared.names.BadName.TheVariants.{Length, Byte}

-- the length is not 1 to 15; else the place is the first whose byte is not allowed
abbrev pub IsNameFault : List ℕ → BadName → Type 0
IsNameFault text (Length n) = (n ≡ length text) × ((n < 1) ⊎ (15 < n))
IsNameFault text (Byte at) =
    (1 ≤ length text) × (length text ≤ 15) × (at < length text)
    × (is_allowed_at at (slice_index text at) ≡ false)
    × ((before : ℕ) → before < at → IsTrue (is_allowed_at before (slice_index text before)))
