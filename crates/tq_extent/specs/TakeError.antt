-- Why no clusters are given.
use Rattle.std.specs.Prelude.{◌≡◌, ℕ, ◌<◌, ◌≤◌}
use Rattle.tq_extent.specs.declared.clusters.TakeError.{TakeError}
use Rattle.tq_extent.specs.declared.clusters.TakeError.TheVariants.{Lack, NoMemory}

-- the cause where so many clusters are needed and so many are free
abbrev pub IsCause : ℕ → ℕ → TakeError → Type 0
IsCause need free (Lack room) = (free < need) × (room ≡ record { need = need; free = free })
IsCause need free NoMemory = need ≤ free
