-- Why three parts are no transaction identifier.
use Rattle.std.specs.Prelude.{◌≡◌, ◌<◌, ◌≤◌, ◌⊎◌, ℕ, List, length}
use Rattle.tq_types.specs.XId.{IsXIdPart}
use Rattle.tq_types.specs.declared.xids.BadXId.{BadXId}
use Rattle.tq_types.specs.declared.xids.BadXId.TheVariants.{Format, Gtrid, Bqual}

-- the length of the part, which is not 1 to 64
abbrev pub IsPartFault : List ℕ → ℕ → Type 0
IsPartFault part n = (n ≡ length part) × ((n < 1) ⊎ (64 < n))

-- the first cause: the format, the global transaction identifier, the branch qualifier
abbrev pub IsXIdFault : ℕ → List ℕ → List ℕ → BadXId → Type 0
IsXIdFault format gtrid bqual Format = 2147483647 < format
IsXIdFault format gtrid bqual (Gtrid n) = (format ≤ 2147483647) × IsPartFault gtrid n
IsXIdFault format gtrid bqual (Bqual n) = (format ≤ 2147483647) × IsXIdPart gtrid × IsPartFault bqual n
