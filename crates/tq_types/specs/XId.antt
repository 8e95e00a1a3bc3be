-- Transaction identifiers.
use Rattle.std.specs.Prelude.{◌≤◌, ℕ, List, length}

pub record XIdValue : Type 0 where
  pub format : ℕ
  pub gtrid : List ℕ
  pub bqual : List ℕ

abbrev pub IsXIdPart : List ℕ → Type 0
IsXIdPart part = (1 ≤ length part) × (length part ≤ 64)

pub record IsXId (format : ℕ) (gtrid bqual : List ℕ) : Type 0 where
  pub format_most : format ≤ 2147483647
  pub gtrid_length : IsXIdPart gtrid
  pub bqual_length : IsXIdPart bqual
