-- What is given, and what is taken.
use Rattle.std.specs.Prelude.{◌≡◌, ◌<◌, ◌≤◌, ℕ, List, [], ◌∷◌, ◌++◌, length, get_or, Option, Some, All}
use Rattle.tq_host.specs.View.{View, Stamp}

-- what was told with the output stays told
abbrev pub TellsMore : View → View → Type 0
TellsMore old new = (added : List Stamp) × (new.streams.stamps ≡ old.streams.stamps ++ added)

-- a first byte was given, and no device had failed until then
pub record HasBegun (old new : View) : Type 0 where
  pub first : Stamp
  pub rest : List Stamp
  pub stamps : new.streams.stamps ≡ old.streams.stamps ++ first ∷ rest
  pub calm : first.faults ≡ old.faults
  pub output : length old.streams.output < length new.streams.output

-- the devices are attached by these paths, the first device by the first of them
abbrev pub AreAttached : List (List ℕ) → (ℕ → Option (List ℕ)) → Type 0
AreAttached paths attached = (i : ℕ) → i < length paths → attached i ≡ Some (get_or paths i [])

-- every byte since then was given while the devices were attached by these paths
abbrev pub TellsAttached : List (List ℕ) → View → View → Type 0
TellsAttached paths old new = (added : List Stamp) → new.streams.stamps ≡ old.streams.stamps ++ added → All (λ (s : Stamp). AreAttached paths s.attached) added

-- the devices stay attached as they were, and every byte since then was given so
pub record StaysAttached (old new : View) : Type 0 where
  pub attached : new.attached ≡ old.attached
  pub added : List Stamp
  pub stamps : new.streams.stamps ≡ old.streams.stamps ++ added
  pub given : All (λ (s : Stamp). s.attached ≡ old.attached) added

-- the input is as it was
pub record KeepsInput (old new : View) : Type 0 where
  pub later : old.clock ≤ new.clock
  pub script : new.streams.script ≡ old.streams.script
  pub taken : new.streams.taken ≡ old.streams.taken
  pub takes : new.streams.takes ≡ old.streams.takes
