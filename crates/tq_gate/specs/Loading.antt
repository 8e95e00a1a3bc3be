-- What a load of a gated log finds.
use Rattle.std.specs.Prelude.{◌≡◌, ℕ, None, List}
use Rattle.tq_gate.specs.declared.layout.Layout.{Layout}
use Rattle.tq_gate.specs.declared.fault.GateError.{GateError}
use Rattle.tq_gate.specs.declared.fault.GateError.TheVariants.{Damaged, Device, NoMemory}
use Rattle.tq_gate.specs.Layout.{log_place}
use Rattle.tq_gate.specs.Reading.{content, area_of, log_in, IsDamagedAt}

-- The log in an owner's bytes is damaged, and that is the one with the open gate before the payload that does not fit.
pub record IsDamaged (layout : Layout) (at : ℕ) (bytes : List ℕ) : Type 0 where
  pub none : content layout bytes ≡ None
  pub place : ℕ
  pub gate_at : at ≡ log_place layout (area_of layout bytes) place
  pub damaged : IsDamagedAt (log_in layout (area_of layout bytes) bytes) place

-- what a refusal says of the bytes that were read
abbrev pub IsRefused : Layout → List ℕ → GateError → Type 0
IsRefused layout bytes (Damaged at) = IsDamaged layout at bytes
IsRefused layout bytes Device = Unit {0}
IsRefused layout bytes NoMemory = Unit {0}

-- what a refusal says of the bytes of a log
abbrev pub IsRefusedLog : Layout → ℕ → List ℕ → GateError → Type 0
IsRefusedLog layout area log (Damaged at) = (place : ℕ) × (at ≡ log_place layout area place) × IsDamagedAt log place
IsRefusedLog layout area log Device = ⊥
IsRefusedLog layout area log NoMemory = Unit {0}
