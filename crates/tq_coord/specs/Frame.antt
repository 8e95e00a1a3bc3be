-- The devices that the words of a run name, and what is left alone beside them.
use Rattle.std.specs.Prelude.{◌≡◌, ◌⊎◌, ◌≤◌, ℕ, List}
use Rattle.tq_host.specs.View.{View, Picture}

-- how many devices a run has: its words take one device word for now
abbrev pub device_count : ℕ
device_count = 1

-- From old to new: a device that no word names reads what it read, is attached by what it was, and a stop leaves it as it was.
pub record LeavesOthers (old new : View) : Type 0 where
  pub later : old.clock ≤ new.clock
  pub reads : (d : ℕ) → device_count ≤ d → new.reads d ≡ old.reads d
  pub attached : (d : ℕ) → device_count ≤ d → new.attached d ≡ old.attached d
  pub images : (d : ℕ) (c : List ℕ) → device_count ≤ d → new.may_leave d c → old.may_leave d c
  pub pictures : (t : ℕ) (p : Picture) → t ≤ old.clock → new.left_since t p → old.left_since t p ⊎ ((d : ℕ) → device_count ≤ d → old.may_leave d (p.images d))
