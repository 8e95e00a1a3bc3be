-- The script as it is taken.
use Rattle.std.specs.Prelude.{◌≡◌, ◌≤◌, ℕ, ◌+◌, List, [], ◌++◌, All}
use Rattle.tq_host.specs.View.{View, Told, Streams, TakeStamp}

-- takes change nothing but the input
pub record TakesOnly (old new : View) : Type 0 where
  pub later : old.clock ≤ new.clock
  pub reads : (d : ℕ) → new.reads d ≡ old.reads d
  pub attached : new.attached ≡ old.attached
  pub output : new.streams.output ≡ old.streams.output
  pub stamps : new.streams.stamps ≡ old.streams.stamps

-- the whole script was read
pub record IsRead (script : List ℕ) (old new : Streams) : Type 0 where
  pub bytes : script ≡ old.script
  pub left : new.script ≡ []

-- n more bytes of the script are had
pub record IsTakenSoFar (tells : Told) (n : ℕ) (had has : List ℕ) (old new : View) : Type 0 where
  pub bytes : tells.script → has ++ new.streams.script ≡ had ++ old.streams.script
  pub end : tells.script → n ≡ 0 → (new.streams.script ≡ []) × (has ≡ had)
  pub taken : tells.output → new.streams.taken ≡ old.streams.taken + n

-- each take since then was made when this many bytes of the output were given
abbrev pub TakesWith : ℕ → Streams → Streams → Type 0
TakesWith given old new = (added : List TakeStamp) × (new.takes ≡ old.takes ++ added) × All (λ (t : TakeStamp). t.given ≡ given) added
