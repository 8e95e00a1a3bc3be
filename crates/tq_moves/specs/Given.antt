-- What a call that reads gives.
use Rattle.std.specs.Prelude.{◌≡◌, ℕ, Result, Ok, Err}
use Rattle.tq_moves.specs.declared.fault.MoveError.{MoveError}
use Rattle.tq_moves.specs.declared.fault.MoveError.TheVariants.{BadRecord, NoMemory}

-- An error is the place that the reading names, or want of memory.
abbrev pub Fails : {Y : Type 0} → MoveError → Result Y ℕ → Type 0
Fails (BadRecord at) read = read ≡ Err at
Fails NoMemory read = Unit {0}

-- What a call returned, seen by view, is what the reading gives, unless memory ran out.
abbrev pub Gives : {X Y : Type 0} → (X → Y) → Result X MoveError → Result Y ℕ → Type 0
Gives view (Ok x) read = read ≡ Ok (view x)
Gives view (Err e) read = Fails e read
