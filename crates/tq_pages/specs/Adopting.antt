-- What a refused chain says of its device, and of the store.
use Rattle.std.specs.Prelude.{ℕ, List}
use Rattle.tq_pages.specs.declared.error.ChainError.{ChainError}
use Rattle.tq_pages.specs.declared.error.ChainError.TheVariants.{BadChain, Device}
use Rattle.tq_pages.specs.Store.{Store, IsSameStore}
use Rattle.tq_pages.specs.Content.{IsBad}

abbrev pub IsRefused : Store → List ℕ → ℕ → ChainError → Type 0
IsRefused s bytes first (BadChain page) = IsBad s bytes first page
IsRefused s bytes first Device = Unit {0}

-- after a chain that does not fit all is as it was
abbrev pub IsKept : Store → Store → ChainError → Type 0
IsKept old new (BadChain page) = IsSameStore old new
IsKept old new Device = Unit {0}
