-- What holds of a store in memory.
use Rattle.std.specs.Prelude.{◌≡◌, ◌<◌, ℕ, List, length}
use Rattle.tq_pages.specs.Store.{Store, IsStore}

-- The room in which pages are made has 65 of them.
pub record IsSound (s : Store) (buffer : List ℕ) : Type 0 where
  pub dev : s.dev < 8
  pub room : length buffer ≡ 66560
  pub store : IsStore s
