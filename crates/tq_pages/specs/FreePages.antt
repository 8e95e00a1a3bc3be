-- Which pages are free: a test for each page.
use Rattle.std.specs.Prelude.{◌≡◌, ◌<◌, ◌≤◌, ◌+◌, ℕ, Bool, true, false, List, [], ◌∷◌, length, get_or}

-- how many are free
abbrev pub free_count : List Bool → ℕ
free_count [] = 0
free_count (true ∷ free) = free_count free + 1
free_count (false ∷ free) = free_count free

-- The first so many numbers of a list are the free pages, and each of them has its place in the list.
pub record IsListed (free : List Bool) (order place : List ℕ) (count : ℕ) : Type 0 where
  pub order_size : length free ≤ length order
  pub place_size : length free ≤ length place
  pub is_count : count ≡ free_count free
  pub most : count ≤ length free
  pub few : length free < 4294967296
  pub free_at : (i : ℕ) → i < count → get_or free (get_or order i 0) false ≡ true
  pub place_of : (i : ℕ) → i < count → get_or place (get_or order i 0) 0 ≡ i
  pub listed : (p : ℕ) → get_or free p false ≡ true → get_or place p 0 < count
  pub at_place : (p : ℕ) → get_or free p false ≡ true → get_or order (get_or place p 0) 0 ≡ p
