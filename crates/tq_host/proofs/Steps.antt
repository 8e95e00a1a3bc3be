-- Steps from image to image.
use Rattle.std.specs.Prelude.{ℕ, List}

-- a step that leaves all as it is, and two that are one
pub record IsSteps (S : List ℕ → List ℕ → Type 0) : Type 0 where
  pub none : (c : List ℕ) → S c c
  pub both : (a b c : List ℕ) → S a b → S b c → S a c
