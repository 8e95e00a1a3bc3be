-- The last line of a run, and those before it.
use Rattle.std.proofs.Common.{◌≡◌, ◌⊎◌, inl, inr, ⊎_elim, ◌<◌, ◌≤◌, ℕ, ◌+◌, ◌-◌, List, [], ◌∷◌, ◌++◌, refl, sym, ◌∙◌, ap, arith, length, length-append}
use Rattle.std.specs.Prelude.{replicate}
use Rattle.std.proofs.lemmas.List.{length-replicate}
use Rattle.tq_host.specs.View.{Stamp}
use Rattle.tq_model.specs.declared.request.Request.{Request}
use Rattle.tq_run.specs.Idle.{clock_at}
use Rattle.tq_run.proofs.FailureAccountLemmas.{get_or_told, get_or_next}
use Rattle.tq_run.proofs.TurnLemmas.{get_or-map-replicate}

abbrev pub clock_of : Stamp → ℕ
clock_of s = s.clock

same_first : {A : Type 0} (x y : A) (xs ys : List A) → x ∷ xs ≡ y ∷ ys → x ≡ y
same_first x y xs ys e = cc

same_rest : {A : Type 0} (x y : A) (xs ys : List A) → x ∷ xs ≡ y ∷ ys → xs ≡ ys
same_rest x y xs ys e = cc

-- a line is the last one, or one of those before it
pub last_or_before : (done front rest : List Request) (r request : Request) → done ++ r ∷ [] ≡ front ++ request ∷ rest → ((done ≡ front) × (r ≡ request)) ⊎ ((mid : List Request) × (done ≡ front ++ request ∷ mid))
last_or_before [] [] rest r request e = inl (refl, same_first r request [] rest e)
last_or_before [] (x ∷ front) rest r request e = absurd (omega (arith, ap (λ (l : List Request). length l) e, length-append front (request ∷ rest)))
last_or_before (y ∷ done) [] rest r request e = inr (done, ap (λ (z : Request). z ∷ done) (same_first y request (done ++ r ∷ []) rest e))
last_or_before (y ∷ done) (x ∷ front) rest r request e =
    let first = same_first y x (done ++ r ∷ []) (front ++ request ∷ rest) e in
    ⊎_elim (λ (same, own). inl (ap (λ (z : Request). z ∷ done) first ∙ ap (λ (l : List Request). x ∷ l) same, own))
    (λ (mid, split). inr (mid, ap (λ (z : Request). z ∷ done) first ∙ ap (λ (l : List Request). x ∷ l) split))
    (last_or_before done front rest r request (same_rest y x (done ++ r ∷ []) (front ++ request ∷ rest) e))

-- the bytes of one more line, which are all told at one moment
module _ (added : List Stamp) (k : ℕ) (told : Stamp) where
  -- a byte before the line
  pub clock_before : (at : ℕ) → at < length added → clock_at (added ++ replicate k told) at ≡ clock_at added at
  clock_before at lt = get_or_told clock_of added (replicate k told) at 0 0 lt

  -- a byte of the line
  pub clock_here : (at : ℕ) → length added ≤ at → at < length (added ++ replicate k told) → clock_at (added ++ replicate k told) at ≡ told.clock
  clock_here at from lt =
      let is : length added + (at - length added) ≡ at = omega (arith, from) in
      ap (λ i. clock_at (added ++ replicate k told) i) (sym is)
      ∙ get_or_next clock_of added (replicate k told) (at - length added) 0
      ∙ get_or-map-replicate clock_of k (at - length added) told 0 (omega (arith, from, lt, length-append added (replicate k told), length-replicate k told))
