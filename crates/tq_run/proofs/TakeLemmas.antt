-- The takes of a run, and what was given before them.
use Rattle.std.proofs.Common.{◌≡◌, ◌<◌, ℕ, zero, suc, List, [], ◌∷◌, ◌++◌, refl, sym, ◌∙◌, ap, subst, arith, length, append_assoc}
use Rattle.std.specs.Prelude.{All}
use Rattle.std.proofs.lemmas.List.{append-nil, append_cancel_left}
use Rattle.std.proofs.lemmas.List.Elements.{All-append, All-nil}
use Rattle.tq_host.specs.View.{Streams, TakeStamp}
use Rattle.tq_host.specs.Calls.{IsCounted}
use Rattle.tq_run.specs.Input.{TakesWith}

abbrev AreWith : ℕ → List TakeStamp → Type 0
AreWith given added = All (λ (t : TakeStamp). t.given ≡ given) added

pub takes_none : (given : ℕ) (old new : Streams) → new.takes ≡ old.takes → TakesWith given old new
takes_none given old new same = ([], same ∙ sym (append-nil old.takes), All-nil (λ (t : TakeStamp). t.given ≡ given))

pub takes_one : (n : ℕ) (old new : Streams) → IsCounted n old new → TakesWith (length old.output) old new
takes_one n old new counted = (record { taken = old.taken; given = length old.output } ∷ [], counted.takes, this)
  where
    this : AreWith (length old.output) (record { taken = old.taken; given = length old.output } ∷ [])
    this zero d lt = refl
    this (suc i) d lt = absurd (omega (arith, lt))

pub takes_on : (given : ℕ) (a b c : Streams) → TakesWith given a b → TakesWith given b c → TakesWith given a c
takes_on given a b c (first, is, all) (second, then, rest) =
    (first ++ second, then ∙ ap (λ (l : List TakeStamp). l ++ second) is ∙ append_assoc a.takes first second, All-append (λ (t : TakeStamp). t.given ≡ given) first second all rest)

-- where nothing is taken behind them
pub takes_then : (given : ℕ) (a b c : Streams) → TakesWith given a b → c.takes ≡ b.takes → TakesWith given a c
takes_then given a b c before same = takes_on given a b c before (takes_none given b c same)

-- Line 0 is given first

pub none_taken : (old new : Streams) → new.takes ≡ old.takes → (added : List TakeStamp) → new.takes ≡ old.takes ++ added → All (λ (t : TakeStamp). length old.output < t.given) added
none_taken old new same added is =
    subst (λ (l : List TakeStamp). All (λ (t : TakeStamp). length old.output < t.given) l) (append_cancel_left old.takes [] added (append-nil old.takes ∙ sym same ∙ is)) (All-nil (λ (t : TakeStamp). length old.output < t.given))

pub taken_behind : (old mid new : Streams) → length old.output < length mid.output → mid.takes ≡ old.takes → TakesWith (length mid.output) mid new → (added : List TakeStamp) → new.takes ≡ old.takes ++ added
    → All (λ (t : TakeStamp). length old.output < t.given) added
taken_behind old mid new longer same (since, is, all) added all_is =
    let these : since ≡ added = append_cancel_left old.takes since added (ap (λ (l : List TakeStamp). l ++ since) (sym same) ∙ sym is ∙ all_is) in
    subst (λ (l : List TakeStamp). All (λ (t : TakeStamp). length old.output < t.given) l) these (λ i d lt. subst (λ n. length old.output < n) (sym (all i d lt)) longer)
