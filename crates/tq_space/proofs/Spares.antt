-- Lists that are spare.
use Rattle.std.proofs.Common.{◌≡◌, ℕ, ◌+◌, ◌≤◌, List, [], ◌∷◌, ◌++◌, get_or, sym, subst, arith, vec_len}
use Rattle.std.specs.Prelude.{Vec}
use Rattle.std.specs.declared.alloc.Global.{Global}
use Rattle.std.specs.List.{All}
use Rattle.std.proofs.lemmas.List.Elements.{All-append, All-cons, All-nil}
use Rattle.tq_space.specs.Spare.{IsSpare, HasSpare}

pub spare_less : (n m : ℕ) (keys : Vec ℕ Global) → m ≤ n → IsSpare n keys → IsSpare m keys
spare_less n m keys less spare = record { empty = spare.empty; room = omega (arith, spare.room) }

all_less : (n m : ℕ) (xs : List (Vec ℕ Global)) → m ≤ n → All (IsSpare n) xs → All (IsSpare m) xs
all_less n m xs less all = λ k d lt. spare_less n m (get_or xs k d) less (all k d lt)

pub spares_less : (n m : ℕ) (spare : Vec (Vec ℕ Global) Global) → m ≤ n → HasSpare n spare → HasSpare m spare
spares_less n m spare less has = record { count = omega (arith, has.count); each = all_less n m spare.items less has.each }

pub spares_same : (n : ℕ) (old new : Vec (Vec ℕ Global) Global) → new.items ≡ old.items → vec_len new ≡ vec_len old → HasSpare n old → HasSpare n new
spares_same n old new items len has = record { count = omega (arith, has.count); each = subst (All (IsSpare n)) (sym items) has.each }

-- one list more
pub all_more : (n : ℕ) (xs : List (Vec ℕ Global)) (keys : Vec ℕ Global) → All (IsSpare n) xs → IsSpare n keys → All (IsSpare n) (xs ++ keys ∷ [])
all_more n xs keys all spare = All-append (IsSpare n) xs (keys ∷ []) all (All-cons (IsSpare n) keys [] spare (All-nil (IsSpare n)))

pub spares_more : (n : ℕ) (old new : Vec (Vec ℕ Global) Global) (keys : Vec ℕ Global) → new.items ≡ old.items ++ keys ∷ [] → vec_len new ≡ vec_len old + 1 → IsSpare n keys
    → HasSpare n old → HasSpare n new
spares_more n old new keys items len spare has = record {
  count = omega (arith, has.count);
  each = subst (All (IsSpare n)) (sym items) (all_more n old.items keys has.each spare);
}
