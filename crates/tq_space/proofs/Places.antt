-- A place past the end of a list.
use Rattle.std.proofs.Common.{suc, ◌≡◌, ℕ, ◌≤◌, List, [], ◌++◌, length, take, drop, ◌∙◌, arith}
use Rattle.std.specs.List.{remove}
use Rattle.std.proofs.lemmas.List.{take_all, drop_all, append-nil}

-- past the end nothing goes
pub remove-past : {X : Type 0} (xs : List X) (n : ℕ) → length xs ≤ n → remove xs n ≡ xs
remove-past xs n past =
    let before : take n xs ≡ xs = take_all n xs past in
    let behind : drop (suc n) xs ≡ [] = drop_all (suc n) xs (omega arith) in
    let both : remove xs n ≡ xs ++ [] = λ i. before i ++ behind i in
    both ∙ append-nil xs
