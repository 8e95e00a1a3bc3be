-- Which error a result has.
use Rattle.std.proofs.Common.{◌≡◌, Result, Ok, Err}
use Rattle.std.specs.Result.{IsErrAnd}

-- an error that was handed on
pub handed_on : {T U E : Type 0} (r : Result T E) (s : Result U E) (x y : E) → r ≡ Err x → IsErrAnd s (λ e. e ≡ x) → s ≡ Err y → r ≡ Err y
handed_on r (Ok v) x y was has is = absurd has
handed_on r (Err e) x y was has is = cc

-- and handed on alone
pub handed_back : {T U E : Type 0} (r : Result T E) (s : Result U E) (x y : E) → r ≡ Err x → IsErrAnd s (λ e. e ≡ x) → r ≡ Err y → s ≡ Err y
handed_back r (Ok v) x y was has is = absurd has
handed_back r (Err e) x y was has is = cc

pub no_error : {T E : Type 0} (r : Result T E) (v : T) (e : E) → r ≡ Ok v → r ≡ Err e → ⊥
no_error r v e ok err = cc
