-- What is known after a call that may have failed.
use Rattle.std.proofs.Common.{Result, Ok, Err}
use Rattle.std.specs.Prelude.{OnOk, OnErr}

pub either-way : {T E : Type 0} {A B P : Type 0} (r : Result T E) → OnOk r A → OnErr r B → (A → P) → (B → P) → P
either-way (Ok x) a b f g = f a
either-way (Err e) a b f g = g b
