-- Lists that are taken from their end, and values that may be there.
use Rattle.std.proofs.Common.{◌≡◌, refl, Option, Some, None, option_map}
use Rattle.std.specs.Prelude.{is_some}

pub none_of : {X Y : Type 0} (f : X → Y) (o : Option X) → option_map f o ≡ None → o ≡ None
none_of f None h = refl
none_of f (Some x) h = cc

pub some_of : {X Y : Type 0} (f : X → Y) (o : Option X) (y : Y) → option_map f o ≡ Some y → (x : X) × (o ≡ Some x) × (f x ≡ y)
some_of f None y h = cc
some_of f (Some x) y h = (x, refl, cc)

pub some_mapped : {X Y : Type 0} (f : X → Y) (o : Option X) → is_some (option_map f o) ≡ is_some o
some_mapped f None = refl
some_mapped f (Some x) = refl
