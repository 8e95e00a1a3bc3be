-- Fields one behind another, as a table of a format gives them.
use Rattle.std.specs.Prelude.{ℕ, ◌≡◌, ◌<◌, ◌^◌, List, [], ◌∷◌, ◌++◌, length}
use Rattle.std.specs.List.{AllByRecursion}
use Rattle.tq_field.specs.Digits.{digits}

-- a field of so many bytes: a number, or these bytes themselves
pub data Field : Type 0 where
  Number : ℕ → ℕ → Field
  Run : ℕ → List ℕ → Field

abbrev pub field_bytes : Field → List ℕ
field_bytes (Number width x) = digits width x
field_bytes (Run width bytes) = bytes

-- the fields as they are spelt
unfoldable pub fields_spelt : List Field → List ℕ
fields_spelt [] = []
fields_spelt (f ∷ fields) = field_bytes f ++ fields_spelt fields

-- a field that has the bytes for what it says
abbrev pub IsField : Field → Type 0
IsField (Number width x) = x < 256 ^ width
IsField (Run width bytes) = length bytes ≡ width

abbrev pub AreFields : List Field → Type 0
AreFields fields = AllByRecursion IsField fields
