-- Values that are of the kinds of a row.
use Rattle.std.specs.Prelude.{◌≡◌, ◌≤◌, false, List, [], ◌∷◌, Option, Some, None}
use Rattle.tq_model.specs.declared.grammar.Key.{Key}
use Rattle.tq_model.specs.declared.grammar.Kind.{Kind}
use Rattle.tq_model.specs.declared.grammar.Kind.TheVariants as kinds
use Rattle.tq_model.specs.declared.grammar.Value.{Value}
use Rattle.tq_model.specs.declared.grammar.Value.TheVariants.{Number, Name, ErrorName, Text, Flags, Yes}
use Rattle.tq_model.specs.Grammar.{KeyRow, Given, key_among, key_word, value_given}

abbrev pub IsOfKind : Kind → Value → Type 0
IsOfKind kinds.Device (Number n) = n ≤ 7
IsOfKind kinds.Session (Number n) = (1 ≤ n) × (n ≤ 32)
IsOfKind kinds.Number (Number n) = n ≤ 18446744073709551615
IsOfKind kinds.Name (Name name) = Unit {0}
IsOfKind kinds.ErrorName (ErrorName name) = Unit {0}
IsOfKind kinds.Text (Text bytes) = Unit {0}
IsOfKind kinds.Flags (Flags flags) = Unit {0}
IsOfKind kinds.Yes Yes = Unit {0}
IsOfKind _ _ = ⊥

-- one value for each kind
abbrev pub AreOfKinds : List Kind → List Value → Type 0
AreOfKinds [] [] = Unit {0}
AreOfKinds [] (value ∷ values) = ⊥
AreOfKinds (kind ∷ kinds) [] = ⊥
AreOfKinds (kind ∷ kinds) (value ∷ values) = IsOfKind kind value × AreOfKinds kinds values

-- What a row asks for of its key: a value of its kind, and none only where the key may be left out. Of a key without a row there is none.
abbrev pub IsOfRow : Option KeyRow → Option Value → Type 0
IsOfRow (Some row) (Some value) = IsOfKind row.kind value
IsOfRow (Some row) None = row.required ≡ false
IsOfRow None (Some value) = ⊥
IsOfRow None None = Unit {0}

-- each key was given as its row asks for it
abbrev pub AreOfRows : List KeyRow → List Given → Type 0
AreOfRows rows given = (key : Key) → IsOfRow (key_among rows (key_word key)) (value_given key given)
