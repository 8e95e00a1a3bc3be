-- What was spelt is of the kinds that were asked for.
use Rattle.std.proofs.Common.{◌≡◌, ℕ, ◌≤◌, leb, ◌&&◌, List, [], ◌∷◌, Option, Some, None, refl, inl, inr}
use Rattle.std.proofs.lemmas.Bool.{cases_Bool, and_parts, leb-true}
use Rattle.std.specs.Prelude.{codes}
use Rattle.std.specs.List.{list_any}
use Rattle.std.specs.Option.{option_map}
use Rattle.std.specs.Str.{bytes_eq}
use Rattle.std.specs.Str.Parse.{digits_value}
use Rattle.tq_model.specs.declared.grammar.Key.{Key}
use Rattle.tq_model.specs.declared.grammar.Kind.{Kind}
use Rattle.tq_model.specs.declared.grammar.Kind.TheVariants as kinds
use Rattle.tq_model.specs.declared.grammar.Value.{Value}
use Rattle.tq_model.specs.declared.grammar.Value.TheVariants.{Number, Name, ErrorName, Text, Flags, Yes}
use Rattle.tq_model.specs.Names.{is_name}
use Rattle.tq_model.specs.Grammar.{Word, KeyRow, Given, Scan, Misfit, Missing, Spelt, is_numeral, number_between, name_value, error_value, yes_value, text_of, flags_from, pieces, value_of, with_value, with_given, after_key, after_value, keyed_value, rows_without, scan, scan_keyed}
use Rattle.tq_script.specs.Kinds.{IsOfKind, AreOfKinds}

pub spelt-given : (g : Given) (s : Scan) (values : List Value) (given : List Given) → with_given g s ≡ Spelt values given → (rest : List Given) × (given ≡ g ∷ rest) × (s ≡ Spelt values rest)
spelt-given g (Misfit column) values given e = absurd (cc)
spelt-given g Missing values given e = absurd (cc)
spelt-given g (Spelt later_values rest) values given e = (rest, (let more : given ≡ g ∷ rest = cc in more), (let same : later_values ≡ values = cc in rw same refl))

pub spelt-value : (v : Value) (s : Scan) (values : List Value) (given : List Given) → with_value v s ≡ Spelt values given → (rest : List Value) × (values ≡ v ∷ rest) × (s ≡ Spelt rest given)
spelt-value v (Misfit column) values given e = absurd (cc)
spelt-value v Missing values given e = absurd (cc)
spelt-value v (Spelt rest later_given) values given e = (rest, (let more : values ≡ v ∷ rest = cc in more), (let same : later_given ≡ given = cc in rw same refl))

-- keyed words give no positional value
keyed-values : (o : Option Given) (column : ℕ) (rest : Key → Scan) (step : (key : Key) (values : List Value) (given : List Given) → rest key ≡ Spelt values given → values ≡ []) →
    (values : List Value) (given : List Given) → after_key o column rest ≡ Spelt values given → values ≡ []
keyed-values None column rest step values given e = absurd (cc)
keyed-values (Some g) column rest step values given e = let more = spelt-given g (rest g.key) values given e in step g.key values more.0 more.2

scan_keyed-values : (rows : List KeyRow) (words : List Word) (values : List Value) (given : List Given) → scan_keyed rows words ≡ Spelt values given → values ≡ []
scan_keyed-values rows [] values given e = elim (cases_Bool (list_any (λ (row : KeyRow). row.required) rows)) [
  | inl h ↦ let missing : Missing ≡ Spelt values given = rw h at e in absurd (cc)
  | inr h ↦ let spelt : Spelt [] [] ≡ Spelt values given = rw h at e in cc
]
scan_keyed-values rows (w ∷ words) values given e =
    keyed-values (keyed_value rows w.bytes) w.column (λ key. scan_keyed (rows_without key rows) words)
    (λ key later later_given same. scan_keyed-values (rows_without key rows) words later later_given same) values given e

-- a value is of its kind
number-between : (low high : ℕ) (word : List ℕ) (v : Value) → number_between low high word ≡ Some v → (n : ℕ) × (v ≡ Number n) × ((low ≤ n) × (n ≤ high))
number-between low high word v e = elim (cases_Bool (is_numeral word && leb low (digits_value 10 word) && leb (digits_value 10 word) high)) [
  | inl h ↦ let is : Some (Number (digits_value 10 word)) ≡ Some v = rw h at e in
      let fits = and_parts _ _ h in
      (digits_value 10 word, (let same : v ≡ Number (digits_value 10 word) = cc in same), (leb-true _ _ (and_parts _ _ fits.0).1, leb-true _ _ fits.1))
  | inr h ↦ let none : Option Value = None in let is : none ≡ Some v = rw h at e in absurd (cc)
]

mapped : {X : Type 0} (f : X → Value) (o : Option X) (v : Value) → option_map f o ≡ Some v → (x : X) × (v ≡ f x)
mapped f None v e = absurd (cc)
mapped f (Some x) v e = (x, let same : v ≡ f x = cc in same)

name-value : (word : List ℕ) (v : Value) → name_value word ≡ Some v → v ≡ Name word
name-value word v e = elim (cases_Bool (is_name word)) [
  | inl h ↦ let is : Some (Name word) ≡ Some v = rw h at e in let same : v ≡ Name word = cc in same
  | inr h ↦ let none : Option Value = None in let is : none ≡ Some v = rw h at e in absurd (cc)
]

error-value : (word : List ℕ) (v : Value) → error_value word ≡ Some v → (name : Option (List ℕ)) × (v ≡ ErrorName name)
error-value word v e = elim (cases_Bool (bytes_eq word (codes "-"))) [
  | inl dash ↦ let is : Some (ErrorName None) ≡ Some v = rw dash at e in (None, let same : v ≡ ErrorName None = cc in same)
  | inr other ↦ elim (cases_Bool (is_name word)) [
    | inl h ↦ let is : Some (ErrorName (Some word)) ≡ Some v = rw (other, h) at e in (Some word, let same : v ≡ ErrorName (Some word) = cc in same)
    | inr h ↦ let none : Option Value = None in let is : none ≡ Some v = rw (other, h) at e in absurd (cc)
  ]
]

yes-value : (word : List ℕ) (v : Value) → yes_value word ≡ Some v → v ≡ Yes
yes-value word v e = elim (cases_Bool (bytes_eq word (codes "yes"))) [
  | inl h ↦ let is : Some Yes ≡ Some v = rw h at e in let same : v ≡ Yes = cc in same
  | inr h ↦ let none : Option Value = None in let is : none ≡ Some v = rw h at e in absurd (cc)
]

pub IsOfKind-value : (kind : Kind) (word : List ℕ) (v : Value) → value_of kind word ≡ Some v → IsOfKind kind v
IsOfKind-value kinds.Device word v e = let is = number-between 0 7 word v e in rw is.1 is.2.1
IsOfKind-value kinds.Session word v e = let is = number-between 1 32 word v e in rw is.1 is.2
IsOfKind-value kinds.Number word v e = let is = number-between 0 18446744073709551615 word v e in rw is.1 is.2.1
IsOfKind-value kinds.Name word v e = rw (name-value word v e) tt
IsOfKind-value kinds.ErrorName word v e = rw (error-value word v e).1 tt
IsOfKind-value kinds.Text word v e = rw (mapped Text (text_of word) v e).1 tt
IsOfKind-value kinds.Flags word v e = rw (mapped Flags (flags_from (pieces word)) v e).1 tt
IsOfKind-value kinds.Yes word v e = rw (yes-value word v e) tt

-- so are all
after-kinds : (o : Option Value) (column : ℕ) (rest : Scan) (kind : Kind) (kinds : List Kind) → ((v : Value) → o ≡ Some v → IsOfKind kind v) →
    ((values : List Value) (given : List Given) → rest ≡ Spelt values given → AreOfKinds kinds values) →
    (values : List Value) (given : List Given) → after_value o column rest ≡ Spelt values given → AreOfKinds (kind ∷ kinds) values
after-kinds None column rest kind kinds first later values given e = absurd (cc)
after-kinds (Some v) column rest kind kinds first later values given e =
    let more = spelt-value v rest values given e in rw more.1 (first v refl, later more.0 given more.2)

pub AreOfKinds-scan : (kinds : List Kind) (rows : List KeyRow) (words : List Word) (values : List Value) (given : List Given) → scan kinds rows words ≡ Spelt values given → AreOfKinds kinds values
AreOfKinds-scan [] rows words values given e = rw (scan_keyed-values rows words values given e) tt
AreOfKinds-scan (kind ∷ kinds) rows [] values given e = absurd (cc)
AreOfKinds-scan (kind ∷ kinds) rows (w ∷ words) values given e =
    after-kinds (value_of kind w.bytes) w.column (scan kinds rows words) kind kinds (λ v same. IsOfKind-value kind w.bytes v same)
    (λ later later_given same. AreOfKinds-scan kinds rows words later later_given same) values given e
