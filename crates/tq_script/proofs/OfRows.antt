-- What was given is of the rows that were asked for.
use Rattle.std.proofs.Common.{◌≡◌, ℕ, ◌==◌, true, false, List, [], ◌∷◌, Option, Some, None, refl, ap, inl, inr, ◌∙◌}
use Rattle.std.proofs.lemmas.Bool.{cases_Bool}
use Rattle.std.proofs.lemmas.Slice.Eq.{bytes_eq-Decides}
use Rattle.std.specs.Prelude.{if◌then◌else◌}
use Rattle.std.specs.List.{list_any, before_first, after_first}
use Rattle.std.specs.Option.{option_map}
use Rattle.std.specs.Str.{bytes_eq}
use Rattle.tq_model.specs.declared.grammar.Key.{Key}
use Rattle.tq_model.specs.declared.grammar.Kind.{Kind}
use Rattle.tq_model.specs.declared.grammar.Value.{Value}
use Rattle.tq_model.specs.Grammar.{Word, KeyRow, Given, Scan, Missing, Spelt, after_key, after_value, given_of, is_same_key, key_among, key_word, keyed_value, rows_without, scan, scan_keyed, value_of}
use Rattle.tq_script.proofs.KeyedValues.{other_key, same_word}
use Rattle.tq_script.proofs.Spelt.{IsOfKind-value, spelt-given, spelt-value}
use Rattle.tq_script.specs.Kinds.{IsOfKind, IsOfRow, AreOfRows}

-- a keyed word
of_kind : (key : Key) (kind : Kind) (o : Option Value) (g : Given) → ((v : Value) → o ≡ Some v → IsOfKind kind v) → option_map (λ v. record { key = key; value = v }) o ≡ Some g →
    (g.key ≡ key) × IsOfKind kind g.value
of_kind key kind None g is e = absurd (cc)
of_kind key kind (Some v) g is e =
    let made : Given = record { key = key; value = v } in
    let same : made ≡ g = cc in
    rw (← same) (refl, is v refl)

word_among : (rows : List KeyRow) (name : List ℕ) (row : KeyRow) → key_among rows name ≡ Some row → key_word row.key ≡ name
word_among [] name row e = absurd (cc)
word_among (first ∷ rows) name row e = elim (cases_Bool (bytes_eq name (key_word first.key))) [
  | inl h ↦ let found : Some first ≡ Some row = rw h at e in let same : first ≡ row = cc in
      rw (← same, (bytes_eq-Decides name (key_word first.key)).0 h) refl
  | inr h ↦ word_among rows name row (rw h at e)
]

of_found : (rows : List KeyRow) (name text : List ℕ) (g : Given) (o : Option KeyRow) → key_among rows name ≡ o → given_of o text ≡ Some g → IsOfRow (key_among rows (key_word g.key)) (Some g.value)
of_found rows name text g None is e = absurd (cc)
of_found rows name text g (Some row) is e =
    let fits = of_kind row.key row.kind (value_of row.kind text) g (λ v same. IsOfKind-value row.kind text v same) e in
    rw (ap key_word fits.0 ∙ word_among rows name row is, is) fits.1

IsOfRow-word : (rows : List KeyRow) (word : List ℕ) (g : Given) → keyed_value rows word ≡ Some g → IsOfRow (key_among rows (key_word g.key)) (Some g.value)
IsOfRow-word rows word g e = elim (cases_Bool (list_any (λ (b : ℕ). b == 61) word)) [
  | inl h ↦ of_found rows (before_first (λ b. b == 61) word) (after_first (λ b. b == 61) word) g _ refl (rw h at e)
  | inr h ↦ let none : Option Given = None in let is : none ≡ Some g = rw h at e in absurd (cc)
]

-- no words, where no key has to be given
IsOfRow-none : (rows : List KeyRow) (name : List ℕ) → list_any (λ (row : KeyRow). row.required) rows ≡ false → IsOfRow (key_among rows name) None
IsOfRow-none [] name e = tt
IsOfRow-none (row ∷ rows) name e = elim (cases_Bool row.required) [
  | inl needed ↦ let no : true ≡ false = rw needed at e in absurd (cc)
  | inr optional ↦ elim (cases_Bool (bytes_eq name (key_word row.key))) [ inl h ↦ rw h optional | inr h ↦ rw h (IsOfRow-none rows name (rw optional at e)) ]
]

-- another key among the rows without one
key_among-without : (key other : Key) (rows : List KeyRow) → is_same_key other key ≡ false → key_among (rows_without key rows) (key_word other) ≡ key_among rows (key_word other)
key_among-without key other [] differ = refl
key_among-without key other (row ∷ rows) differ = elim (cases_Bool (is_same_key key row.key)) [
  | inl h ↦ rw (h, other_key key other row.key differ h) (key_among-without key other rows differ)
  | inr h ↦ rw h (ap (λ (o : Option KeyRow). if is_same_key other row.key then Some row else o) (key_among-without key other rows differ))
]

-- all words
after_rows : (rows : List KeyRow) (o : Option Given) (column : ℕ) (rest : Key → Scan) → ((g : Given) → o ≡ Some g → IsOfRow (key_among rows (key_word g.key)) (Some g.value)) →
    ((key : Key) (values : List Value) (given : List Given) → rest key ≡ Spelt values given → AreOfRows (rows_without key rows) given) →
    (values : List Value) (given : List Given) → after_key o column rest ≡ Spelt values given → AreOfRows rows given
after_rows rows None column rest first later values given e = absurd (cc)
after_rows rows (Some g) column rest first later values given e = λ key.
    let more = spelt-given g (rest g.key) values given e in
    elim (cases_Bool (is_same_key key g.key)) [
      | inl h ↦ rw (more.1, h, same_word key g.key h) (first g refl)
      | inr h ↦ rw (more.1, h, ← key_among-without g.key key rows h) (later g.key values more.0 more.2 key)
    ]

AreOfRows-keyed : (rows : List KeyRow) (words : List Word) (values : List Value) (given : List Given) → scan_keyed rows words ≡ Spelt values given → AreOfRows rows given
AreOfRows-keyed rows [] values given e = elim (cases_Bool (list_any (λ (row : KeyRow). row.required) rows)) [
  | inl h ↦ let missing : Missing ≡ Spelt values given = rw h at e in absurd (cc)
  | inr h ↦ let spelt : Spelt [] [] ≡ Spelt values given = rw h at e in let none : given ≡ [] = cc in λ key. rw none (IsOfRow-none rows (key_word key) h)
]
AreOfRows-keyed rows (w ∷ words) values given e =
    after_rows rows (keyed_value rows w.bytes) w.column (λ key. scan_keyed (rows_without key rows) words) (λ g same. IsOfRow-word rows w.bytes g same)
    (λ key later later_given same. AreOfRows-keyed (rows_without key rows) words later later_given same) values given e

after_values : (rows : List KeyRow) (o : Option Value) (column : ℕ) (rest : Scan) → ((values : List Value) (given : List Given) → rest ≡ Spelt values given → AreOfRows rows given) →
    (values : List Value) (given : List Given) → after_value o column rest ≡ Spelt values given → AreOfRows rows given
after_values rows None column rest later values given e = absurd (cc)
after_values rows (Some v) column rest later values given e = let more = spelt-value v rest values given e in later more.0 given more.2

pub AreOfRows-scan : (kinds : List Kind) (rows : List KeyRow) (words : List Word) (values : List Value) (given : List Given) → scan kinds rows words ≡ Spelt values given → AreOfRows rows given
AreOfRows-scan [] rows words values given e = AreOfRows-keyed rows words values given e
AreOfRows-scan (kind ∷ kinds) rows [] values given e = absurd (cc)
AreOfRows-scan (kind ∷ kinds) rows (w ∷ words) values given e =
    after_values rows (value_of kind w.bytes) w.column (scan kinds rows words) (λ later later_given same. AreOfRows-scan kinds rows words later later_given same) values given e
