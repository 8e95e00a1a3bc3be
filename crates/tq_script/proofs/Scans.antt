-- The steps of a scan, and what was read before it.
use Rattle.std.proofs.Common.{◌≡◌, ℕ, ◌+◌, ◌<◌, ◌==◌, false, List, [], ◌∷◌, ◌++◌, length, take, drop, get_or, map, Some, Err, not, refl, ap, inl, inr, ◌∙◌, append_assoc}
use Rattle.std.proofs.lemmas.Bool.{cases_Bool}
use Rattle.std.proofs.lemmas.List.{at_drop_more}
use Rattle.std.specs.Str.{bytes_eq}
use Rattle.std.specs.List.{filter, list_any, position}
use Rattle.tq_model.specs.declared.grammar.Key.{Key}
use Rattle.tq_model.specs.declared.grammar.Value.{Value}
use Rattle.tq_model.specs.declared.grammar.Verb.{Verb}
use Rattle.tq_model.specs.Grammar.{KeyRow, Given, Scan, Misfit, Missing, Spelt, with_value, with_given, given_of, is_same_key, key_among, keyed_value, rows_without, verb_among, verb_word}
use Rattle.tq_script.proofs.Positions.{position-some, list_any-some}
use Rattle.tq_script.specs.Reads.{ReadsAs, with_read}
use Rattle.tq_script.specs.declared.unread.Unread.{Unread}
use Rattle.tq_script.specs.declared.unread.Unread.TheVariants as unread
use Rattle.tq_script.specs.Rows.{is_required, key_row_of}
use Rattle.tq_script.specs.declared.table.KeyRow as table

-- a value or a key more
pub with_read-value : (values : List Value) (given : List Given) (v : Value) (s : Scan) → with_read values given (with_value v s) ≡ with_read (values ++ v ∷ []) given s
with_read-value values given v (Misfit column) = refl
with_read-value values given v Missing = refl
with_read-value values given v (Spelt later_values later_given) = rw append_assoc refl

pub with_read-given : (values : List Value) (given : List Given) (g : Given) (s : Scan) → with_read values given (with_given g s) ≡ with_read values (given ++ g ∷ []) s
with_read-given values given g (Misfit column) = refl
with_read-given values given g Missing = refl
with_read-given values given g (Spelt later_values later_given) = rw append_assoc refl

pub with_read-none : (s : Scan) → with_read [] [] s ≡ s
with_read-none (Misfit column) = refl
with_read-none Missing = refl
with_read-none (Spelt later_values later_given) = refl

-- a key that is still to be given
pub list_any-required : (rows : List table.KeyRow) → list_any (λ (row : KeyRow). row.required) (map key_row_of rows) ≡ list_any is_required rows
list_any-required [] = refl
list_any-required (row ∷ rows) = rw (list_any-required rows) refl

-- what a word with an equals sign gives
pub keyed_value-key : (rows : List KeyRow) (word : List ℕ) (at : ℕ) (row : KeyRow) →
    Some at ≡ position (λ (b : ℕ). b == 61) word → Some row ≡ key_among rows (take at word) → keyed_value rows word ≡ given_of (Some row) (drop (at + 1) word)
keyed_value-key rows word at row there named =
    let is = position-some (λ (b : ℕ). b == 61) word at there in
    rw (list_any-some (λ (b : ℕ). b == 61) word is.1, ← is.0, ← named) refl

-- a verb that is not meant
pub verb_among-more : (verbs : List Verb) (word : List ℕ) (i : ℕ) (verb : Verb) → i < length verbs → bytes_eq word (verb_word (get_or verbs i verb)) ≡ false →
    verb_among (drop i verbs) word ≡ verb_among (drop (i + 1) verbs) word
verb_among-more verbs word i verb l h = at_drop_more (λ (vs : List Verb). verb_among vs word) verbs i verb l ∙ rw h refl

-- the rows without a key
pub rows_without-filter : (key : Key) (rows : List table.KeyRow) → map key_row_of (filter (λ row. not (is_same_key key row.key)) rows) ≡ rows_without key (map key_row_of rows)
rows_without-filter key [] = refl
rows_without-filter key (row ∷ rows) = elim (cases_Bool (is_same_key key row.key)) [
  | inl h ↦ rw h (rows_without-filter key rows)
  | inr h ↦ rw h (ap (λ (others : List KeyRow). key_row_of row ∷ others) (rows_without-filter key rows))
]

-- where what follows was not read, neither was the whole
pub ReadsAs-behind : {X Y : Type 0} (e : Unread) (values : List Value) (whole part : Scan) (then : X → Scan) (later : Y → Scan) → whole ≡ with_read values [] part →
    ReadsAs (Err e) part then → ReadsAs (Err e) whole later
ReadsAs-behind (unread.Misfit column) values whole part then later is read = is ∙ ap (with_read values []) read
ReadsAs-behind unread.Missing values whole part then later is read = is ∙ ap (with_read values []) read
ReadsAs-behind unread.Memory values whole part then later is read = tt
