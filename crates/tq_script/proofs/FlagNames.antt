-- How names of flags go on behind those that were read.
use Rattle.std.proofs.Common.{◌≡◌, ℕ, ◌+◌, ◌<◌, ◌==◌, ◌||◌, Bool, true, false, List, [], ◌∷◌, ◌++◌, length, drop, get_or, Option, Some, None, arith, refl, sym, ap, inl, inr, ◌∙◌, append_assoc}
use Rattle.std.proofs.lemmas.Bool.{cases_Bool}
use Rattle.std.proofs.lemmas.Bool.Decides.{same_from_decides}
use Rattle.std.proofs.lemmas.List.{append-nil, at_drop_more, at_drop_all}
use Rattle.std.proofs.lemmas.List.Folds.{list_any-append}
use Rattle.std.proofs.lemmas.Slice.Eq.{bytes_eq-Decides}
use Rattle.std.specs.Prelude.{if◌then◌else◌}
use Rattle.std.specs.List.{list_any, slice_split, onto_first}
use Rattle.std.specs.Option.{option_map}
use Rattle.std.specs.Str.{bytes_eq}
use Rattle.tq_model.specs.declared.calls.Flag.{Flag}
use Rattle.tq_model.specs.Grammar.{flag_among, flag_word, flags_from, known_flags, pieces, with_byte, with_flag}
use Rattle.tq_script.specs.Named.{names_one, next_flag}

with_byte-first : (b : ℕ) (parts : List (List ℕ)) → with_byte b parts ≡ onto_first b parts
with_byte-first b [] = refl
with_byte-first b (part ∷ parts) = refl

-- the pieces are what `split` gives
pub pieces-split : (bytes : List ℕ) → pieces bytes ≡ slice_split (λ b. b == 124) bytes
pieces-split [] = refl
pieces-split (b ∷ bytes) = elim (cases_Bool (b == 124)) [
  | inl h ↦ rw (h, pieces-split bytes) refl
  | inr h ↦ rw (h, pieces-split bytes) (with_byte-first b (slice_split (λ b. b == 124) bytes))
]

bytes_eq-sym : (one other : List ℕ) → bytes_eq one other ≡ bytes_eq other one
bytes_eq-sym one other =
    same_from_decides (bytes_eq one other) (bytes_eq other one) (bytes_eq-Decides one other)
    (λ e. sym ((bytes_eq-Decides other one).0 e), λ e. (bytes_eq-Decides other one).1 (sym e))

-- a flag is found by its name
flag_among-word : (flags : List Flag) (word : List ℕ) (flag : Flag) → flag_among flags word ≡ Some flag → word ≡ flag_word flag
flag_among-word [] word flag e = absurd (cc)
flag_among-word (other ∷ flags) word flag e = elim (cases_Bool (bytes_eq word (flag_word other))) [
  | inl h ↦ let found : Some other ≡ Some flag = rw h at e in let same : other ≡ flag = cc in
      (bytes_eq-Decides word (flag_word other)).0 h ∙ ap flag_word same
  | inr h ↦ flag_among-word flags word flag (rw h at e)
]

-- what the words give behind flags that were read
abbrev pub flags_behind : List Flag → List (List ℕ) → Option (List Flag)
flags_behind seen words = if list_any (names_one seen) words then None else option_map (λ flags. seen ++ flags) (flags_from words)

none_named : (words : List (List ℕ)) → list_any (names_one []) words ≡ false
none_named [] = refl
none_named (word ∷ words) = none_named words

same_flags : (flags : Option (List Flag)) → option_map (λ more. [] ++ more) flags ≡ flags
same_flags None = refl
same_flags (Some flags) = refl

pub flags_behind-none : (words : List (List ℕ)) → flags_behind [] words ≡ flags_from words
flags_behind-none words = rw (none_named words) (same_flags (flags_from words))

pub flags_behind-end : (seen : List Flag) → flags_behind seen [] ≡ Some seen
flags_behind-end seen = ap Some (append-nil seen)

-- a word that gives none
flags_behind-named : (seen : List Flag) (word : List ℕ) (words : List (List ℕ)) → names_one seen word ≡ true → flags_behind seen (word ∷ words) ≡ None
flags_behind-named seen word words h = rw h refl

flags_behind-unknown : (seen : List Flag) (word : List ℕ) (words : List (List ℕ)) → flag_among known_flags word ≡ None → flags_behind seen (word ∷ words) ≡ None
flags_behind-unknown seen word words e = elim (cases_Bool (list_any (names_one seen) (word ∷ words))) [
  | inl h ↦ rw h refl
  | inr h ↦ elim (cases_Bool (list_any (bytes_eq word) words)) [ inl twice ↦ rw (h, twice) refl | inr once ↦ rw (h, once, e) refl ]
]

pub flags_behind-stop : (seen : List Flag) (word : List ℕ) (words : List (List ℕ)) → next_flag seen word ≡ None → flags_behind seen (word ∷ words) ≡ None
flags_behind-stop seen word words e = elim (cases_Bool (names_one seen word)) [
  | inl h ↦ flags_behind-named seen word words h
  | inr h ↦ flags_behind-unknown seen word words (rw h at e)
]

-- a flag more
or_swap : (a b c d : Bool) → ((a || b) || (c || d)) ≡ ((a || c) || (b || d))
or_swap true b c d = refl
or_swap false true true d = refl
or_swap false true false d = refl
or_swap false false c d = refl

or_false : (b : Bool) → (b || false) ≡ b
or_false true = refl
or_false false = refl

named_more : (seen : List Flag) (flag : Flag) (word : List ℕ) → names_one (seen ++ flag ∷ []) word ≡ (names_one seen word || bytes_eq (flag_word flag) word)
named_more seen flag word =
    list_any-append (λ (f : Flag). bytes_eq word (flag_word f)) seen (flag ∷ [])
    ∙ ap (λ b. names_one seen word || b) (or_false (bytes_eq word (flag_word flag)) ∙ bytes_eq-sym word (flag_word flag))

any_named_more : (seen : List Flag) (flag : Flag) (words : List (List ℕ)) → list_any (names_one (seen ++ flag ∷ [])) words ≡ (list_any (names_one seen) words || list_any (bytes_eq (flag_word flag)) words)
any_named_more seen flag [] = refl
any_named_more seen flag (word ∷ words) =
    rw (named_more seen flag word, any_named_more seen flag words)
    (or_swap (names_one seen word) (bytes_eq (flag_word flag) word) (list_any (names_one seen) words) (list_any (bytes_eq (flag_word flag)) words))

flags_more : (seen : List Flag) (flag : Flag) (flags : Option (List Flag)) →
    option_map (λ more. seen ++ more) (with_flag (Some flag) flags) ≡ option_map (λ more. (seen ++ flag ∷ []) ++ more) flags
flags_more seen flag None = refl
flags_more seen flag (Some flags) = rw append_assoc refl

flags_behind-more : (seen : List Flag) (flag : Flag) (word : List ℕ) (words : List (List ℕ)) → flag_among known_flags word ≡ Some flag → names_one seen word ≡ false →
    flags_behind seen (word ∷ words) ≡ flags_behind (seen ++ flag ∷ []) words
flags_behind-more seen flag word words found fresh =
    let is : word ≡ flag_word flag = flag_among-word known_flags word flag found in
    let more : list_any (names_one (seen ++ flag ∷ [])) words ≡ (list_any (names_one seen) words || list_any (bytes_eq word) words) = rw is (any_named_more seen flag words) in
    elim (cases_Bool (list_any (names_one seen) words)) [
      | inl h ↦ rw (more, fresh, h) refl
      | inr h ↦ elim (cases_Bool (list_any (bytes_eq word) words)) [
        | inl twice ↦ rw (more, fresh, h, twice) refl
        | inr once ↦ rw (more, fresh, h, once, found) (flags_more seen flag (flags_from words))
      ]
    ]

pub flags_behind-next : (seen : List Flag) (flag : Flag) (word : List ℕ) (words : List (List ℕ)) → next_flag seen word ≡ Some flag → flags_behind seen (word ∷ words) ≡ flags_behind (seen ++ flag ∷ []) words
flags_behind-next seen flag word words e = elim (cases_Bool (names_one seen word)) [
  | inl h ↦ let none : Option Flag = None in let is : none ≡ Some flag = rw h at e in absurd (cc)
  | inr h ↦ flags_behind-more seen flag word words (rw h at e) h
]

-- at a piece, and behind the last one
pub flags_behind-at : (seen : List Flag) (bytes : List ℕ) (i : ℕ) (word : List ℕ) → (i < length (slice_split (λ b. b == 124) bytes)) × (word ≡ get_or (slice_split (λ b. b == 124) bytes) i word) →
    flags_behind seen (drop i (pieces bytes)) ≡ flags_behind seen (word ∷ drop (i + 1) (pieces bytes))
flags_behind-at seen bytes i word turn =
    rw (pieces-split bytes)
    (at_drop_more (flags_behind seen) (slice_split (λ b. b == 124) bytes) i word turn.0
    ∙ ap (λ (w : List ℕ). flags_behind seen (w ∷ drop (i + 1) (slice_split (λ b. b == 124) bytes))) (sym turn.1))

pub flags_behind-all : (seen : List Flag) (bytes : List ℕ) (i : ℕ) → i ≡ length (slice_split (λ b. b == 124) bytes) → flags_behind seen (drop i (pieces bytes)) ≡ Some seen
flags_behind-all seen bytes i all =
    rw (pieces-split bytes) (at_drop_all (flags_behind seen) (slice_split (λ b. b == 124) bytes) i (omega arith) ∙ flags_behind-end seen)
