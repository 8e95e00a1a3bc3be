-- How the words of a line go on behind its spaces and behind its first word.
use Rattle.std.proofs.Common.{◌≡◌, ℕ, zero, suc, ◌+◌, ◌-◌, ◌<◌, ◌≤◌, ◌==◌, ◌||◌, Bool, true, false, not, List, [], ◌∷◌, Some, length, take, drop, refl, ap, sym, ◌∙◌, inl, inr, arith, length-drop, add-zero}
use Rattle.std.proofs.lemmas.Bool.{cases_Bool}
use Rattle.std.proofs.lemmas.List.{drop_all}
use Rattle.std.proofs.lemmas.List.Sums.{prefix_len-le-length}
use Rattle.std.specs.List.{position, position_or_len}
use Rattle.memchr.specs.Find.{is_byte2}
use Rattle.tq_script.proofs.Positions.{position-some}
use Rattle.tq_model.specs.Grammar.{Word, words_from, word_length, Place, Plain, Quoted, Escaped}
use Rattle.tq_script.specs.Cutting.{word_at, words_of}

-- a space is passed over
pub words_from-space : (n column b : ℕ) (bytes : List ℕ) → (b == 32) ≡ true → words_from (suc n) column (b ∷ bytes) ≡ words_from n (column + 1) bytes
words_from-space n column b bytes h = rw h refl

-- any other byte begins a word
pub words_from-word : (n column b : ℕ) (bytes : List ℕ) → (b == 32) ≡ false →
    words_from (suc n) column (b ∷ bytes)
    ≡ word_at column (take (word_length Plain (b ∷ bytes)) (b ∷ bytes)) ∷ words_from n (column + word_length Plain (b ∷ bytes)) (drop (word_length Plain (b ∷ bytes)) (b ∷ bytes))
words_from-word n column b bytes h = rw h refl

pub word_length-one : (b : ℕ) (bytes : List ℕ) → (b == 32) ≡ false → 1 ≤ word_length Plain (b ∷ bytes)
word_length-one b bytes h = rw h (omega arith)

-- no more steps are taken than there are bytes
pub words_from-enough : (n m column : ℕ) (bytes : List ℕ) → length bytes ≤ n → length bytes ≤ m → words_from n column bytes ≡ words_from m column bytes
words_from-enough zero zero column bytes p q = refl
words_from-enough zero (suc m) column [] p q = refl
words_from-enough (suc n) zero column [] p q = refl
words_from-enough (suc n) (suc m) column [] p q = refl
words_from-enough zero (suc m) column (b ∷ bytes) p q = absurd (omega arith)
words_from-enough (suc n) zero column (b ∷ bytes) p q = absurd (omega arith)
words_from-enough (suc n) (suc m) column (b ∷ bytes) p q = elim (cases_Bool (b == 32)) [
  | inl h ↦ words_from-space n column b bytes h
      ∙ words_from-enough n m (column + 1) bytes (omega arith) (omega arith)
      ∙ sym (words_from-space m column b bytes h)
  | inr h ↦
      let k : ℕ = word_length Plain (b ∷ bytes) in
      let one : 1 ≤ k = word_length-one b bytes h in
      let rest : length (drop k (b ∷ bytes)) ≡ length (b ∷ bytes) - k = length-drop k (b ∷ bytes) in
      words_from-word n column b bytes h
      ∙ ap (λ (words : List Word). word_at column (take k (b ∷ bytes)) ∷ words) (words_from-enough n m (column + k) (drop k (b ∷ bytes)) (omega arith) (omega arith))
      ∙ sym (words_from-word m column b bytes h)
]

-- the first byte that is no space
abbrev pub spaces : List ℕ → ℕ
spaces bytes = position_or_len (λ b. not (b == 32)) bytes

spaces-more : (b : ℕ) (bytes : List ℕ) → (b == 32) ≡ true → spaces (b ∷ bytes) ≡ suc (spaces bytes)
spaces-more b bytes h = rw h (omega arith)

spaces-none : (b : ℕ) (bytes : List ℕ) → (b == 32) ≡ false → spaces (b ∷ bytes) ≡ 0
spaces-none b bytes h = rw h refl

-- spaces in front change nothing but the column
pub words_of-spaces : (column : ℕ) (bytes : List ℕ) → words_of column bytes ≡ words_of (column + spaces bytes) (drop (spaces bytes) bytes)
words_of-spaces column [] = refl
words_of-spaces column (b ∷ bytes) = elim (cases_Bool (b == 32)) [
  | inl h ↦ words_from-space (length bytes) column b bytes h
      ∙ words_of-spaces (column + 1) bytes
      ∙ rw (spaces-more b bytes h) (ap (λ (c : ℕ). words_of c (drop (spaces bytes) bytes)) (omega arith))
  | inr h ↦ rw (spaces-none b bytes h, add-zero) refl
]

-- behind the spaces stands no further one
pub spaces-end : (bytes : List ℕ) (b : ℕ) (rest : List ℕ) → drop (spaces bytes) bytes ≡ b ∷ rest → (b == 32) ≡ false
spaces-end [] b rest e = cc
spaces-end (a ∷ bytes) b rest e = elim (cases_Bool (a == 32)) [
  | inl h ↦ spaces-end bytes b rest (rw (spaces-more a bytes h) at e)
  | inr h ↦ let same : a ∷ bytes ≡ b ∷ rest = rw (spaces-none a bytes h) at e in
      let first : a ≡ b = cc in rw (← first) h
]

-- the first word of bytes that begin with none
words_of-begun : (column : ℕ) (bytes : List ℕ) → 1 ≤ length bytes → ((b : ℕ) (rest : List ℕ) → bytes ≡ b ∷ rest → (b == 32) ≡ false) →
    words_of column bytes
    ≡ word_at column (take (word_length Plain bytes) bytes) ∷ words_of (column + word_length Plain bytes) (drop (word_length Plain bytes) bytes)
words_of-begun column [] l begins = absurd (omega arith)
words_of-begun column (b ∷ bytes) l begins =
    let h : (b == 32) ≡ false = begins b bytes refl in
    let k : ℕ = word_length Plain (b ∷ bytes) in
    let one : 1 ≤ k = word_length-one b bytes h in
    let rest : length (drop k (b ∷ bytes)) ≡ length (b ∷ bytes) - k = length-drop k (b ∷ bytes) in
    words_from-word (length bytes) column b bytes h
    ∙ ap (λ (words : List Word). word_at column (take k (b ∷ bytes)) ∷ words)
    (words_from-enough (length bytes) (length (drop k (b ∷ bytes))) (column + k) (drop k (b ∷ bytes)) (omega arith) (omega arith))

pub word_length-begun : (bytes : List ℕ) → 1 ≤ length bytes → ((b : ℕ) (rest : List ℕ) → bytes ≡ b ∷ rest → (b == 32) ≡ false) → 1 ≤ word_length Plain bytes
word_length-begun [] l begins = absurd (omega arith)
word_length-begun (b ∷ bytes) l begins = word_length-one b bytes (begins b bytes refl)

-- the first word and those behind it
pub words_of-first : (column : ℕ) (bytes : List ℕ) → 1 ≤ length (drop (spaces bytes) bytes) →
    words_of column bytes
    ≡ word_at (column + spaces bytes) (take (word_length Plain (drop (spaces bytes) bytes)) (drop (spaces bytes) bytes))
    ∷ words_of (column + spaces bytes + word_length Plain (drop (spaces bytes) bytes)) (drop (word_length Plain (drop (spaces bytes) bytes)) (drop (spaces bytes) bytes))
words_of-first column bytes l =
    words_of-spaces column bytes ∙ words_of-begun (column + spaces bytes) (drop (spaces bytes) bytes) l (spaces-end bytes)

pub words_of-none : (column : ℕ) (bytes : List ℕ) → length bytes ≤ spaces bytes → words_of column bytes ≡ []
words_of-none column bytes l = words_of-spaces column bytes ∙ ap (words_of (column + spaces bytes)) (drop_all (spaces bytes) bytes l)

-- A word goes on behind bytes that neither end it nor change the place.
abbrev pub keeps : Place → ℕ → Bool
keeps Plain b = not (b == 32 || b == 34)
keeps Quoted b = not (b == 34 || b == 92)
keeps Escaped b = false

word_length-kept : (place : Place) (b : ℕ) (bytes : List ℕ) → keeps place b ≡ true → word_length place (b ∷ bytes) ≡ suc (word_length place bytes)
word_length-kept Plain b bytes h = elim (cases_Bool (b == 32)) [
  | inl s ↦ let no : false ≡ true = rw s at h in absurd (cc)
  | inr s ↦ elim (cases_Bool (b == 34)) [
    | inl q ↦ let no : false ≡ true = rw (s, q) at h in absurd (cc)
    | inr q ↦ rw (s, q) refl
  ]
]
word_length-kept Quoted b bytes h = elim (cases_Bool (b == 34)) [
  | inl q ↦ let no : false ≡ true = rw q at h in absurd (cc)
  | inr q ↦ elim (cases_Bool (b == 92)) [
    | inl s ↦ let no : false ≡ true = rw (q, s) at h in absurd (cc)
    | inr s ↦ rw (s, q) refl
  ]
]
word_length-kept Escaped b bytes h = let no : false ≡ true = h in absurd (cc)

-- up to the first of two bytes that alone do not
module _ (place : Place) (one other : ℕ) (others : (b : ℕ) → keeps place b ≡ not (is_byte2 one other b)) where
  word_length-run : (bytes : List ℕ) → word_length place bytes ≡ position_or_len (is_byte2 one other) bytes + word_length place (drop (position_or_len (is_byte2 one other) bytes) bytes)
  word_length-run [] = refl
  word_length-run (b ∷ bytes) = elim (cases_Bool (is_byte2 one other b)) [
    | inl h ↦ rw h (omega arith)
    | inr h ↦
        let more : position_or_len (is_byte2 one other) (b ∷ bytes) ≡ suc (position_or_len (is_byte2 one other) bytes) = rw h (omega arith) in
        let kept : keeps place b ≡ true = rw (others b, h) refl in
        rw more (omega (arith, word_length-kept place b bytes kept, word_length-run bytes))
  ]

  word_length-behind : (bytes : List ℕ) →
      word_length place bytes + length (drop (position_or_len (is_byte2 one other) bytes) bytes) ≡ length bytes + word_length place (drop (position_or_len (is_byte2 one other) bytes) bytes)
  word_length-behind bytes =
      omega (arith, word_length-run bytes, length-drop (position_or_len (is_byte2 one other) bytes) bytes, prefix_len-le-length (λ b. not (is_byte2 one other b)) bytes)

pub behind_plain : (bytes rest : List ℕ) → rest ≡ drop (position_or_len (is_byte2 32 34) bytes) bytes → word_length Plain bytes + length rest ≡ length bytes + word_length Plain rest
behind_plain bytes rest is = rw is (word_length-behind Plain 32 34 (λ b. refl) bytes)

pub behind_quoted : (bytes rest : List ℕ) → rest ≡ drop (position_or_len (is_byte2 34 92) bytes) bytes → word_length Quoted bytes + length rest ≡ length bytes + word_length Quoted rest
behind_quoted bytes rest is = rw is (word_length-behind Quoted 34 92 (λ b. refl) bytes)

-- the same in steps: where the word begins, what stands from there on, how long it is, and what is left
module _ (column : ℕ) (bytes : List ℕ) (i k : ℕ) (begun rest : List ℕ) (start : Some i ≡ position (λ (b : ℕ). not (b == 32)) bytes) (from : begun ≡ drop i bytes) (long : k ≡ word_length Plain begun) (left : rest ≡ drop k begun) where
  begun-some : 1 ≤ length (drop (spaces bytes) bytes)
  begun-some = let is = position-some (λ (b : ℕ). not (b == 32)) bytes i start in omega (arith, is.1, length-drop (spaces bytes) bytes)

  begun-is : begun ≡ drop (spaces bytes) bytes
  begun-is = from ∙ ap (λ n. drop n bytes) (position-some (λ (b : ℕ). not (b == 32)) bytes i start).0

  pub words_of-split : (d e : ℕ) → d ≡ column + i → e ≡ d + k → words_of column bytes ≡ word_at d (take k begun) ∷ words_of e rest
  words_of-split d e here behind =
      let is = position-some (λ (b : ℕ). not (b == 32)) bytes i start in
      rw (behind, here, left, long, begun-is, is.0) (words_of-first column bytes begun-some)

  pub words_of-shorter : length rest < length bytes
  words_of-shorter =
      let is = position-some (λ (b : ℕ). not (b == 32)) bytes i start in
      let some : 1 ≤ length begun = rw begun-is begun-some in
      let one : 1 ≤ k = rw (long, begun-is) (word_length-begun (drop (spaces bytes) bytes) begun-some (spaces-end bytes)) in
      rw (left, length-drop) (omega (arith, ap length from, length-drop i bytes, is.1))
