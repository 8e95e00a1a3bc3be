-- Message identifiers to bytes and back.
use Rattle.std.proofs.Common.{◌≡◌, ◌<◌, ◌≤◌, ◌+◌, ◌-◌, ◌*◌, ◌/◌, ◌%◌, ◌^◌, ℕ, List, [], ◌∷◌, ◌++◌, length, get_or, take, drop, replicate, refl, sym, ap, ◌∙◌, arith, length-drop, get_or-drop}
use Rattle.std.proofs.Math.Seq.{take-add}
use Rattle.std.proofs.lemmas.List.{ext_get_or, take-append-drop, length-replicate, get_or-replicate, get_or-append_right}
use Rattle.byteorder.specs.Endian.{big_bytes, big_number}
use Rattle.tq_types.specs.MsgId.{id_bytes, id_at, HasZerosAfter}
use Rattle.tq_types.specs.declared.identifiers.MsgId.{MsgId}

-- four bytes are the bytes of their number
four : (a b c d : ℕ) (rest : List ℕ) → a < 256 → b < 256 → c < 256 → d < 256
    → big_bytes 4 (big_number 4 (a ∷ b ∷ c ∷ d ∷ rest)) ≡ a ∷ b ∷ c ∷ d ∷ []
four a b c d rest a_fits b_fits c_fits d_fits =
    let n = a * 16777216 + (b * 65536 + (c * 256 + (d * 1 + 0))) in
    let first : n / 16777216 % 256 ≡ a = omega arith in
    let second : n / 65536 % 256 ≡ b = omega arith in
    let third : n / 256 % 256 ≡ c = omega arith in
    let fourth : n % 256 ≡ d = omega arith in
    λ i. first i ∷ second i ∷ third i ∷ fourth i ∷ []

-- a number of four bytes is the number of its bytes
number-bytes : (x : ℕ) (rest : List ℕ) → x < 2 ^ 32 → big_number 4 (big_bytes 4 x ++ rest) ≡ x
number-bytes x rest fits = omega arith

pub back : (id : MsgId) → id.site < 2 ^ 32 → id.space < 2 ^ 32 → id.epoch < 2 ^ 32 → id.number < 2 ^ 32 → id_at (id_bytes id) ≡ id
unfolding id_at id_bytes
back id site_fits space_fits epoch_fits number_fits =
    let site = number-bytes id.site [] site_fits in
    let space = number-bytes id.space [] space_fits in
    let epoch = number-bytes id.epoch [] epoch_fits in
    let number = number-bytes id.number [] number_fits in
    λ i. record { site = site i; space = space i; epoch = epoch i; number = number i }

pub zeros : (id : MsgId) → HasZerosAfter 16 (id_bytes id)
unfolding id_bytes
zeros id at from below =
    let inside : at - 16 < 16 = omega arith in
    get_or-append_right
    (big_bytes 4 id.site ++ big_bytes 4 id.space ++ big_bytes 4 id.epoch ++ big_bytes 4 id.number)
    (replicate 16 0) 16 at 0 refl from
    ∙ get_or-replicate 16 (at - 16) 0 0 inside

-- a number's bytes at the front
front : (bytes : List ℕ) → 4 ≤ length bytes → ((i : ℕ) → get_or bytes i 0 < 256) → big_bytes 4 (big_number 4 bytes) ≡ take 4 bytes
front [] long fits = absurd (omega arith)
front (a ∷ []) long fits = absurd (omega arith)
front (a ∷ b ∷ []) long fits = absurd (omega arith)
front (a ∷ b ∷ c ∷ []) long fits = absurd (omega arith)
front (a ∷ b ∷ c ∷ d ∷ rest) long fits = four a b c d rest (fits 0) (fits 1) (fits 2) (fits 3)

-- the bytes of a number further on
module _ (bytes : List ℕ) (long : length bytes ≡ 32) (fits : (i : ℕ) → get_or bytes i 0 < 256) where
  later : (n : ℕ) → n ≤ 28 → big_bytes 4 (big_number 4 (drop n bytes)) ≡ take 4 (drop n bytes)
  later n early =
      front (drop n bytes) (omega (arith, length-drop n bytes))
      (λ i. let e = get_or-drop n bytes i 0 in let f = fits (n + i) in omega arith)

  next : (n : ℕ) → n ≤ 28 → take n bytes ++ big_bytes 4 (big_number 4 (drop n bytes)) ≡ take (n + 4) bytes
  next n early = ap (λ (l : List ℕ). take n bytes ++ l) (later n early) ∙ sym (take-add n 4 bytes)

  -- the 32 bytes are those of the identifier at them
  pub forth : HasZerosAfter 16 bytes → id_bytes (id_at bytes) ≡ bytes
  unfolding id_at id_bytes
  forth end =
      let rest : drop 16 bytes ≡ replicate 16 0 = ext_get_or 0 (drop 16 bytes) (replicate 16 0)
      (omega (arith, length-drop 16 bytes, length-replicate {A = ℕ} 16 0))
      (λ i lt.
      let inside : i < 16 = omega (arith, length-drop 16 bytes) in
      get_or-drop 16 bytes i 0 ∙ end (16 + i) (omega arith) (omega arith) ∙ sym (get_or-replicate 16 i 0 0 inside)) in
      let word = λ (n : ℕ). big_bytes 4 (big_number 4 (drop n bytes)) in
      ap (λ (l : List ℕ). l ++ word 4 ++ word 8 ++ word 12 ++ replicate 16 0) (front bytes (omega arith) fits)
      ∙ ap (λ (l : List ℕ). l ++ word 8 ++ word 12 ++ replicate 16 0) (next 4 (omega arith))
      ∙ ap (λ (l : List ℕ). l ++ word 12 ++ replicate 16 0) (next 8 (omega arith))
      ∙ ap (λ (l : List ℕ). l ++ replicate 16 0) (next 12 (omega arith))
      ∙ ap (λ (l : List ℕ). take 16 bytes ++ l) (sym rest) ∙ take-append-drop 16 bytes
