-- Lists of a fixed size that begin with a list of their own and are blank after it.
use Rattle.std.specs.Prelude.{◌≡◌, ◌<◌, ◌≤◌, ℕ, ◌+◌, ◌-◌, List, ◌++◌, length, take, drop, replicate, slice_index_or}
use Rattle.std.proofs.Common.{arith, sym, ap, ◌∙◌, get_or, length-take, length-drop, get_or-drop}
use Rattle.std.proofs.lemmas.List.{ext_get_or, take-append-drop, length-replicate, get_or-replicate}

-- the first `len` of the `most` items are the list, the others are blank
pub record IsPadded {X : Type 0} (most : ℕ) (blank : X) (len : ℕ) (items : List X) : Type 0 where
  pub fits : length items ≡ most
  pub within : len ≤ most
  pub rest : (at : ℕ) → len ≤ at → at < most → slice_index_or items at blank ≡ blank

module _ {X : Type 0} (most : ℕ) (blank : X) (len : ℕ) (items : List X) (padded : IsPadded most blank len items) where
  pub length-padded : length (take len items) ≡ len
  length-padded = omega (arith, padded.fits, padded.within, length-take len items)

  long : length (drop len items) ≡ length (replicate (most - len) blank)
  long = omega (arith, padded.fits, length-drop len items, length-replicate (most - len) blank)

  blank_at : (i : ℕ) → i < length (drop len items) → get_or (drop len items) i blank ≡ get_or (replicate (most - len) blank) i blank
  blank_at i lt =
      let inside : len + i < most = omega (arith, padded.fits, length-drop len items) in
      get_or-drop len items i blank ∙ padded.rest (len + i) (omega arith) inside
      ∙ sym (get_or-replicate (most - len) i blank blank (omega arith))

  blanks : drop len items ≡ replicate (most - len) blank
  blanks = ext_get_or blank (drop len items) (replicate (most - len) blank) long blank_at

  -- the length and the items come back from the list alone
  pub unpadded : {Y : Type 0} (make : ℕ → List X → Y)
      → make (length (take len items)) (take len items ++ replicate (most - length (take len items)) blank) ≡ make len items
  unpadded make =
      ap (λ (n : ℕ). make n (take len items ++ replicate (most - n) blank)) length-padded
      ∙ ap (λ (end : List X). make len (take len items ++ end)) (sym blanks)
      ∙ ap (make len) (take-append-drop len items)
