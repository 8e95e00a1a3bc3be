-- Bytes on a device.
use Rattle.std.proofs.Common.{◌≡◌, ◌⊎◌, inl, inr, ⊎_elim, ◌<◌, ◌≤◌, ℕ, suc, ◌+◌, ◌-◌, List, [], ◌∷◌, ◌++◌, length, get_or, refl, sym, ◌∙◌, ap, subst, arith, length-append}
use Rattle.std.proofs.lemmas.List.{get_or_append_left, get_or-append_right}
use Rattle.tq_host.specs.Calls.{HasBytesAt, IsSameOutside, IsSameBut, IsTorn, IsWritten, IsResized, IsPulled}
use Rattle.tq_host.proofs.Steps.{IsSteps}

pub before_or_after : (i n : ℕ) → (i < n) ⊎ (n ≤ i)
before_or_after i n = grind arith

-- two lists with the same length and the same bytes are equal
pub same_bytes : (a b : List ℕ) → length a ≡ length b → ((i : ℕ) → i < length b → get_or a i 0 ≡ get_or b i 0) → a ≡ b
same_bytes [] [] long same = refl
same_bytes [] (y ∷ b) long same = absurd (omega arith)
same_bytes (x ∷ a) [] long same = absurd (omega arith)
same_bytes (x ∷ a) (y ∷ b) long same = ap (λ (h : ℕ). h ∷ a) (same 0 (omega arith)) ∙ ap (λ (t : List ℕ). y ∷ t) (same_bytes a b (omega arith) (λ i lt. same (suc i) (omega arith)))

-- a torn write within a range changes nothing else, where the range lies within the length
pub torn_within : (at size w n : ℕ) (b c : List ℕ) → at ≤ w → w + n ≤ at + size → at + size ≤ length b → IsTorn w n b c → IsSameBut at size b c
torn_within at size w n b c from to long torn = record {
  outside = λ i out. torn.outside i (⊎_elim (λ before. inl (omega arith)) (λ after. inr (omega arith)) out);
  size = omega (arith, torn.no_shorter, torn.no_longer);
}

-- bytes apart from a write stay
pub stands_still : (a w n : ℕ) (xs b c : List ℕ) → HasBytesAt a xs b → IsSameOutside w n b c → (a + length xs ≤ w) ⊎ (w + n ≤ a) → HasBytesAt a xs c
stands_still a w n xs b c stands same apart i lt = same (a + i) (⊎_elim (λ before. inl (omega arith)) (λ after. inr (omega arith)) apart) ∙ stands i lt

-- two runs of bytes, one behind the other, are one
pub stands_both : (a : ℕ) (xs ys c : List ℕ) → HasBytesAt a xs c → HasBytesAt (a + length xs) ys c → HasBytesAt a (xs ++ ys) c
stands_both a xs ys c first second i lt = elim (before_or_after i (length xs)) [
  | inl before ↦ first i before ∙ sym (get_or_append_left xs ys 0 i before)
  | inr after ↦
      let e : a + i ≡ a + length xs + (i - length xs) = omega arith in
      ap (λ k. get_or c k 0) e ∙ second (i - length xs) (omega (arith, lt, length-append xs ys)) ∙ sym (get_or-append_right xs ys (length xs) i 0 refl after)
]

-- a single byte
pub stands_one : (a x : ℕ) (c : List ℕ) → get_or c a 0 ≡ x → HasBytesAt a (x ∷ []) c
stands_one a x c is i lt = let e : i ≡ 0 = omega arith in subst (λ k. get_or c (a + k) 0 ≡ get_or (x ∷ []) k 0) (sym e) (let z : a + 0 ≡ a = omega arith in ap (λ k. get_or c k 0) z ∙ is)

-- nothing is changed
pub torn_none : (at n : ℕ) (c : List ℕ) → IsTorn at n c c
torn_none at n c = record { outside = λ i out. refl; no_shorter = omega arith; no_longer = omega arith }

pub pulled_none : (n : ℕ) (c : List ℕ) → IsPulled n c c
pulled_none n c = record { front = λ i lt. refl; no_shorter = omega arith; no_longer = omega arith }

-- a whole write is one that a stop may cut short, and so is a change of the length
pub torn_written : (at : ℕ) (bytes b c : List ℕ) → IsWritten at bytes b c → IsTorn at (length bytes) b c
torn_written at bytes b c written = record { outside = written.outside; no_shorter = omega (arith, written.size); no_longer = omega (arith, written.size) }

pub pulled_resized : (n : ℕ) (b c : List ℕ) → IsResized n b c → IsPulled n b c
pulled_resized n b c sized = record { front = sized.front; no_shorter = omega (arith, sized.size); no_longer = omega (arith, sized.size) }

-- Steps that leave all as it is, and two that are one

-- the same but for n bytes
pub same_but_steps : (at n : ℕ) → IsSteps (IsSameBut at n)
same_but_steps at n = record {
  none = λ c. record { outside = λ i out. refl; size = refl };
  both = λ a b c first second. record { outside = λ i out. second.outside i out ∙ first.outside i out; size = second.size ∙ first.size };
}

-- a whole write within a range changes nothing else, where the range lies within the length
pub written_within : (at size w : ℕ) (bytes b c : List ℕ) → at ≤ w → w + length bytes ≤ at + size → at + size ≤ length b → IsWritten w bytes b c → IsSameBut at size b c
written_within at size w bytes b c from to long written = record {
  outside = λ i out. written.outside i (⊎_elim (λ before. inl (omega arith)) (λ after. inr (omega arith)) out);
  size = omega (arith, written.size);
}

-- a smaller range lies within a larger one
pub same_but_wider : (at n wide m : ℕ) (b c : List ℕ) → wide ≤ at → at + n ≤ wide + m → IsSameBut at n b c → IsSameBut wide m b c
same_but_wider at n wide m b c from to same = record {
  outside = λ i out. same.outside i (⊎_elim (λ before. inl (omega arith)) (λ after. inr (omega arith)) out);
  size = same.size;
}

-- a part of bytes that stand
pub stands_first : (a : ℕ) (xs ys c : List ℕ) → HasBytesAt a (xs ++ ys) c → HasBytesAt a xs c
stands_first a xs ys c stands i lt = stands i (omega (arith, lt, length-append xs ys)) ∙ get_or_append_left xs ys 0 i lt

pub stands_second : (a : ℕ) (xs ys c : List ℕ) → HasBytesAt a (xs ++ ys) c → HasBytesAt (a + length xs) ys c
stands_second a xs ys c stands i lt =
    let e : a + length xs + i ≡ a + (length xs + i) = omega arith in
    let k : length xs + i - length xs ≡ i = omega arith in
    ap (λ n. get_or c n 0) e ∙ stands (length xs + i) (omega (arith, lt, length-append xs ys)) ∙ get_or-append_right xs ys (length xs) (length xs + i) 0 refl (omega arith) ∙ ap (λ n. get_or ys n 0) k

-- bytes that stand in both images are equal
pub stands_same : (a : ℕ) (xs ys c : List ℕ) → length xs ≡ length ys → HasBytesAt a xs c → HasBytesAt a ys c → xs ≡ ys
stands_same a xs ys c long first second = same_bytes xs ys long (λ i lt. sym (first i (omega (arith, lt, long))) ∙ second i lt)
