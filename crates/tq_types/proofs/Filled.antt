-- A list at the front of a blank one.
use Rattle.std.proofs.Common.{◌<◌, ◌≤◌, ℕ, ◌+◌, ◌-◌, List, ◌++◌, length, drop, replicate, refl, ◌∙◌, arith, length-append, length-drop, get_or-drop}
use Rattle.std.proofs.lemmas.List.{length-replicate, get_or-replicate, get_or-append_right}
use Rattle.tq_types.specs.Padded.{IsPadded}

pub padded : {X : Type 0} (most : ℕ) (blank : X) (list : List X) → length list ≤ most
    → IsPadded most blank (length list) (list ++ drop (length list) (replicate most blank))
padded most blank list le =
    record {
      fits = omega (arith, length-append list (drop (length list) (replicate most blank)), length-drop (length list) (replicate most blank), length-replicate most blank);
      within = le;
      rest = λ at from below.
          let inside : length list + (at - length list) < most = omega arith in
          get_or-append_right list (drop (length list) (replicate most blank)) (length list) at blank refl from
          ∙ get_or-drop (length list) (replicate most blank) (at - length list) blank
          ∙ get_or-replicate most (length list + (at - length list)) blank blank inside;
    }
