-- Extents with commas between them: the first, and each further one behind a comma.
use Rattle.std.proofs.Common.{◌≡◌, ℕ, List, [], ◌∷◌, ◌++◌, append_assoc, append-nil}
use Rattle.std.specs.Prelude.{codes, decimal}
use Rattle.std.specs.List.{flat_map}
use Rattle.tq_model.specs.declared.answer.Extent.{Extent}
use Rattle.tq_model.specs.Text.{named, extents_text}

abbrev pub next_extent_text : Extent → List ℕ
next_extent_text e = codes "," ++ decimal e.first ++ named (codes "+") e.count

pub extents_text_first : (e : Extent) (more : List Extent) → extents_text (e ∷ more) ≡ decimal e.first ++ named (codes "+") e.count ++ flat_map next_extent_text more
extents_text_first e [] = simp append-nil
extents_text_first e (x ∷ more) = rw (extents_text_first x more) (simp append_assoc)
