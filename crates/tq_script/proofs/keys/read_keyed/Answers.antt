use Rattle.std.proofs.Common.{◌≡◌, true, false, map, refl, sym, ◌∙◌}
use Rattle.std.proofs.lemmas.List.{append-nil}
use Rattle.std.specs.List.{list_any}
use Rattle.tq_script.proofs.Scans.{list_any-required}
use Rattle.tq_script.specs.Rows.{given_of, is_required}
use Rattle.tq_script.proofs.keys.read_keyed.Goals as goal

pub returns-then-is_one_required : goal.returns-then-is_one_required
returns-then-is_one_required c =
    let left = c.loop-word.left.items in
    let one : list_any is_required left ≡ true = rw (← c.deref-2.ensures.value) (sym c.is_one_required.ensures ∙ c.if-is_one_required.true) in
    c.loop-word.invariant ∙ rw (c.in_default.ensures.words, list_any-required left, one) refl

pub returns : goal.returns
returns c =
    let left = c.loop-word.left.items in
    let none : list_any is_required left ≡ false = rw (← c.deref-2.ensures.value) (sym c.is_one_required.ensures ∙ c.if-is_one_required.false) in
    c.loop-word.invariant ∙ rw (c.in_default.ensures.words, list_any-required left, none, append-nil (map given_of c.loop-word.given.items)) refl
