use Rattle.std.proofs.Common.{◌≡◌, ◌+◌, ◌-◌, ℕ, length, take, drop, ap, ◌∙◌, arith}
use Rattle.std.proofs.lemmas.Grind.{common_steps}
use Rattle.std.proofs.lemmas.List.{length-take-le, length-drop}
use Rattle.tq_field.specs.Digits.{digits}
use Rattle.tq_slots.proofs.QueueFormLemmas.{zeros-all}
use Rattle.tq_moves.proofs.bytes.put_zeros.Goals as goal

pub returns-clause-front : goal.returns-clause-front
returns-clause-front c =
    let at = c.args.at in
    let n = c.args.n in
    let bytes = c.args.into.now in
    let room = c.requires in
    let behind = length-drop at bytes in
    let here = length-take-le (at + n - at) (drop at bytes) (omega arith) in
    let size : length (take (at + n - at) (drop at bytes)) ≡ n = omega arith in
    let zero : c.fill.new.self ≡ digits n 0 =
    c.fill.ensures.after (λ y is. is) ∙ zeros-all (length (take (at + n - at) (drop at bytes))) ∙ ap (λ (k : ℕ). digits k 0) size in
    rw zero (grind (arith, common_steps))
