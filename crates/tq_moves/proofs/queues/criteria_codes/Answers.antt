use Rattle.std.proofs.Common.{◌∷◌, [], map, ◌∙◌, arith}
use Rattle.std.proofs.lemmas.List.{length-map}
use Rattle.tq_slots.specs.QueueForm.{criterion_number}
use Rattle.tq_slots.proofs.QueueFormLemmas.{three-filled}
use Rattle.tq_moves.proofs.queues.criteria_codes.Goals as goal

pub returns : goal.returns
returns c =
    let numbers = map criterion_number c.args.criteria.now in
    let few = c.requires in
    let size = length-map c.args.criteria.now criterion_number in
    let first = c.code_at.ensures in
    let second = c.code_at-2.ensures in
    let third = c.code_at-3.ensures in
    (λ i. first i ∷ second i ∷ third i ∷ []) ∙ three-filled numbers (omega arith)
