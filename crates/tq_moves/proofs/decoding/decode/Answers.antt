use Rattle.std.proofs.Common.{Result, ◌<◌, subst, ℕ, arith}
use Rattle.std.proofs.lemmas.List.Elements.{All-from_get_or}
use Rattle.tq_field.specs.Digits.{AreBytes}
use Rattle.tq_slots.specs.RecordForm.{Record, record_view}
use Rattle.tq_slots.proofs.RecordLemmas.{record-said}
use Rattle.tq_moves.specs.Given.{Gives}
use Rattle.tq_moves.proofs.SetLemmas.{found-by}
use Rattle.tq_moves.proofs.decoding.decode.Goals as goal

pub returns-clause-found : goal.returns-clause-found
returns-clause-found c =
    let are : AreBytes c.args.bytes.now = All-from_get_or (λ b. b < 256) c.args.bytes.now 0 (λ i lt. omega (arith, c.type_inv.bytes i)) in
    found-by c.args.bytes.now c.record.result are c.record.ensures

pub returns-clause-only : goal.returns-clause-only
returns-clause-only c = λ r is spells. subst (λ (read : Result Record ℕ). Gives record_view c.record.result read)
    (record-said r c.args.bytes.now is spells) c.record.ensures
