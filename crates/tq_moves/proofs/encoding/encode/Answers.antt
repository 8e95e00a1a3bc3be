use Rattle.std.proofs.Common.{◌++◌, ◌∷◌, [], ℕ, List, sym, ap, subst, ◌∙◌}
use Rattle.tq_field.specs.Digits.{digits}
use Rattle.tq_slots.specs.RecordForm.{IsSpelling, record_view, spelt}
use Rattle.tq_slots.proofs.RecordLemmas.{record-spelt}
use Rattle.tq_moves.proofs.ByteLemmas.{framed}
use Rattle.tq_moves.proofs.encoding.encode.Goals as goal

pub returns-clause-frame : goal.returns-clause-frame
returns-clause-frame c =
    let payload = spelt (record_view c.args.rec.now) in
    (framed c.push.new.self.items payload
    (c.in_ok-push.ensures.items ∙ ap (λ (l : List ℕ). l ++ 0 ∷ [])
    (c.in_ok-push_record.ensures.bytes ∙ ap (λ (l : List ℕ). l ++ payload) (c.in_ok-push_zeros.ensures
    ∙ ap (λ (l : List ℕ). l ++ digits 5 0) c.new-frame.ensures.items)))).0

pub returns-clause-spelt : goal.returns-clause-spelt
returns-clause-spelt c =
    let payload = spelt (record_view c.args.rec.now) in
    (framed c.push.new.self.items payload
    (c.in_ok-push.ensures.items ∙ ap (λ (l : List ℕ). l ++ 0 ∷ [])
    (c.in_ok-push_record.ensures.bytes ∙ ap (λ (l : List ℕ). l ++ payload) (c.in_ok-push_zeros.ensures
    ∙ ap (λ (l : List ℕ). l ++ digits 5 0) c.new-frame.ensures.items)))).1

pub returns-clause-spells : goal.returns-clause-spells
returns-clause-spells c =
    subst (IsSpelling (record_view c.args.rec.now)) (sym (returns-clause-spelt c))
    (record-spelt (record_view c.args.rec.now) c.in_ok-push_record.ensures.sets)
