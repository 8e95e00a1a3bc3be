use Rattle.std.proofs.Common.{◌≡◌, ◌+◌, ◌*◌, ◌<◌, List, ℕ, sym, ap, subst, ◌∙◌, arith}
use Rattle.std.specs.Prelude.{set}
use Rattle.tq_field.specs.Places.{with_number}
use Rattle.tq_gate.specs.Frame.{payload_in}
use Rattle.tq_slots.specs.declared.record.Set.{Set}
use Rattle.tq_slots.specs.RecordForm.{AreSets, IsSpelling, Record, record_view, spelt, is_message, key_of, with_first}
use Rattle.tq_slots.proofs.FirstPageLemmas.{place-below, message-is, changed-set, first-written}
use Rattle.tq_slots.proofs.RecordLemmas.{record-spelt}
use Rattle.tq_moves.proofs.RangeLemmas.{changed-fit}
use Rattle.tq_moves.proofs.first_page.set_first.Goals as goal

pub index-requires : goal.index-requires
index-requires c =
    let below = place-below c.args.at c.args.rec.now.sets.items c.requires.message in
    let long = c.args.rec.now.sets.ok in
    omega arith

pub index_mut-requires : goal.index_mut-requires
index_mut-requires c =
    let below = place-below c.args.at c.args.rec.now.sets.items c.requires.message in
    let long = c.args.rec.now.sets.ok in
    omega arith

pub overflow_mul-at : goal.overflow_mul-at
overflow_mul-at c = let below = place-below c.args.at c.args.rec.now.sets.items c.requires.message in omega arith

pub overflow_add-at : goal.overflow_add-at
overflow_add-at c = let below = place-below c.args.at c.args.rec.now.sets.items c.requires.message in omega arith

pub set_number-requires : goal.set_number-requires
set_number-requires c =
    let sets = c.args.rec.now.sets.items in
    let found = c.index.result.now in
    let low = subst (λ (s : Set). key_of s < 131072) c.index.ensures
    (c.with_first.ensures.low (ap is_message c.index.ensures ∙ message-is c.args.at sets found c.requires.message)) in
    let fits = (first-written c.args.at c.args.page (record_view c.args.rec.now) found c.args.frame.now c.requires.«record».ascending c.requires.message low
    c.requires.frame c.requires.spelt).0 in
    omega arith

pub returns-clause-sets : goal.returns-clause-sets
returns-clause-sets c =
    changed-set c.args.at c.args.page c.args.rec.now.sets.items c.index.result.now c.with_first.result c.requires.message
    (c.with_first.ensures.set ∙ ap (with_first c.args.page) c.index.ensures)

pub returns-clause-spelt : goal.returns-clause-spelt
returns-clause-spelt c =
    let sets = c.args.rec.now.sets.items in
    let found = c.index.result.now in
    let low = subst (λ (s : Set). key_of s < 131072) c.index.ensures
    (c.with_first.ensures.low (ap is_message c.index.ensures ∙ message-is c.args.at sets found c.requires.message)) in
    let place : 23 + 67 * c.args.at ≡ 67 * c.args.at + 23 = omega arith in
    ap payload_in (c.set_number.ensures ∙ ap (λ (p : ℕ). with_number p 4 c.args.page c.args.frame.now) place)
    ∙ (first-written c.args.at c.args.page (record_view c.args.rec.now) found c.args.frame.now c.requires.«record».ascending c.requires.message low
    c.requires.frame c.requires.spelt).1
    ∙ ap (λ (l : List Set). spelt (record { kind = c.args.rec.now.kind; sets = l })) (sym (changed-set c.args.at c.args.page sets found c.with_first.result
    c.requires.message (c.with_first.ensures.set ∙ ap (with_first c.args.page) c.index.ensures)))

pub returns-clause-ranges : goal.returns-clause-ranges
returns-clause-ranges c = λ are.
    subst AreSets (sym (returns-clause-sets c)) (changed-fit c.args.at c.args.page c.args.rec.now.sets.items (omega arith) are)

pub returns-clause-spells : goal.returns-clause-spells
returns-clause-spells c = λ are.
    let after : Record = record { kind = c.args.rec.now.kind; sets = set c.args.rec.now.sets.items c.args.at c.with_first.result } in
    subst (IsSpelling after) (sym (returns-clause-spelt c)) (record-spelt after (returns-clause-ranges c are))
