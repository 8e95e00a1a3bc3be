use Rattle.std.proofs.Common.{◌≡◌, ◌<◌, ℕ, suc, ◌+◌, List, ◌∷◌, map, length, get_or, drop, Option, refl, sym, ◌∙◌, ap, arith}
use Rattle.std.specs.Option.{option_and_then}
use Rattle.std.proofs.Math.Seq.{drop-cons}
use Rattle.std.proofs.lemmas.List.{drop_all}
use Rattle.tq_model.specs.DeviceForm as form
use Rattle.tq_model.specs.DeviceForm.{journal_with, journal_after}
use Rattle.tq_site.specs.Payloads.{journal_view, option_view}
use Rattle.tq_site.proofs.payloads.journal_after.Goals as goal

-- one payload more is read
read_on : {V : Type 0} (items : V → List ℕ) (vs : List V) (i : ℕ) (v : V) (j : form.Journal) (payload : List ℕ) (o : Option form.Journal) → i < length vs → v ≡ get_or vs i v → payload ≡ items v → o ≡ journal_with j payload
    → journal_after (map items (drop i vs)) j ≡ option_and_then (journal_after (map items (drop (i + 1) vs))) o
read_on items vs i v j payload o lt is same reads =
    let next : suc i ≡ i + 1 = omega arith in
    ap (λ rest. journal_after (map items rest) j) (drop-cons vs i v lt ∙ ap (λ x. x ∷ drop (suc i) vs) (sym is))
    ∙ ap (λ n. option_and_then (journal_after (map items (drop n vs))) (journal_with j (items v))) next
    ∙ ap (option_and_then (journal_after (map items (drop (i + 1) vs)))) (ap (journal_with j) (sym same) ∙ sym reads)

pub loop-payload-init : goal.loop-payload-init
loop-payload-init c = refl

pub returns-in_err-journal : goal.returns-in_err-journal
returns-in_err-journal c =
    let read = λ (o : Option form.Journal). option_and_then (journal_after (map (λ v. v.items) (drop (c.loop-payload.payload-index + 1) c.args.payloads.now))) o in
    ap option_view c.from_residual.ensures
    ∙ sym (ap (λ o. read (option_view o)) c.in_err-journal.was)
    ∙ sym (read_on (λ v. v.items) c.args.payloads.now c.loop-payload.payload-index c.payload-item.result (journal_view c.loop-payload.journal) c.deref.result.now (option_view c.journal_with.result)
    c.loop-payload-test.true c.payload-item.is c.deref.ensures.value c.journal_with.ensures)
    ∙ c.loop-payload.invariant

pub loop-payload-preserved : goal.loop-payload-preserved
loop-payload-preserved c =
    sym (read_on (λ v. v.items) c.args.payloads.now c.loop-payload.payload-index c.payload-item.result (journal_view c.loop-payload.journal) c.deref.result.now (option_view c.journal_with.result)
    c.loop-payload-test.true c.payload-item.is c.deref.ensures.value c.journal_with.ensures
    ∙ ap (λ o. option_and_then (journal_after (map (λ v. v.items) (drop (c.loop-payload.payload-index + 1) c.args.payloads.now))) (option_view o)) c.in_ok-journal.was)
    ∙ c.loop-payload.invariant

pub returns : goal.returns
returns c =
    let end = drop_all c.loop-payload.payload-index c.args.payloads.now c.loop-payload-test.false in
    sym (ap (λ rest. journal_after (map (λ v. v.items) rest) (journal_view c.loop-payload.journal)) end) ∙ c.loop-payload.invariant
