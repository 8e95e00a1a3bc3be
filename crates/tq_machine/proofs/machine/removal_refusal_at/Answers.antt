use Rattle.std.proofs.Common.{◌≡◌, ◌∙◌, Option, None, Some, sym, subst, get_or}
use Rattle.std.specs.Prelude.{MatchOption}
use Rattle.std.proofs.lemmas.List.{get_or_default}
use Rattle.tq_model.specs.Site.{Volume}
use Rattle.tq_model.specs.Step.{removal_refusal}
use Rattle.tq_machine.specs.Tables.{entry_of}
use Rattle.tq_machine.proofs.CallLemmas.{device-within}
use Rattle.tq_machine.proofs.machine.removal_refusal_at.Goals as goal

pub returns : goal.returns
returns c = λ s.
    let ds = c.args.devices.now in
    let dev = c.args.place.dev in
    let within = device-within ds dev c.args.place.entry c.requires in
    let here : get_or ds dev None ≡ Some c.in-Some.device = sym (get_or_default ds dev c.index-devices-place.result None within) ∙ sym c.index-devices-place.is ∙ c.in-Some.is in
    subst (λ (d : Option Volume). MatchOption (entry_of d c.args.place.entry) ⊥ (λ p. c.removal_refusal.result ≡ removal_refusal c.args.force s p)) (sym here) (c.removal_refusal.ensures s)
