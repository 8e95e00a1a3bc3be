use Rattle.std.proofs.Common.{◌≡◌, ◌∙◌, Option, None, sym, ap, subst}
use Rattle.std.specs.Prelude.{IsSome, MatchOption, get_or}
use Rattle.std.proofs.lemmas.List.{get_or_default}
use Rattle.tq_model.specs.Site.{Volume, SpaceOnDevice}
use Rattle.tq_model.specs.Step.{removal_refusal}
use Rattle.tq_machine.proofs.CallLemmas.{some-within}
use Rattle.tq_machine.proofs.device.CreatedDevice.removal_refusal.Goals as goal

pub returns : goal.returns
returns c = λ s.
    let entries = c.self.inside.entries.items in
    let at = c.args.entry in
    let view = ap (λ (v : Volume). get_or v.entries at None) c.self.view_is in
    let within = some-within entries at (subst (λ (o : Option SpaceOnDevice). IsSome o) (sym view) c.requires) in
    let here = sym c.in-Some.is ∙ c.index.ensures ∙ get_or_default entries at c.index.result.now None within ∙ view in
    subst (λ (o : Option SpaceOnDevice). MatchOption o ⊥ (λ p. c.removal_refusal.result ≡ removal_refusal c.args.force s p)) here (c.removal_refusal.ensures s)
