use Rattle.std.proofs.Common.{◌∙◌, Option, None, sym, ap, subst}
use Rattle.std.specs.Prelude.{IfOk, IsSome, MatchOption, get_or}
use Rattle.std.proofs.lemmas.List.{get_or_default}
use Rattle.tq_model.specs.Site.{Volume, SpaceOnDevice}
use Rattle.tq_machine.specs.SpaceCalls.{IsReply, logged_outcome}
use Rattle.tq_machine.proofs.CallLemmas.{some-within}
use Rattle.tq_machine.proofs.device.CreatedDevice.call.Goals as goal

pub returns-clause-reply : goal.returns-clause-reply
returns-clause-reply c =
    let entries = c.self.inside.entries.items in
    let at = c.args.entry in
    let view = ap (λ (v : Volume). get_or v.entries at None) c.self.view_is in
    let within = some-within entries at (subst (λ (o : Option SpaceOnDevice). IsSome o) (sym view) c.requires) in
    let here = sym c.in-Some.is ∙ c.index_mut.ensures.value ∙ get_or_default entries at c.index_mut.result.now None within ∙ view in
    subst (λ (o : Option SpaceOnDevice). IfOk c.call.result (λ reply. MatchOption o ⊥ (λ p. IsReply (logged_outcome c.args.call.now p) reply))) here c.call.ensures.reply
