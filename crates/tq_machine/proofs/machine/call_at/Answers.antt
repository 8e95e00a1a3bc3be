use Rattle.std.proofs.Common.{◌≡◌, ◌∙◌, Option, None, Some, sym, subst, get_or}
use Rattle.std.specs.Prelude.{IfOk, MatchOption}
use Rattle.std.proofs.lemmas.List.{get_or_default}
use Rattle.tq_model.specs.Site.{Volume}
use Rattle.tq_machine.specs.SpaceCalls.{IsReply, logged_outcome}
use Rattle.tq_machine.specs.Tables.{entry_of}
use Rattle.tq_machine.proofs.CallLemmas.{device-within}
use Rattle.tq_machine.proofs.machine.call_at.Goals as goal

pub returns-clause-reply : goal.returns-clause-reply
returns-clause-reply c =
    let ds = c.args.devices.now in
    let dev = c.args.place.dev in
    let within = device-within ds dev c.args.place.entry c.requires in
    let here : get_or ds dev None ≡ Some c.in-Some.device = sym (get_or_default ds dev c.index-devices-place.result None within) ∙ c.in-Some.is in
    subst
    (λ (d : Option Volume). IfOk c.call.result (λ reply. MatchOption (entry_of d c.args.place.entry) ⊥ (λ p. IsReply (logged_outcome c.args.call.now p) reply)))
    (sym here) c.call.ensures.reply
