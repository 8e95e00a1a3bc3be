use Rattle.std.proofs.Common.{◌∙◌, arith}
use Rattle.std.proofs.lemmas.List.{with_items_is}
use Rattle.tq_model.specs.Site.{Site}
use Rattle.tq_machine.proofs.CallLemmas.{sound-called, site-called}
use Rattle.tq_machine.proofs.machine.Machine.call.Goals as goal

pub invariant_of-self-2 : goal.invariant_of-self-2
invariant_of-self-2 c =
    let s : Site = record { identity = c.self.inside.identity; next = c.self.inside.next; clock = c.self.inside.clock; devices = c.self.inside.devices.items } in
    let devices = with_items_is c.self.inside.devices c.call_at.new.devices (omega arith) ∙ c.in_ok-reply.ensures.devices in
    sound-called c.args.call.now s c.args.self.now c.space.result.now c.in-Some.place.dev c.in-Some.place.entry c.self.view_is c.space.ensures
    c.in-Some.ensures.0 c.in-Some.ensures.1 c.self.invariant _ c.deref_mut.ensures.value _ devices

pub returns-clause-site : goal.returns-clause-site
returns-clause-site c =
    let s : Site = record { identity = c.self.inside.identity; next = c.self.inside.next; clock = c.self.inside.clock; devices = c.self.inside.devices.items } in
    let devices = with_items_is c.self.inside.devices c.call_at.new.devices (omega arith) ∙ c.in_ok-reply.ensures.devices in
    site-called c.args.call.now s c.args.self.now c.space.result.now c.in-Some.place.dev c.in-Some.place.entry c.self.view_is c.space.ensures
    c.in-Some.ensures.0 c.in-Some.ensures.1 c.self.invariant _ c.deref_mut.ensures.value _ devices c.in_ok-reply.reply c.in_ok-reply.ensures.reply
