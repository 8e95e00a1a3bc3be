use Rattle.std.proofs.Common.{sym, ◌∙◌, ap, subst, length-set}
use Rattle.tq_host.specs.Events.{State, blank, replay, events_of, IsFine}
use Rattle.tq_host.proofs.ReplayLemmas.{after_call, shows_next}
use Rattle.tq_host.proofs.outside.Outside.keep.Goals as goal

pub invariant_of-self-2 : goal.invariant_of-self-2
invariant_of-self-2 c =
    let old = c.args.self.now in
    let s = replay blank (events_of old.calls.items) in
    let e = after_call old.calls.items c.push_call.new.calls.items c.args.call c.in_ok-push_call.ensures.ok in
    record {
      eight = length-set old.devices.items c.args.dev c.args.next ∙ old.eight;
      shows = shows_next old.devices.items c.args.dev c.args.next s (replay blank (events_of c.push_call.new.calls.items)) old.eight c.requires.dev old.shows
          (ap (λ (n : State). (n.disks c.args.dev).seen) e ∙ c.requires.leads.own)
          (λ d ne. ap (λ (n : State). (n.disks d).seen) e ∙ c.requires.leads.others d ne);
      fine = subst IsFine (sym e) c.requires.leads.fine;
      gave = old.gave ∙ sym (ap (λ (n : State). n.output) e ∙ c.requires.leads.output);
      took = old.took ∙ sym (ap (λ (n : State). n.taken) e ∙ c.requires.leads.taken);
      within = old.within;
      small = c.in_ok-push_call.ensures.small;
    }
