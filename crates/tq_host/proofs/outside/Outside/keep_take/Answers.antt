use Rattle.std.proofs.Common.{◌+◌, sym, ◌∙◌, ap, subst, arith}
use Rattle.tq_host.specs.declared.call.Call.TheVariants.{Take}
use Rattle.tq_host.specs.Events.{State, IsFine}
use Rattle.tq_host.proofs.ReplayLemmas.{after_call}
use Rattle.tq_host.proofs.outside.Outside.keep_take.Goals as goal

pub invariant_of-self-2 : goal.invariant_of-self-2
invariant_of-self-2 c =
    let old = c.args.self.now in
    let e = after_call old.calls.items c.push_call.new.calls.items (Take c.args.count) c.in_ok-push_call.ensures.ok in
    record {
      eight = old.eight;
      shows = λ d other lt. old.shows d other lt ∙ sym (ap (λ (n : State). (n.disks d).seen) e);
      fine = subst IsFine (sym e) old.fine;
      gave = old.gave ∙ sym (ap (λ (n : State). n.output) e);
      took = ap (λ n. n + c.args.count) old.took ∙ sym (ap (λ (n : State). n.taken) e);
      within = omega (arith, c.requires, old.within);
      small = c.in_ok-push_call.ensures.small;
    }
