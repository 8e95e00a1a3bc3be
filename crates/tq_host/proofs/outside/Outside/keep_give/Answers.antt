use Rattle.std.proofs.Common.{◌≡◌, ◌++◌, ℕ, List, rules, sym, ◌∙◌, ap, subst}
use Rattle.tq_host.specs.declared.call.Call.TheVariants.{Give}
use Rattle.tq_host.specs.Events.{State, blank, replay, events_of, IsFine}
use Rattle.tq_host.proofs.ReplayLemmas.{after_call}
use Rattle.tq_host.proofs.outside.Outside.keep_give.Goals as goal

pub invariant_of-self-2 : goal.invariant_of-self-2
invariant_of-self-2 c =
    let old = c.args.self.now in
    let v = c.in_ok-bytes.bytes in
    let same : v.items ≡ c.args.from.now = search rules in
    let grown : c.extend_from_slice.new.self.items ≡ old.output.items ++ c.args.from.now = search rules in
    let e = after_call old.calls.items c.push_call.new.calls.items (Give v c.len-clock.result old.counts.device) c.in_ok-push_call.ensures.ok in
    record {
      eight = old.eight;
      shows = λ d other lt. old.shows d other lt ∙ sym (ap (λ (n : State). (n.disks d).seen) e);
      fine = subst IsFine (sym e) old.fine;
      gave = grown ∙ ap (λ (o : List ℕ). o ++ c.args.from.now) old.gave ∙ ap (λ (b : List ℕ). (replay blank (events_of old.calls.items)).output ++ b) (sym same) ∙ sym (ap (λ (n : State). n.output) e);
      took = old.took ∙ sym (ap (λ (n : State). n.taken) e);
      within = old.within;
      small = c.in_ok-push_call.ensures.small;
    }
