use Rattle.std.proofs.Common.{◌≡◌, ◌<◌, List, ◌++◌, [], ◌∷◌, length, refl, sym, ◌∙◌, subst}
use Rattle.tq_host.specs.declared.call.Call.{Call}
use Rattle.tq_host.specs.View.{last_count}
use Rattle.tq_host.specs.Events.{State, blank, replay, events_of, LeavesAll}
use Rattle.tq_host.proofs.ReplayLemmas.{after_call, either}
use Rattle.tq_host.proofs.outside.Outside.note.Goals as goal

pub invariant_of-self : goal.invariant_of-self
invariant_of-self c =
    let old = c.args.self.now in
    let new = c.push_call.new.calls.items in
    let s = replay blank (events_of old.calls.items) in
    let n = replay blank (events_of new) in
    let A = new ≡ old.calls.items ++ c.args.call ∷ [] in
    let B = new ≡ old.calls.items in
    let leaves : LeavesAll s n = either c.push_call.result A B (LeavesAll s n) c.push_call.ensures.ok c.push_call.ensures.err
    (λ is. subst (λ (k : State). LeavesAll s k) (sym (after_call old.calls.items new c.args.call is)) c.requires)
    (λ is. subst (λ (l : List Call). LeavesAll s (replay blank (events_of l))) (sym is) (record { seen = λ d. refl; output = refl; taken = refl; fine = old.fine })) in
    record {
      eight = old.eight;
      shows = λ d other lt. old.shows d other lt ∙ sym (leaves.seen d);
      fine = leaves.fine;
      gave = old.gave ∙ sym leaves.output;
      took = old.took ∙ sym leaves.taken;
      within = old.within;
      small = either c.push_call.result (length new < last_count) B (length new < last_count) c.push_call.ensures.small c.push_call.ensures.err (λ lt. lt) (λ is. subst (λ (l : List Call). length l < last_count) (sym is) old.small);
    }
