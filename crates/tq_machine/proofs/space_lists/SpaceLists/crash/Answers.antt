use Rattle.std.proofs.Common.{◌∙◌, List, ap, sym, subst, map, length, arith}
use Rattle.std.proofs.lemmas.List.{with_items_is, length-map}
use Rattle.tq_machine.specs.MachineViews.{space_view, IsWithinLimits}
use Rattle.tq_model.specs.Space.{Space, Queue, crashed_queue}
use Rattle.tq_machine.proofs.Limits.{within-crashed}
use Rattle.tq_machine.proofs.space_lists.SpaceLists.crash.Goals as goal

pub invariant_of-self : goal.invariant_of-self
invariant_of-self c =
    let s = space_view c.self.inside in
    let back = with_items_is c.self.inside.queues c.crash_all.new.queues (omega (arith, ap length c.crash_all.ensures, length-map c.deref_mut.result.now crashed_queue, c.deref_mut.ensures.len)) in
    let queues = back ∙ c.crash_all.ensures ∙ ap (map crashed_queue) c.deref_mut.ensures.value in
    subst IsWithinLimits (ap (λ (l : List Queue). let after : Space = record s { queues = l } in after) (sym queues)) (within-crashed s c.self.invariant)
