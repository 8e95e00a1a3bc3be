use Rattle.std.proofs.Common.{◌≡◌, ◌≤◌, ◌∙◌, ap, length, arith}
use Rattle.std.specs.List.{sum_by}
use Rattle.tq_machine.specs.MachineViews.{space_view}
use Rattle.tq_model.specs.Space.{Space, Queue}
use Rattle.tq_model.specs.Room.{messages_held}
use Rattle.tq_machine.proofs.space_lists.SpaceLists.messages_held.Goals as goal

pub count_held-requires : goal.count_held-requires
count_held-requires c =
    let s = space_view c.self.inside in
    let held : sum_by (λ (q : Queue). length q.items) c.deref.result.now ≡ messages_held s = ap (sum_by (λ (q : Queue). length q.items)) c.deref.ensures.value in
    let most : messages_held s ≤ c.self.inside.limits.messages = c.self.invariant.messages in
    omega (arith, held, most)

pub returns : goal.returns
returns c = c.count_held.ensures ∙ ap (sum_by (λ (q : Queue). length q.items)) c.deref.ensures.value ∙ ap (λ (s : Space). messages_held s) c.self.view_is
