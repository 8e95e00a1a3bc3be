use Rattle.std.proofs.Common.{◌∙◌, ap, ℕ, Option, length, unwrap_or}
use Rattle.tq_model.specs.Space.{comes_after}
use Rattle.tq_model.proofs.Places.{position-or}
use Rattle.tq_machine.proofs.space_lists.place_by_name.Goals as goal

pub returns : goal.returns
returns c =
    c.unwrap_or.ensures ∙ ap (λ (o : Option ℕ). unwrap_or o (length c.args.queues.now)) c.place_after_name.ensures
    ∙ position-or (comes_after c.args.name.now) c.args.queues.now
