use Rattle.std.proofs.Common.{◌∙◌, ap, ℕ, Option, length, unwrap_or}
use Rattle.tq_model.specs.Space.{name_before}
use Rattle.tq_space.specs.declared.shelf.HeldQueue.{HeldQueue}
use Rattle.tq_model.proofs.Places.{position-or}
use Rattle.tq_space.proofs.shelf.place_by_name.Goals as goal

pub returns : goal.returns
returns c =
    c.unwrap_or.ensures ∙ ap (λ (o : Option ℕ). unwrap_or o (length c.args.queues.now)) c.place_after_name.ensures
    ∙ position-or (λ (q : HeldQueue). name_before c.args.name.now q.def.name) c.args.queues.now
