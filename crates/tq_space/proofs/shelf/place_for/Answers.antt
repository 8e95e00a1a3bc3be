use Rattle.std.proofs.Common.{◌∙◌, ap, ℕ, Option, length, unwrap_or}
use Rattle.tq_space.specs.Slots.{slot_test, slot_at, label_before}
use Rattle.tq_model.proofs.Places.{position-or}
use Rattle.tq_space.proofs.shelf.place_for.Goals as goal

pub returns : goal.returns
returns c =
    c.unwrap_or.ensures ∙ ap (λ (o : Option ℕ). unwrap_or o (length c.args.keys.now)) c.place_after.ensures
    ∙ position-or (λ k. slot_test (label_before c.args.order.now c.args.label.now) (slot_at c.args.entries.now.slots k)) c.args.keys.now
