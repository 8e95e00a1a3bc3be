use Rattle.std.proofs.Common.{Some, None, cond, List, ℕ, ap, ◌∙◌}
use Rattle.tq_model.specs.Names.{is_name}
use Rattle.tq_slots.proofs.QueueFormLemmas.{name-there}
use Rattle.tq_moves.proofs.queues.name.Goals as goal

pub unreachable-requires : goal.unreachable-requires
unreachable-requires c =
    name-there c.args.slot.now c.name_in.result c.requires
    (c.name_in.ensures ∙ ap (λ (text : List ℕ). cond (is_name text) (Some text) None) c.name_bytes.ensures) c.in-None.is
