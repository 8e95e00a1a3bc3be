use Rattle.std.proofs.Common.{◌∙◌}
use Rattle.tq_model.specs.Moves.{entry_view, session_owners}
use Rattle.tq_machine.proofs.SpaceSteps.{added-queues}
use Rattle.tq_machine.proofs.space_lists.add_at.Goals as goal

pub returns-clause-ok : goal.returns-clause-ok
returns-clause-ok c =
    λ name found. c.purge_all.ensures
    ∙ added-queues c.args.clock name (entry_view session_owners c.args.entry) c.args.queues.now c.args.place c.index-queues-place.result c.add.new.self found c.in_ok-add.ensures.ok
