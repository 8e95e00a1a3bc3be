use Rattle.std.proofs.Common.{◌∙◌, ap, map}
use Rattle.tq_model.specs.Space.{purged_queue}
use Rattle.tq_model.specs.Moves.{entry_view, queue_of, session_owners}
use Rattle.tq_machine.proofs.QueueLists.{purged_items}
use Rattle.tq_machine.proofs.queue_list.QueueList.purge.Goals as goal

pub returns : goal.returns
returns c =
    let clock = c.args.clock in
    ap (queue_of c.self.inside.def) (ap (map (entry_view session_owners)) c.drop_expired.ensures ∙ purged_items clock c.self.inside.items.items) ∙ ap (purged_queue clock) c.self.view_is
