use Rattle.std.proofs.Common.{◌∙◌, ap, ◌-◌, Option}
use Rattle.std.specs.Prelude.{option_to_list}
use Rattle.std.specs.List.{sum_by}
use Rattle.tq_model.specs.Site.{SpaceOnDevice}
use Rattle.tq_machine.specs.Tables.{space_clusters}
use Rattle.tq_machine.proofs.Tables.{left-more}
use Rattle.tq_machine.proofs.device.left_of.Goals as goal

pub loop-entry-preserved : goal.loop-entry-preserved
loop-entry-preserved c =
    c.left_without-left.ensures ∙ ap (λ (o : Option SpaceOnDevice). c.loop-entry.left - sum_by space_clusters (option_to_list o)) c.entry-item.is
    ∙ left-more space_clusters c.args.clusters c.loop-entry.left c.args.entries.now c.loop-entry.entry-index c.entry-item.result c.loop-entry-test.true c.loop-entry.invariant
