use Rattle.std.proofs.Common.{◌∙◌, ap, map, ◌++◌, Option}
use Rattle.std.specs.Prelude.{option_to_list}
use Rattle.tq_model.specs.Site.{SpaceOnDevice}
use Rattle.tq_model.specs.Step.{space_line}
use Rattle.tq_machine.proofs.Tables.{lines-more}
use Rattle.tq_machine.proofs.device.lines_of.Goals as goal

pub loop-entry-preserved : goal.loop-entry-preserved
loop-entry-preserved c =
    c.in_ok-add_line.ensures ∙ ap (λ (o : Option SpaceOnDevice). c.loop-entry.lines ++ map space_line (option_to_list o)) c.entry-item.is
    ∙ lines-more space_line c.loop-entry.lines c.args.entries.now c.loop-entry.entry-index c.entry-item.result c.loop-entry-test.true c.loop-entry.invariant
