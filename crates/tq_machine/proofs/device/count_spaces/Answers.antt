use Rattle.std.proofs.Common.{◌∙◌, ◌+◌, ap, length, arith, Option}
use Rattle.std.specs.Prelude.{option_to_list}
use Rattle.tq_model.specs.Site.{SpaceOnDevice}
use Rattle.tq_machine.proofs.Tables.{count-more}
use Rattle.tq_machine.proofs.device.count_spaces.Goals as goal

pub loop-entry-preserved : goal.loop-entry-preserved
loop-entry-preserved c = (
  ap (λ n. c.loop-entry.count + n) (c.count_of-count.ensures.count ∙ ap (λ (o : Option SpaceOnDevice). length (option_to_list o)) c.entry-item.is)
      ∙ count-more c.loop-entry.count c.args.entries.now c.loop-entry.entry-index c.entry-item.result c.loop-entry-test.true c.loop-entry.invariant.0,
  omega (arith, c.loop-entry.invariant.1, c.count_of-count.ensures.most),
)
