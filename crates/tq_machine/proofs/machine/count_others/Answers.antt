use Rattle.std.proofs.Common.{◌∙◌, ◌+◌, ap, cond, length, set, arith, None, Option, length-set}
use Rattle.std.specs.Prelude.{◌==◌, option_to_list}
use Rattle.tq_model.specs.Site.{Volume}
use Rattle.tq_machine.proofs.Tables.{count-more, beside-single}
use Rattle.tq_machine.proofs.machine.count_others.Goals as goal

pub loop-at-preserved : goal.loop-at-preserved
loop-at-preserved c =
    let ds = c.args.devices.now in
    let dev = c.args.dev in
    let at = c.loop-at.at in
    let size = length-set ds dev (let d : Option Volume = None in d) in (
      ap (λ n. c.loop-at.count + n)
          (c.count_other-count.ensures.count ∙ ap (λ (o : Option Volume). length (option_to_list (cond (at == dev) None o))) c.index-devices-at.is
          ∙ beside-single ds dev at c.index-devices-at.result c.loop-at-test.true)
          ∙ count-more c.loop-at.count (set ds dev None) at c.index-devices-at.result (omega arith) c.loop-at.invariant.0,
      omega (arith, c.loop-at.invariant.1, c.count_other-count.ensures.most),
    )
