use Rattle.std.proofs.Common.{◌<◌, arith}
use Rattle.tq_machine.proofs.Extents.{as_extents-alone}
use Rattle.tq_machine.proofs.joining.close.Goals as goal

pub returns : goal.returns
returns c =
    let some : 0 < c.args.run.count = omega arith in
    rw as_extents-alone c.push.ensures.ok
