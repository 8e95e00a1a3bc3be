use Rattle.std.proofs.Common.{◌-◌, arith}
use Rattle.tq_pages.proofs.runs.run_length.Goals as goal

pub overflow_add-page : goal.overflow_add-page
overflow_add-page c =
    let inv = c.loop-count.invariant in
    let some = inv.some in
    let most = inv.most in
    let last = inv.run (c.loop-count.count - 1) (omega arith) in
    let within = c.requires.within (c.loop-count.count - 1) (omega arith) in
    omega (arith, c.requires.few)

pub overflow_add-page-in-loop-count : goal.overflow_add-page-in-loop-count
overflow_add-page-in-loop-count c =
    let inv = c.loop-count.invariant in
    let some = inv.some in
    let most = inv.most in
    let last = inv.run (c.loop-count.count - 1) (omega arith) in
    let within = c.requires.within (c.loop-count.count - 1) (omega arith) in
    omega (arith, c.requires.few)
