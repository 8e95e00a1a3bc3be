use Rattle.std.proofs.Common.{length, ap, ◌∙◌, arith}
use Rattle.std.proofs.lemmas.Grind.{common_steps}
use Rattle.tq_slots.specs.BaseForm.{raw_slots}
use Rattle.tq_slots.proofs.BaseLemmas.{base-again}
use Rattle.tq_moves.proofs.base.spell_base.Goals as goal

pub returns-clause-bytes : goal.returns-clause-bytes
returns-clause-bytes c = grind (arith, common_steps)

pub returns-clause-ranges : goal.returns-clause-ranges
returns-clause-ranges c =
    record { queues = c.put_queues-at.ensures.ranges; messages = c.put_messages-at.ensures.ranges; branches = c.put_branches-at.ensures.ranges }

pub returns-clause-read : goal.returns-clause-read
returns-clause-read c =
    let queues = c.args.queues.now in
    let messages = c.args.messages.now in
    let branches = c.args.branches.now in
    ap (raw_slots (length queues) (length messages) (length branches)) (returns-clause-bytes c)
    ∙ base-again (record { queues = queues; messages = messages; branches = branches }) (returns-clause-ranges c)
