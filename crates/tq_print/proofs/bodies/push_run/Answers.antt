use Rattle.tq_print.proofs.TextRuns.{run_appended}
use Rattle.tq_print.proofs.bodies.push_run.Goals as goal

pub returns-clause-text : goal.returns-clause-text
returns-clause-text c =
    run_appended c.args.text.now.items c.args.bytes.now _ _ _ _ c.plain_run.ensures c.split_at.ensures.front c.split_at.ensures.back c.in_ok-extend_from_slice.ensures.items
