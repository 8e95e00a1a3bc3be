use Rattle.tq_files.proofs.Calls.{give_call, gave}
use Rattle.tq_files.proofs.file_host.FileHostHost.give.Goals as goal

pub returns-clause-call : goal.returns-clause-call
returns-clause-call c = give_call c.args.self.now.account.tally c.count.new.self.tally c.count.ensures.grown c.count.result c.count.ensures.ok c.count.ensures.err

pub returns-clause-gave : goal.returns-clause-gave
returns-clause-gave c = gave c.args.self.now.account.tally c.count.new.self.tally c.count.result c.args.from.now c.count.ensures.grown c.count.ensures.ok c.count.ensures.err
