use Rattle.tq_files.proofs.Calls.{take_call, took, within}
use Rattle.tq_files.proofs.file_host.FileHostHost.take.Goals as goal

pub returns-clause-call : goal.returns-clause-call
returns-clause-call c = take_call c.args.self.now.account.tally c.count.new.self.tally c.count.ensures.grown c.count.result c.count.ensures.ok c.count.ensures.err

pub returns-clause-took : goal.returns-clause-took
returns-clause-took c = took c.args.self.now.account.tally c.count.new.self.tally c.count.result c.read-done.new.buf c.count.ensures.grown c.count.ensures.ok c.count.ensures.err (within c.read-done.new.buf c.read-done.result c.count.result c.read-done.ensures.bound c.count.ensures.value)
