use Rattle.tq_files.proofs.Calls.{device_call}
use Rattle.tq_files.proofs.file_host.FileHostHost.set_length.Goals as goal

pub returns-clause-call : goal.returns-clause-call
returns-clause-call c = device_call c.args.self.now.account.tally c.count.new.self.tally c.count.ensures.grown c.count.result c.count.ensures.ok c.count.ensures.err
