use Rattle.tq_host.specs.Outside.{account_of}
use Rattle.tq_host.proofs.Views.{small_of, write_call, write_changes, write_done}
use Rattle.tq_host.proofs.memory.MemHostHost.write_at.Goals as goal

pub returns-clause-written : goal.returns-clause-written
returns-clause-written c =
    let old = c.args.self.now.outside in
    let new = c.write.new.self in
    write_done c.write.result c.args.dev c.args.at c.args.from.now (account_of old) (account_of new) c.write.ensures.recorded (c.requires.begin tt)

pub returns-clause-call : goal.returns-clause-call
returns-clause-call c =
    let old = c.args.self.now.outside in
    let new = c.write.new.self in
    write_call c.write.result c.args.dev c.args.at c.args.from.now (account_of old) (account_of new) c.write.ensures.recorded (small_of new)

pub returns-clause-change : goal.returns-clause-change
returns-clause-change c =
    let old = c.args.self.now.outside in
    let new = c.write.new.self in
    write_changes c.write.result c.args.dev c.args.at c.args.from.now (account_of old) (account_of new) c.write.ensures.recorded old.fine (c.requires.begin tt)
