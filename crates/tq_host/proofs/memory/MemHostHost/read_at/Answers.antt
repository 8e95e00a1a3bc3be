use Rattle.tq_host.specs.declared.kind.CallKind.TheVariants as kind
use Rattle.tq_host.specs.Outside.{account_of}
use Rattle.tq_host.proofs.Views.{small_of, look_call, look_still}
use Rattle.tq_host.proofs.memory.MemHostHost.read_at.Goals as goal

pub returns-clause-call : goal.returns-clause-call
returns-clause-call c =
    let old = c.args.self.now.outside in
    let new = c.read.new.self in
    look_call c.read.result kind.Read (account_of old) (account_of new) (small_of new) c.read.ensures.recorded

pub returns-clause-still : goal.returns-clause-still
returns-clause-still c =
    let old = c.args.self.now.outside in
    let new = c.read.new.self in
    look_still c.read.result kind.Read (account_of old) (account_of new) c.read.ensures.recorded
