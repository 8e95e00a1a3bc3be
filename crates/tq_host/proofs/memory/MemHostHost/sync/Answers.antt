use Rattle.tq_host.specs.declared.kind.CallKind.TheVariants as kind
use Rattle.tq_host.specs.Outside.{account_of}
use Rattle.tq_host.proofs.Views.{small_of, sync_call, sync_still, sync_done}
use Rattle.tq_host.proofs.memory.MemHostHost.sync.Goals as goal

pub returns-clause-durable : goal.returns-clause-durable
returns-clause-durable c =
    let old = c.args.self.now.outside in
    let new = c.sync.new.self in
    sync_done c.sync.result c.args.dev kind.Sync (account_of old) (account_of new) c.sync.ensures.recorded

pub returns-clause-call : goal.returns-clause-call
returns-clause-call c =
    let old = c.args.self.now.outside in
    let new = c.sync.new.self in
    sync_call c.sync.result c.args.dev kind.Sync (account_of old) (account_of new) (small_of new) c.sync.ensures.recorded

pub returns-clause-still : goal.returns-clause-still
returns-clause-still c =
    let old = c.args.self.now.outside in
    let new = c.sync.new.self in
    sync_still c.sync.result c.args.dev kind.Sync (account_of old) (account_of new) old.fine c.sync.ensures.recorded
