use Rattle.tq_host.specs.declared.kind.CallKind.TheVariants as kind
use Rattle.tq_host.specs.Outside.{account_of}
use Rattle.tq_host.proofs.Views.{small_of, attach_call, attached}
use Rattle.tq_host.proofs.memory.MemHostHost.attach.Goals as goal

pub returns-clause-call : goal.returns-clause-call
returns-clause-call c =
    let old = c.args.self.now.outside in
    let new = c.attach.new.self in
    attach_call c.args.dev c.args.path.now kind.Attach (account_of old) (account_of new) c.attach.result (small_of new) c.attach.ensures.recorded

pub returns-clause-attached : goal.returns-clause-attached
returns-clause-attached c =
    let old = c.args.self.now.outside in
    let new = c.attach.new.self in
    attached c.args.dev c.args.path.now kind.Attach (account_of old) (account_of new) c.attach.result c.attach.ensures.recorded
