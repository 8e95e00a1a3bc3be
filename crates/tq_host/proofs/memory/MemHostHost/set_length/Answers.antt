use Rattle.tq_host.specs.Outside.{account_of}
use Rattle.tq_host.proofs.Views.{small_of, resize_call, resize_changes, resize_done}
use Rattle.tq_host.proofs.memory.MemHostHost.set_length.Goals as goal

pub returns-clause-set : goal.returns-clause-set
returns-clause-set c =
    let old = c.args.self.now.outside in
    let new = c.resize.new.self in
    resize_done c.resize.result c.args.dev c.args.n (account_of old) (account_of new) c.resize.ensures.recorded

pub returns-clause-call : goal.returns-clause-call
returns-clause-call c =
    let old = c.args.self.now.outside in
    let new = c.resize.new.self in
    resize_call c.resize.result c.args.dev c.args.n (account_of old) (account_of new) (small_of new) c.resize.ensures.recorded

pub returns-clause-change : goal.returns-clause-change
returns-clause-change c =
    let old = c.args.self.now.outside in
    let new = c.resize.new.self in
    resize_changes c.resize.result c.args.dev c.args.n (account_of old) (account_of new) c.resize.ensures.recorded old.fine
