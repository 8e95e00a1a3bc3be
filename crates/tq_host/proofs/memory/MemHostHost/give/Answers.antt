use Rattle.std.proofs.Common.{length, refl}
use Rattle.tq_host.specs.declared.counts.Part.TheVariants.{Output}
use Rattle.tq_host.specs.Events.{give_all, pass}
use Rattle.tq_host.specs.declared.kind.CallKind.TheVariants as kind
use Rattle.tq_host.specs.Outside.{account_of}
use Rattle.tq_host.proofs.Views.{small_of, stream_call, give_time, give_done}
use Rattle.tq_host.proofs.memory.MemHostHost.give.Goals as goal

pub returns-clause-call : goal.returns-clause-call
returns-clause-call c =
    let old = c.args.self.now.outside in
    let new = c.give.new.self in
    stream_call Output c.give.result (λ _. give_all c.args.from.now (length (account_of old).events) old.counts.device) (pass kind.Give) (account_of old) (account_of new) (λ x. record { disks = λ s. refl; attached = λ s. refl }) (record { disks = λ s. refl; attached = λ s. refl }) (λ d. refl) (small_of new) c.give.ensures.recorded

pub returns-clause-gave : goal.returns-clause-gave
returns-clause-gave c =
    let old = c.args.self.now.outside in
    let new = c.give.new.self in
    give_done c.give.result c.args.from.now kind.Give (account_of old) (account_of new) c.give.ensures.recorded

pub returns-clause-time : goal.returns-clause-time
returns-clause-time c =
    let old = c.args.self.now.outside in
    let new = c.give.new.self in
    give_time c.give.result c.args.from.now (length (account_of old).events) old.counts.device kind.Give (account_of old) (account_of new) c.give.ensures.recorded
