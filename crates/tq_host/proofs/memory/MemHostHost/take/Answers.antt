use Rattle.std.proofs.Common.{◌≡◌, ◌-◌, ◌++◌, length, min, take, drop, IfOk, refl, subst, arith}
use Rattle.tq_host.specs.declared.counts.Part.TheVariants.{Input}
use Rattle.tq_host.specs.Events.{take_some, pass}
use Rattle.tq_host.specs.declared.kind.CallKind.TheVariants as kind
use Rattle.tq_host.specs.Outside.{account_of}
use Rattle.tq_host.proofs.Views.{small_of, stream_call, take_time, take_done}
use Rattle.tq_host.proofs.memory.MemHostHost.take.Goals as goal

pub returns-clause-call : goal.returns-clause-call
returns-clause-call c =
    let old = c.args.self.now.outside in
    let new = c.take.new.self in
    stream_call Input c.take.result take_some (pass kind.Take) (account_of old) (account_of new) (λ x. record { disks = λ s. refl; attached = λ s. refl }) (record { disks = λ s. refl; attached = λ s. refl }) (λ d. refl) (small_of new) c.take.ensures.recorded

pub returns-clause-took : goal.returns-clause-took
returns-clause-took c =
    let old = c.args.self.now.outside in
    let new = c.take.new.self in
    take_done c.take.result kind.Take (account_of old) (account_of new) c.args.self.now.piece c.args.into.now c.take.new.into c.take.ensures.recorded c.args.self.now.some c.requires (omega (arith, old.within, old.took)) (subst (λ n. IfOk c.take.result (λ k. k ≡ min (min (length c.args.into.now) c.args.self.now.piece) (length old.script.items - n))) old.took c.take.ensures.count) (subst (λ n. IfOk c.take.result (λ k. c.take.new.into ≡ take k (drop n old.script.items) ++ drop k c.args.into.now)) old.took c.take.ensures.bytes)

pub returns-clause-time : goal.returns-clause-time
returns-clause-time c =
    let old = c.args.self.now.outside in
    let new = c.take.new.self in
    take_time c.take.result kind.Take (account_of old) (account_of new) c.take.ensures.recorded
