use Rattle.std.proofs.Common.{inl, ap, subst}
use Rattle.tq_host.proofs.Within.{starts}
use Rattle.tq_space.specs.Applied.{plan_applied}
use Rattle.tq_store.specs.Commit.{IsOldOrDone}
use Rattle.tq_store.specs.File.{AreFile, FileState, IsFile, clusters_of}
use Rattle.tq_store.specs.FileView.{file_view}
use Rattle.tq_store.specs.Stored.{IsSameButSpace}
use Rattle.tq_store.proofs.ChangeLemmas.{space_steps}
use Rattle.tq_store.proofs.FileStepLemmas.{in_space}
use Rattle.tq_store.proofs.ReadyLemmas.{ready_base, ready_change, ready_file}
use Rattle.tq_store.proofs.file.SpaceFile.commit.Goals as goal

pub returns-then-is_empty-clause-stop : goal.returns-then-is_empty-clause-stop
returns-then-is_empty-clause-stop g c = λ are.
    let f = c.args.self.now in
    starts f.place.dev (IsSameButSpace (clusters_of f)) (space_steps (clusters_of f)) (IsOldOrDone f c.args.plan) (g.H.Host.view c.args.host.now)
    (λ image may. inl (in_space f image c.space-sound.ensures.sound (are image may)))

pub returns-in_err-change-clause-stop : goal.returns-in_err-change-clause-stop
returns-in_err-change-clause-stop g c = λ are.
    let f = c.args.self.now in
    starts f.place.dev (IsSameButSpace (clusters_of f)) (space_steps (clusters_of f)) (IsOldOrDone f c.args.plan) (g.H.Host.view c.args.host.now)
    (λ image may. inl (in_space f image c.space-sound.ensures.sound (are image may)))

pub returns-in_err-write_change-clause-stop : goal.returns-in_err-write_change-clause-stop
returns-in_err-write_change-clause-stop g c = λ are.
    let f = c.args.self.now in
    let new = c.prepare.new.self in
    let plan = c.args.plan in
    let ready = c.in_ok-change.ensures.ready in
    c.write_change.ensures.stop f (plan_applied plan f.space) new.raw
    (ready_base f new plan c.in_ok-change.change ready c.self.inside.log c.deref.result.now (ap (λ (x : FileState). x.log) c.self.view_is) c.deref.ensures.value)
    (ready_change f new plan c.in_ok-change.change ready c.self.inside.store c.deref-2.result.now c.deref_mut.result.now
    (ap (λ (x : FileState). x.store) c.self.view_is) c.deref-2.ensures.value c.deref_mut.ensures.value) are

pub returns-clause-read : goal.returns-clause-read
returns-clause-read g c = λ told is.
    let f = c.args.self.now in
    let new = c.prepare.new.self in
    let plan = c.args.plan in
    let ready = c.in_ok-change.ensures.ready in
    subst (λ (x : FileState). IsFile x ((g.H.Host.view c.write_change.new.host).reads f.place.dev))
    (ready_file f new plan c.in_ok-change.change ready (file_view c.self.inside) c.self.inside.store c.write_change.new.store c.write_change.new.log
    c.self.view_is c.write_change.ensures.store)
    (c.in_ok-write_change.ensures.read told f (plan_applied plan f.space) new.raw
    (ready_base f new plan c.in_ok-change.change ready c.self.inside.log c.deref.result.now (ap (λ (x : FileState). x.log) c.self.view_is) c.deref.ensures.value)
    (ready_change f new plan c.in_ok-change.change ready c.self.inside.store c.deref-2.result.now c.deref_mut.result.now
    (ap (λ (x : FileState). x.store) c.self.view_is) c.deref-2.ensures.value c.deref_mut.ensures.value) is)

pub returns-clause-images : goal.returns-clause-images
returns-clause-images g c = λ are.
    let f = c.args.self.now in
    let new = c.prepare.new.self in
    let plan = c.args.plan in
    let ready = c.in_ok-change.ensures.ready in
    subst (λ (x : FileState). AreFile x (g.H.Host.view c.write_change.new.host))
    (ready_file f new plan c.in_ok-change.change ready (file_view c.self.inside) c.self.inside.store c.write_change.new.store c.write_change.new.log
    c.self.view_is c.write_change.ensures.store)
    (c.in_ok-write_change.ensures.images f (plan_applied plan f.space) new.raw
    (ready_base f new plan c.in_ok-change.change ready c.self.inside.log c.deref.result.now (ap (λ (x : FileState). x.log) c.self.view_is) c.deref.ensures.value)
    (ready_change f new plan c.in_ok-change.change ready c.self.inside.store c.deref-2.result.now c.deref_mut.result.now
    (ap (λ (x : FileState). x.store) c.self.view_is) c.deref-2.ensures.value c.deref_mut.ensures.value) are)

pub returns-clause-stop : goal.returns-clause-stop
returns-clause-stop g c = λ are.
    let f = c.args.self.now in
    let new = c.prepare.new.self in
    let plan = c.args.plan in
    let ready = c.in_ok-change.ensures.ready in
    c.write_change.ensures.stop f (plan_applied plan f.space) new.raw
    (ready_base f new plan c.in_ok-change.change ready c.self.inside.log c.deref.result.now (ap (λ (x : FileState). x.log) c.self.view_is) c.deref.ensures.value)
    (ready_change f new plan c.in_ok-change.change ready c.self.inside.store c.deref-2.result.now c.deref_mut.result.now
    (ap (λ (x : FileState). x.store) c.self.view_is) c.deref-2.ensures.value c.deref_mut.ensures.value) are
