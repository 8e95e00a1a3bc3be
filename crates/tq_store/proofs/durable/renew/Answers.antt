use Rattle.std.proofs.Common.{refl, subst}
use Rattle.tq_host.specs.View.{IsSettled}
use Rattle.tq_host.proofs.Within.{starts}
use Rattle.tq_store.specs.Change.{with_log}
use Rattle.tq_store.specs.File.{clusters_of}
use Rattle.tq_store.specs.Stored.{HasSpace, IsSameButSpace}
use Rattle.tq_store.proofs.ChangeLemmas.{space_steps}
use Rattle.tq_store.proofs.FileStepLemmas.{all_settled, have_log, in_space, own_dev, read_replaced, stops_replaced}
use Rattle.tq_store.proofs.durable.renew.Goals as goal

pub returns-in_err-replace-clause-stop : goal.returns-in_err-replace-clause-stop
returns-in_err-replace-clause-stop g c = λ f base_is are.
    let log = c.args.log.now in
    let before = g.H.Host.view c.args.host.now in
    stops_replaced f base_is.sound log base_is.log_is c.args.full c.args.base.now before (g.H.Host.view c.replace.new.host) (g.met.H.Host.lawful c.args.host.now)
    base_is c.if-full.true are (c.replace.ensures.stop (have_log f base_is.sound log base_is.log_is before are))

pub returns-in_ok-replace-clause-read : goal.returns-in_ok-replace-clause-read
returns-in_ok-replace-clause-read g c = λ told f base_is is.
    read_replaced f base_is.sound c.args.log.now base_is.log_is c.replace.new.self c.args.full c.args.base.now (g.H.Host.view c.args.host.now)
    (g.H.Host.view c.replace.new.host) base_is c.if-full.true c.replace.ensures.layout (c.replace.ensures.outside told)
    (c.in_ok-replace.ensures.replaced told) is

pub returns-in_ok-replace-clause-images : goal.returns-in_ok-replace-clause-images
returns-in_ok-replace-clause-images g c = λ f base_is are.
    let log = c.args.log.now in
    let after = g.H.Host.view c.replace.new.host in
    all_settled f (with_log f c.replace.new.self) (g.H.Host.view c.args.host.now) after (g.met.H.Host.lawful c.args.host.now)
    (g.met.H.Host.lawful c.replace.new.host) refl
    (subst (λ d. IsSettled d after) (own_dev f base_is.sound log base_is.log_is) c.in_ok-replace.ensures.settled)
    (λ told is. returns-in_ok-replace-clause-read g c told f base_is is) are

pub returns-in_ok-replace-clause-stop : goal.returns-in_ok-replace-clause-stop
returns-in_ok-replace-clause-stop g c = λ f base_is are.
    let log = c.args.log.now in
    let before = g.H.Host.view c.args.host.now in
    stops_replaced f base_is.sound log base_is.log_is c.args.full c.args.base.now before (g.H.Host.view c.replace.new.host) (g.met.H.Host.lawful c.args.host.now)
    base_is c.if-full.true are (c.replace.ensures.stop (have_log f base_is.sound log base_is.log_is before are))

pub returns-else-full-clause-stop : goal.returns-else-full-clause-stop
returns-else-full-clause-stop g c = λ f base_is are.
    starts f.place.dev (IsSameButSpace (clusters_of f)) (space_steps (clusters_of f)) (HasSpace f.place (clusters_of f) f.space) (g.H.Host.view c.args.host.now)
    (λ image may. in_space f image base_is.sound (are image may))
