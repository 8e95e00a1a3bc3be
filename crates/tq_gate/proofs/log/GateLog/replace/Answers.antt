use Rattle.std.proofs.Common.{◌≡◌, ℕ, List, true}
use Rattle.tq_host.specs.View.{View}
use Rattle.tq_extent.specs.Bytes.{reaches}
use Rattle.tq_gate.specs.Layout.{clusters_of, bytes_in}
use Rattle.tq_gate.specs.Log.{IsOpen, IsSameBeside, HasReplaced, replaced}
use Rattle.tq_gate.proofs.PictureLemmas.{keeps_old, images_too}
use Rattle.tq_gate.proofs.ReplaceLemmas.{beside_steps, replaces, replaced_read}
use Rattle.tq_gate.proofs.log.GateLog.replace.Goals as goal

pub returns-in_err-fill_other-clause-stop : goal.returns-in_err-fill_other-clause-stop
returns-in_err-fill_other-clause-stop g c = λ has.
    let log = c.args.self.now in
    let old = g.H.Host.view c.args.host.now in
    keeps_old log (IsSameBeside log.layout) (beside_steps log) old (HasReplaced log c.args.base.now (old.reads log.layout.dev))
    (g.H.Host.view c.fill_other.new.host) (c.fill_other.ensures.stop has)

pub returns-in_err-choose_other-clause-stop : goal.returns-in_err-choose_other-clause-stop
returns-in_err-choose_other-clause-stop g c = λ has.
    replaces c.args.self.now c.args.base.now (g.H.Host.view c.args.host.now) (g.H.Host.view c.fill_other.new.host) (g.H.Host.view c.choose_other.new.host)
    (g.met.H.Host.lawful c.args.host.now) (g.met.H.Host.lawful c.fill_other.new.host) has
    (c.fill_other.ensures.stop has) c.in_ok-fill_other.ensures.filled c.fill_other.ensures.outside c.in_ok-fill_other.ensures.settled
    c.choose_other.ensures.stop

pub returns-clause-stop : goal.returns-clause-stop
returns-clause-stop g c = λ has.
    replaces c.args.self.now c.args.base.now (g.H.Host.view c.args.host.now) (g.H.Host.view c.fill_other.new.host) (g.H.Host.view c.choose_other.new.host)
    (g.met.H.Host.lawful c.args.host.now) (g.met.H.Host.lawful c.fill_other.new.host) has
    (c.fill_other.ensures.stop has) c.in_ok-fill_other.ensures.filled c.fill_other.ensures.outside c.in_ok-fill_other.ensures.settled
    c.choose_other.ensures.stop

pub returns-clause-replaced : goal.returns-clause-replaced
returns-clause-replaced g c = λ told k is.
    let log = c.args.self.now in
    let reads = λ (v : View). v.reads log.layout.dev in
    let both = replaced_read log k c.args.base.now c.other_area-self.result (reads (g.H.Host.view c.args.host.now))
    (reads (g.H.Host.view c.fill_other.new.host)) (reads (g.H.Host.view c.choose_other.new.host)) c.other_area-self.ensures
    (c.fill_other.ensures.outside told) (c.choose_other.ensures.outside told) is (c.in_ok-fill_other.ensures.filled told k)
    (c.in_ok-choose_other.ensures.chosen told k c.args.base.now) in
    record { reach = both.0; is = both.1 }

pub returns-clause-images : goal.returns-clause-images
returns-clause-images g c = λ k has image may.
    let log = c.args.self.now in
    let reads = λ (v : View). v.reads log.layout.dev in
    let area = c.other_area-self.result in
    let base = c.args.base.now in
    let both = images_too log k (λ (d : List ℕ). (reaches (clusters_of log.layout) d ≡ true) × IsOpen log.layout area 0 (replaced base) (bytes_in log.layout d))
    (g.H.Host.view c.args.host.now) (g.H.Host.view c.choose_other.new.host)
    (g.met.H.Host.lawful c.args.host.now) (g.met.H.Host.lawful c.choose_other.new.host) has
    (λ told is. replaced_read log k base area (reads (g.H.Host.view c.args.host.now)) (reads (g.H.Host.view c.fill_other.new.host)) (reads (g.H.Host.view c.choose_other.new.host)) c.other_area-self.ensures
    (c.fill_other.ensures.outside told) (c.choose_other.ensures.outside told) is (c.in_ok-fill_other.ensures.filled told k)
    (c.in_ok-choose_other.ensures.chosen told k base)) c.in_ok-choose_other.ensures.settled image may in
    record { reach = both.0; is = both.1 }
