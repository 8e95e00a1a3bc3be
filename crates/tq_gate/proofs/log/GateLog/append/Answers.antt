use Rattle.std.proofs.Common.{◌≡◌, ◌+◌, ◌-◌, ℕ, List, length, true, arith}
use Rattle.tq_host.specs.View.{View}
use Rattle.tq_extent.specs.Bytes.{reaches}
use Rattle.tq_gate.specs.Frame.{payload_in}
use Rattle.tq_gate.specs.Layout.{clusters_of, bytes_in}
use Rattle.tq_gate.specs.Log.{IsOpen, IsSameButIn, HasAdded, added}
use Rattle.tq_gate.proofs.FrameLemmas.{length-payload_in}
use Rattle.tq_gate.proofs.PictureLemmas.{keeps_old, images_too}
use Rattle.tq_gate.proofs.StageLemmas.{log_steps, appends, appended}
use Rattle.tq_gate.proofs.log.GateLog.append.Goals as goal

pub returns-in_err-stage-clause-stop : goal.returns-in_err-stage-clause-stop
returns-in_err-stage-clause-stop g c = λ has.
    let log = c.args.self.now in
    let old = g.H.Host.view c.args.host.now in
    keeps_old log (IsSameButIn log.layout log.area) (log_steps log) old (HasAdded log (payload_in c.args.frame.now) (old.reads log.layout.dev))
    (g.H.Host.view c.stage.new.host) (c.stage.ensures.stop has)

pub returns-in_err-open_gate-clause-stop : goal.returns-in_err-open_gate-clause-stop
returns-in_err-open_gate-clause-stop g c = λ has.
    appends c.args.self.now (payload_in c.args.frame.now) (g.H.Host.view c.args.host.now) (g.H.Host.view c.stage.new.host) (g.H.Host.view c.open_gate.new.host)
    (g.met.H.Host.lawful c.args.host.now) (g.met.H.Host.lawful c.stage.new.host) has
    (c.stage.ensures.stop has) c.in_ok-stage.ensures.staged c.stage.ensures.outside c.in_ok-stage.ensures.settled c.open_gate.ensures.stop

pub returns-clause-stop : goal.returns-clause-stop
returns-clause-stop g c = λ has.
    appends c.args.self.now (payload_in c.args.frame.now) (g.H.Host.view c.args.host.now) (g.H.Host.view c.stage.new.host) (g.H.Host.view c.open_gate.new.host)
    (g.met.H.Host.lawful c.args.host.now) (g.met.H.Host.lawful c.stage.new.host) has
    (c.stage.ensures.stop has) c.in_ok-stage.ensures.staged c.stage.ensures.outside c.in_ok-stage.ensures.settled c.open_gate.ensures.stop

pub returns-clause-added : goal.returns-clause-added
returns-clause-added g c = λ told k is.
    let log = c.args.self.now in
    let x = payload_in c.args.frame.now in
    let reads = λ (v : View). v.reads log.layout.dev in
    let size : 5 + length x ≡ length c.stage.new.frame - 1 = omega (arith, c.stage.auto.frame, c.requires.frame, length-payload_in c.args.frame.now c.requires.frame) in
    let both = appended log k x (length c.stage.new.frame - 1) (reads (g.H.Host.view c.args.host.now)) (reads (g.H.Host.view c.stage.new.host))
    (reads (g.H.Host.view c.open_gate.new.host)) size
    (c.stage.ensures.outside told) (c.open_gate.ensures.outside told) is (c.in_ok-stage.ensures.staged told k)
    (c.in_ok-open_gate.ensures.opened told k x) in
    record { reach = both.0; is = both.1 }

pub returns-clause-images : goal.returns-clause-images
returns-clause-images g c = λ k has image may.
    let log = c.args.self.now in
    let x = payload_in c.args.frame.now in
    let reads = λ (v : View). v.reads log.layout.dev in
    let n = length c.stage.new.frame - 1 in
    let size : 5 + length x ≡ n = omega (arith, c.stage.auto.frame, c.requires.frame, length-payload_in c.args.frame.now c.requires.frame) in
    let both = images_too log k
    (λ (d : List ℕ). (reaches (clusters_of log.layout) d ≡ true) × IsOpen log.layout log.area (log.end + n) (added k x) (bytes_in log.layout d))
    (g.H.Host.view c.args.host.now) (g.H.Host.view c.open_gate.new.host)
    (g.met.H.Host.lawful c.args.host.now) (g.met.H.Host.lawful c.open_gate.new.host) has
    (λ told is. appended log k x n (reads (g.H.Host.view c.args.host.now)) (reads (g.H.Host.view c.stage.new.host)) (reads (g.H.Host.view c.open_gate.new.host)) size
    (c.stage.ensures.outside told) (c.open_gate.ensures.outside told) is (c.in_ok-stage.ensures.staged told k)
    (c.in_ok-open_gate.ensures.opened told k x)) c.in_ok-open_gate.ensures.settled image may in
    record { reach = both.0; is = both.1 }
