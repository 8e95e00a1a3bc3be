use Rattle.std.proofs.Common.{ℕ, List, length, arith, sym, subst, ap, ◌∙◌}
use Rattle.std.proofs.lemmas.List.{take_rest}
use Rattle.tq_extent.proofs.BytesLemmas.{reaches_same}
use Rattle.tq_gate.specs.Frame.{payload_in}
use Rattle.tq_gate.specs.Layout.{clusters_of, bytes_in}
use Rattle.tq_gate.specs.Log.{IsStaged, IsSameButIn, IsSameButLog, IsKeptLog}
use Rattle.tq_gate.proofs.FrameLemmas.{length-behind_gate}
use Rattle.tq_gate.proofs.PictureLemmas.{keeps_start, stays}
use Rattle.tq_gate.proofs.StageLemmas.{log_steps, keeps_behind, staged, write_in_log}
use Rattle.tq_gate.proofs.pieces.stage.Goals as goal

pub returns-in_err-write_at-clause-stop : goal.returns-in_err-write_at-clause-stop
returns-in_err-write_at-clause-stop g c = λ has.
    let log = c.args.log.now in
    let old = g.H.Host.view c.args.host.now in
    let size = ap length (take_rest c.close_frame.new.frame 1 ∙ c.close_frame.ensures) ∙ length-behind_gate (payload_in c.args.frame.now) in
    keeps_behind log old old (g.H.Host.view c.write_at.new.host) c.place.result _ (omega arith) (omega (arith, size))
    (keeps_start log (IsSameButIn log.layout log.area) (log_steps log) old has) c.write_at.ensures.stop

pub returns-in_err-sync-clause-stop : goal.returns-in_err-sync-clause-stop
returns-in_err-sync-clause-stop g c = λ has.
    let log = c.args.log.now in
    let old = g.H.Host.view c.args.host.now in
    let mid = g.H.Host.view c.write_at.new.host in
    let size = ap length (take_rest c.close_frame.new.frame 1 ∙ c.close_frame.ensures) ∙ length-behind_gate (payload_in c.args.frame.now) in
    stays log (IsSameButIn log.layout log.area) (log_steps log) (IsKeptLog log (IsSameButLog log) old) old mid (g.H.Host.view c.sync.new.self) c.sync.result
    (keeps_behind log old old mid c.place.result _ (omega arith) (omega (arith, size)) (keeps_start log (IsSameButIn log.layout log.area) (log_steps log) old has) c.write_at.ensures.stop) c.sync.ensures.call c.sync.ensures.still

pub returns-clause-stop : goal.returns-clause-stop
returns-clause-stop g c = λ has.
    let log = c.args.log.now in
    let old = g.H.Host.view c.args.host.now in
    let mid = g.H.Host.view c.write_at.new.host in
    let size = ap length (take_rest c.close_frame.new.frame 1 ∙ c.close_frame.ensures) ∙ length-behind_gate (payload_in c.args.frame.now) in
    stays log (IsSameButIn log.layout log.area) (log_steps log) (IsKeptLog log (IsSameButLog log) old) old mid (g.H.Host.view c.sync.new.self) c.sync.result
    (keeps_behind log old old mid c.place.result _ (omega arith) (omega (arith, size)) (keeps_start log (IsSameButIn log.layout log.area) (log_steps log) old has) c.write_at.ensures.stop) c.sync.ensures.call c.sync.ensures.still

pub returns-clause-staged : goal.returns-clause-staged
returns-clause-staged g c = λ told k is.
    let log = c.args.log.now in
    let x = payload_in c.args.frame.now in
    let old = (g.H.Host.view c.args.host.now).reads log.layout.dev in
    let mid = (g.H.Host.view c.write_at.new.host).reads log.layout.dev in
    let written = c.in_ok-write_at.ensures.written told in
    subst (λ (image : List ℕ). IsStaged log k x image) (sym (c.sync.ensures.still.reads log.layout.dev)) (record {
      reach = reaches_same (clusters_of log.layout) old mid written.size ∙ is.reach;
      is = staged log.layout log.area log.placed log.end k x _ (bytes_in log.layout old) (bytes_in log.layout mid) c.place.result c.requires.fits
          (take_rest c.close_frame.new.frame 1 ∙ c.close_frame.ensures) c.place.ensures is.is written.bytes;
    })

pub returns-in_err-write_at-clause-outside : goal.returns-in_err-write_at-clause-outside
returns-in_err-write_at-clause-outside g c = λ told.
    let size = ap length (take_rest c.close_frame.new.frame 1 ∙ c.close_frame.ensures) ∙ length-behind_gate (payload_in c.args.frame.now) in
    write_in_log c.args.log.now c.place.result _ _ _ (omega arith) (omega (arith, size)) (c.write_at.ensures.outside told)

pub returns-in_err-sync-clause-outside : goal.returns-in_err-sync-clause-outside
returns-in_err-sync-clause-outside g c = λ told.
    let log = c.args.log.now in
    let old = (g.H.Host.view c.args.host.now).reads log.layout.dev in
    let size = ap length (take_rest c.close_frame.new.frame 1 ∙ c.close_frame.ensures) ∙ length-behind_gate (payload_in c.args.frame.now) in
    subst (λ (image : List ℕ). IsSameButLog log old image) (sym (c.sync.ensures.still.reads log.layout.dev))
    (write_in_log log c.place.result _ old _ (omega arith) (omega (arith, size)) (c.write_at.ensures.outside told))

pub returns-clause-outside : goal.returns-clause-outside
returns-clause-outside g c = λ told.
    let log = c.args.log.now in
    let old = (g.H.Host.view c.args.host.now).reads log.layout.dev in
    let size = ap length (take_rest c.close_frame.new.frame 1 ∙ c.close_frame.ensures) ∙ length-behind_gate (payload_in c.args.frame.now) in
    subst (λ (image : List ℕ). IsSameButLog log old image) (sym (c.sync.ensures.still.reads log.layout.dev))
    (write_in_log log c.place.result _ old _ (omega arith) (omega (arith, size)) (c.write_at.ensures.outside told))
