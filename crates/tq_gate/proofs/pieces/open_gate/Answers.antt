use Rattle.std.proofs.Common.{◌≡◌, ◌+◌, ℕ, List, length, get_or, arith, sym, subst, ap, ◌∙◌}
use Rattle.tq_extent.proofs.BytesLemmas.{length-owned}
use Rattle.tq_gate.specs.Layout.{clusters_of, bytes_in}
use Rattle.tq_gate.specs.Log.{IsOpen, IsOpening, IsSameButIn, IsSameButLog, added}
use Rattle.tq_gate.proofs.Contents.{log_within}
use Rattle.tq_gate.proofs.PictureLemmas.{stays}
use Rattle.tq_gate.proofs.StageLemmas.{log_steps, opens, opened, same_but_written, write_in_log}
use Rattle.tq_gate.proofs.pieces.open_gate.Goals as goal

pub returns-in_err-write_at-clause-stop : goal.returns-in_err-write_at-clause-stop
returns-in_err-write_at-clause-stop g c = λ k payload read staged.
    opens c.args.log.now k payload read (g.H.Host.view c.args.host.now)
    (g.H.Host.view c.write_at.new.host) c.place.result staged c.place.ensures c.write_at.ensures.stop

pub returns-in_err-sync-clause-stop : goal.returns-in_err-sync-clause-stop
returns-in_err-sync-clause-stop g c = λ k payload read staged.
    let log = c.args.log.now in
    let old = g.H.Host.view c.args.host.now in
    let mid = g.H.Host.view c.write_at.new.host in
    stays log (IsSameButIn log.layout log.area) (log_steps log) (IsOpening log k payload read) old mid (g.H.Host.view c.sync.new.self) c.sync.result
    (opens log k payload read old mid c.place.result staged c.place.ensures c.write_at.ensures.stop) c.sync.ensures.call c.sync.ensures.still

pub returns-clause-stop : goal.returns-clause-stop
returns-clause-stop g c = λ k payload read staged.
    let log = c.args.log.now in
    let old = g.H.Host.view c.args.host.now in
    let mid = g.H.Host.view c.write_at.new.host in
    stays log (IsSameButIn log.layout log.area) (log_steps log) (IsOpening log k payload read) old mid (g.H.Host.view c.sync.new.self) c.sync.result
    (opens log k payload read old mid c.place.result staged c.place.ensures c.write_at.ensures.stop) c.sync.ensures.call c.sync.ensures.still

pub returns-clause-opened : goal.returns-clause-opened
returns-clause-opened g c = λ told k payload staged.
    let log = c.args.log.now in
    let old = bytes_in log.layout ((g.H.Host.view c.args.host.now).reads log.layout.dev) in
    let mid = bytes_in log.layout ((g.H.Host.view c.write_at.new.host).reads log.layout.dev) in
    let within = log_within log.layout log.area log.placed in
    let long = length-owned (clusters_of log.layout) ((g.H.Host.view c.args.host.now).reads log.layout.dev) (c.requires.reach told) in
    let written = (c.in_ok-write_at.ensures.written told).bytes in
    let changed = same_but_written c.place.result _ old mid (omega (arith, c.requires.fits, c.place.ensures, log.placed.laid_out.end)) written in
    let zero : c.place.result + 0 ≡ c.place.result = omega arith in
    let gate : get_or mid c.place.result 0 ≡ 79 = sym (ap (λ n. get_or mid n 0) zero) ∙ written.stands 0 (omega arith) in
    subst (λ (image : List ℕ). IsOpen log.layout log.area (log.end + (5 + length payload)) (added k payload) (bytes_in log.layout image))
    (sym (c.sync.ensures.still.reads log.layout.dev))
    (opened log.layout log.area log.placed log.end k payload old mid c.place.result c.place.ensures staged.is changed gate)

pub returns-in_err-write_at-clause-outside : goal.returns-in_err-write_at-clause-outside
returns-in_err-write_at-clause-outside g c = λ told.
    write_in_log c.args.log.now c.place.result _ _ _ (omega arith) (omega (arith, c.requires.fits)) (c.write_at.ensures.outside told)

pub returns-in_err-sync-clause-outside : goal.returns-in_err-sync-clause-outside
returns-in_err-sync-clause-outside g c = λ told.
    let log = c.args.log.now in
    let old = (g.H.Host.view c.args.host.now).reads log.layout.dev in
    subst (λ (image : List ℕ). IsSameButLog log old image) (sym (c.sync.ensures.still.reads log.layout.dev))
    (write_in_log log c.place.result _ old _ (omega arith) (omega (arith, c.requires.fits)) (c.write_at.ensures.outside told))

pub returns-clause-outside : goal.returns-clause-outside
returns-clause-outside g c = λ told.
    let log = c.args.log.now in
    let old = (g.H.Host.view c.args.host.now).reads log.layout.dev in
    subst (λ (image : List ℕ). IsSameButLog log old image) (sym (c.sync.ensures.still.reads log.layout.dev))
    (write_in_log log c.place.result _ old _ (omega arith) (omega (arith, c.requires.fits)) (c.write_at.ensures.outside told))
