use Rattle.std.proofs.Common.{◌==◌, ℕ, List, arith, sym, subst, ap, ◌∙◌}
use mir.Val.{bool_byte}
use Rattle.tq_extent.proofs.BytesLemmas.{length-owned}
use Rattle.tq_gate.specs.Layout.{clusters_of, bytes_in, other_area}
use Rattle.tq_gate.specs.Log.{IsOpen, IsChoosing, IsSameBeside, IsSameButAreas, replaced}
use Rattle.tq_gate.proofs.PictureLemmas.{stays}
use Rattle.tq_gate.proofs.ReplaceLemmas.{beside_steps, chooses, chooses_other, selected, selector_within, selector_beside}
use Rattle.tq_gate.proofs.pieces.choose_other.Goals as goal

pub returns-in_err-write_at-clause-stop : goal.returns-in_err-write_at-clause-stop
returns-in_err-write_at-clause-stop g c = λ k base read has.
    chooses c.args.log.now c.requires.two c.in-Two.selector c.in-Two.is k base read (g.H.Host.view c.args.host.now)
    (g.H.Host.view c.write_at.new.host) has c.write_at.ensures.stop

pub returns-in_err-sync-clause-stop : goal.returns-in_err-sync-clause-stop
returns-in_err-sync-clause-stop g c = λ k base read has.
    let log = c.args.log.now in
    let old = g.H.Host.view c.args.host.now in
    let mid = g.H.Host.view c.write_at.new.host in
    stays log (IsSameBeside log.layout) (beside_steps log) (IsChoosing log k base read) old mid (g.H.Host.view c.sync.new.self) c.sync.result
    (chooses log c.requires.two c.in-Two.selector c.in-Two.is k base read old mid has c.write_at.ensures.stop) c.sync.ensures.call c.sync.ensures.still

pub returns-clause-stop : goal.returns-clause-stop
returns-clause-stop g c = λ k base read has.
    let log = c.args.log.now in
    let old = g.H.Host.view c.args.host.now in
    let mid = g.H.Host.view c.write_at.new.host in
    stays log (IsSameBeside log.layout) (beside_steps log) (IsChoosing log k base read) old mid (g.H.Host.view c.sync.new.self) c.sync.result
    (chooses log c.requires.two c.in-Two.selector c.in-Two.is k base read old mid has c.write_at.ensures.stop) c.sync.ensures.call c.sync.ensures.still

pub returns-clause-chosen : goal.returns-clause-chosen
returns-clause-chosen g c = λ told k base is.
    let log = c.args.log.now in
    let old = (g.H.Host.view c.args.host.now).reads log.layout.dev in
    let mid = (g.H.Host.view c.write_at.new.host).reads log.layout.dev in
    let within = selector_within log.layout log.area log.placed c.requires.two c.in-Two.selector c.in-Two.is in
    let long = length-owned (clusters_of log.layout) old is.reach in
    let chosen = chooses_other log.layout log.area c.from-chosen.result
    (c.from-chosen.ensures ∙ ap (λ (n : ℕ). bool_byte (log.area == n)) c.first_area.ensures) in
    subst (λ (image : List ℕ). IsOpen log.layout (other_area log.layout log.area) 0 (replaced base) (bytes_in log.layout image))
    (sym (c.sync.ensures.still.reads log.layout.dev))
    (selected log.layout log.area log.placed c.requires.two c.in-Two.selector c.in-Two.is log.end k base (bytes_in log.layout old) (bytes_in log.layout mid) c.from-chosen.result chosen
    (omega (arith, log.placed.laid_out.end)) is.is (c.in_ok-write_at.ensures.written told).bytes)

pub returns-in_err-write_at-clause-outside : goal.returns-in_err-write_at-clause-outside
returns-in_err-write_at-clause-outside g c = λ told.
    selector_beside c.args.log.now c.requires.two c.in-Two.selector c.in-Two.is _ _ (c.write_at.ensures.outside told)

pub returns-in_err-sync-clause-outside : goal.returns-in_err-sync-clause-outside
returns-in_err-sync-clause-outside g c = λ told.
    let log = c.args.log.now in
    let old = (g.H.Host.view c.args.host.now).reads log.layout.dev in
    subst (λ (image : List ℕ). IsSameButAreas log old image) (sym (c.sync.ensures.still.reads log.layout.dev))
    (selector_beside log c.requires.two c.in-Two.selector c.in-Two.is old _ (c.write_at.ensures.outside told))

pub returns-clause-outside : goal.returns-clause-outside
returns-clause-outside g c = λ told.
    let log = c.args.log.now in
    let old = (g.H.Host.view c.args.host.now).reads log.layout.dev in
    subst (λ (image : List ℕ). IsSameButAreas log old image) (sym (c.sync.ensures.still.reads log.layout.dev))
    (selector_beside log c.requires.two c.in-Two.selector c.in-Two.is old _ (c.write_at.ensures.outside told))
