use Rattle.std.proofs.Common.{◌≡◌, ◌+◌, [], ◌∷◌, ℕ, List, length, take, arith, sym, subst, ◌∙◌}
use Rattle.tq_host.specs.Calls.{IsWritten}
use Rattle.tq_extent.proofs.BytesLemmas.{reaches_same, length-owned}
use Rattle.tq_gate.specs.Layout.{clusters_of, bytes_in, base_length, other_area}
use Rattle.tq_gate.specs.Log.{IsFilled, IsKeptLog, IsSameBeside, IsSameButAreas}
use Rattle.tq_gate.proofs.PictureLemmas.{stays}
use Rattle.tq_gate.proofs.StageLemmas.{same_but_written}
use Rattle.tq_gate.proofs.ReplaceLemmas.{beside_steps, fills_base, fills, other_placed, beside, base_written, base_beside, gate_beside, filled}
use Rattle.tq_gate.proofs.pieces.fill_other.Goals as goal

pub returns-in_err-write_at-clause-stop : goal.returns-in_err-write_at-clause-stop
returns-in_err-write_at-clause-stop g c = λ has.
    fills_base c.args.log.now c.requires.two c.args.base.now c.other_area-area.result (g.H.Host.view c.args.host.now) (g.H.Host.view c.write_at.new.host)
    c.requires.base c.other_area-area.ensures has c.write_at.ensures.stop

pub write_at-requires-2-clause-reach : goal.write_at-requires-2-clause-reach
write_at-requires-2-clause-reach g c = λ told.
    let log = c.args.log.now in
    reaches_same (clusters_of log.layout) ((g.H.Host.view c.args.host.now).reads log.layout.dev) ((g.H.Host.view c.write_at.new.host).reads log.layout.dev)
    (c.write_at.ensures.outside told).size ∙ c.requires.reach told

pub returns-in_err-write_at-2-clause-stop : goal.returns-in_err-write_at-2-clause-stop
returns-in_err-write_at-2-clause-stop g c = λ has.
    fills c.args.log.now c.requires.two c.args.base.now c.other_area-area.result c.base_length.result c.min-gates.result
    (g.H.Host.view c.args.host.now) (g.H.Host.view c.write_at.new.host) (g.H.Host.view c.write_at-2.new.host)
    c.requires.base c.other_area-area.ensures c.base_length.ensures c.min-gates.ensures has c.write_at.ensures.stop c.write_at-2.ensures.stop

pub returns-in_err-sync-clause-stop : goal.returns-in_err-sync-clause-stop
returns-in_err-sync-clause-stop g c = λ has.
    let log = c.args.log.now in
    let old = g.H.Host.view c.args.host.now in
    let new = g.H.Host.view c.write_at-2.new.host in
    stays log (IsSameBeside log.layout) (beside_steps log) (IsKeptLog log (IsSameButAreas log) old) old new (g.H.Host.view c.sync.new.self) c.sync.result
    (fills log c.requires.two c.args.base.now c.other_area-area.result c.base_length.result c.min-gates.result old (g.H.Host.view c.write_at.new.host) new
    c.requires.base c.other_area-area.ensures c.base_length.ensures c.min-gates.ensures has c.write_at.ensures.stop c.write_at-2.ensures.stop)
    c.sync.ensures.call c.sync.ensures.still

pub returns-clause-stop : goal.returns-clause-stop
returns-clause-stop g c = λ has.
    let log = c.args.log.now in
    let old = g.H.Host.view c.args.host.now in
    let new = g.H.Host.view c.write_at-2.new.host in
    stays log (IsSameBeside log.layout) (beside_steps log) (IsKeptLog log (IsSameButAreas log) old) old new (g.H.Host.view c.sync.new.self) c.sync.result
    (fills log c.requires.two c.args.base.now c.other_area-area.result c.base_length.result c.min-gates.result old (g.H.Host.view c.write_at.new.host) new
    c.requires.base c.other_area-area.ensures c.base_length.ensures c.min-gates.ensures has c.write_at.ensures.stop c.write_at-2.ensures.stop)
    c.sync.ensures.call c.sync.ensures.still

pub returns-clause-filled : goal.returns-clause-filled
returns-clause-filled g c = λ told k is.
    let log = c.args.log.now in
    let old = (g.H.Host.view c.args.host.now).reads log.layout.dev in
    let mid = (g.H.Host.view c.write_at.new.host).reads log.layout.dev in
    let new = (g.H.Host.view c.write_at-2.new.host).reads log.layout.dev in
    let base = c.in_ok-write_at.ensures.written told in
    let gate = c.in_ok-write_at-2.ensures.written told in
    let places : c.other_area-area.result + c.base_length.result ≡ other_area log.layout log.area + base_length log.layout = omega (arith, c.other_area-area.ensures, c.base_length.ensures) in
    let other = other_placed log.layout log.area log.placed c.requires.two in
    let long = length-owned (clusters_of log.layout) old is.reach in
    let written : IsWritten (other_area log.layout log.area) c.args.base.now (bytes_in log.layout old)
    (bytes_in log.layout mid) = subst (λ (n : ℕ). IsWritten n c.args.base.now (bytes_in log.layout old) (bytes_in log.layout mid)) c.other_area-area.ensures base.bytes in
    let changed = same_but_written (other_area log.layout log.area) c.args.base.now (bytes_in log.layout old) (bytes_in log.layout mid)
    (omega (arith, other.not_past, other.laid_out.end, c.requires.base)) written in
    subst (λ (image : List ℕ). IsFilled log k c.args.base.now image) (sym (c.sync.ensures.still.reads log.layout.dev)) (record {
      reach = reaches_same (clusters_of log.layout) mid new gate.size ∙ reaches_same (clusters_of log.layout) old mid base.size ∙ is.reach;
      is = filled log.layout log.area log.placed c.requires.two log.end c.min-gates.result k c.args.base.now (bytes_in log.layout mid)
          (bytes_in log.layout new) c.min-gates.ensures
          (beside log.layout log.area log.placed c.requires.two log.end k (other_area log.layout log.area) (length c.args.base.now) (bytes_in log.layout old) (bytes_in log.layout mid) (omega arith) (omega (arith, c.requires.base)) is.is changed).1
          (base_written log.layout log.area log.placed c.requires.two c.args.base.now (bytes_in log.layout old) (bytes_in log.layout mid) c.requires.base (omega (arith, other.laid_out.end)) written)
          (subst (λ (n : ℕ). IsWritten n (take c.min-gates.result (0 ∷ [])) (bytes_in log.layout mid) (bytes_in log.layout new)) places gate.bytes);
    })

pub returns-in_err-write_at-clause-outside : goal.returns-in_err-write_at-clause-outside
returns-in_err-write_at-clause-outside g c = λ told.
    base_beside c.args.log.now c.requires.two c.args.base.now c.other_area-area.result _ _ c.requires.base c.other_area-area.ensures
    (c.write_at.ensures.outside told)

pub returns-in_err-write_at-2-clause-outside : goal.returns-in_err-write_at-2-clause-outside
returns-in_err-write_at-2-clause-outside g c = λ told.
    gate_beside c.args.log.now c.requires.two c.args.base.now c.other_area-area.result c.base_length.result c.min-gates.result _ _ _
    c.requires.base c.other_area-area.ensures c.base_length.ensures c.min-gates.ensures (c.write_at.ensures.outside told) (c.write_at-2.ensures.outside told)

pub returns-in_err-sync-clause-outside : goal.returns-in_err-sync-clause-outside
returns-in_err-sync-clause-outside g c = λ told.
    let log = c.args.log.now in
    let old = (g.H.Host.view c.args.host.now).reads log.layout.dev in
    subst (λ (image : List ℕ). IsSameButAreas log old image) (sym (c.sync.ensures.still.reads log.layout.dev))
    (gate_beside log c.requires.two c.args.base.now c.other_area-area.result c.base_length.result c.min-gates.result old _ _
    c.requires.base c.other_area-area.ensures c.base_length.ensures c.min-gates.ensures (c.write_at.ensures.outside told) (c.write_at-2.ensures.outside told))

pub returns-clause-outside : goal.returns-clause-outside
returns-clause-outside g c = λ told.
    let log = c.args.log.now in
    let old = (g.H.Host.view c.args.host.now).reads log.layout.dev in
    subst (λ (image : List ℕ). IsSameButAreas log old image) (sym (c.sync.ensures.still.reads log.layout.dev))
    (gate_beside log c.requires.two c.args.base.now c.other_area-area.result c.base_length.result c.min-gates.result old _ _
    c.requires.base c.other_area-area.ensures c.base_length.ensures c.min-gates.ensures (c.write_at.ensures.outside told) (c.write_at-2.ensures.outside told))
