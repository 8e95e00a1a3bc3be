use Rattle.std.proofs.Common.{◌∙◌, ◌≤◌, inl, inr, arith}
use Rattle.tq_host.proofs.Bytes.{before_or_after}
use Rattle.tq_host.specs.View.{View}
use Rattle.tq_gate.proofs.OpenGateLemmas.{IsRead, is_read, opened_is, refused_is, device_not_refused}
use Rattle.tq_gate.proofs.log.GateLog.load.Goals as goal

pub returns-clause-loaded : goal.returns-clause-loaded
returns-clause-loaded g c =
    let layout = c.args.layout in
    let dev = layout.dev in
    let reads = λ (v : View). v.reads dev in
    let image = reads (g.H.Host.view c.args.host.now) in
    let area = c.in_ok-area.area in
    let first = c.choose_area.ensures.quiet.still.reads dev in
    let is : g.H.Host.tells.reads → IsRead layout area c.in_ok-base.base.items c.deref.result.now image = λ t.
    is_read layout area _ _ c.in_ok-base.base.items c.deref.result.now image (reads (g.H.Host.view c.choose_area.new.host))
    (reads (g.H.Host.view c.read_bytes.new.host)) (c.requires.reach t) (c.in_ok-area.ensures.area t)
    c.base_length-base_length.ensures c.log_length.ensures first (c.read_bytes.ensures.quiet.still.reads dev ∙ first) (c.in_ok-base.ensures.bytes t)
    (c.deref.ensures.value ∙ c.in_ok-log.ensures.bytes t) in
    opened_is layout area c.in_ok-area.ensures.placed c.in_ok-base.base.items c.deref.result.now image g.H.Host.tells.reads is c.open_log.result
    c.open_log.ensures.layout c.open_log.ensures.area c.open_log.ensures.base c.open_log.ensures.records c.open_log.ensures.end c.open_log.ensures.shut

pub returns-clause-refused : goal.returns-clause-refused
returns-clause-refused g c =
    let layout = c.args.layout in
    let dev = layout.dev in
    let reads = λ (v : View). v.reads dev in
    let image = reads (g.H.Host.view c.args.host.now) in
    let area = c.in_ok-area.area in
    let first = c.choose_area.ensures.quiet.still.reads dev in
    let is : g.H.Host.tells.reads → IsRead layout area c.in_ok-base.base.items c.deref.result.now image = λ t.
    is_read layout area _ _ c.in_ok-base.base.items c.deref.result.now image (reads (g.H.Host.view c.choose_area.new.host))
    (reads (g.H.Host.view c.read_bytes.new.host)) (c.requires.reach t) (c.in_ok-area.ensures.area t)
    c.base_length-base_length.ensures c.log_length.ensures first (c.read_bytes.ensures.quiet.still.reads dev ∙ first) (c.in_ok-base.ensures.bytes t)
    (c.deref.ensures.value ∙ c.in_ok-log.ensures.bytes t) in
    refused_is layout area c.in_ok-area.ensures.placed c.in_ok-base.base.items c.deref.result.now image g.H.Host.tells.reads is c.open_log.result c.open_log.ensures.refused

pub returns-clause-cause : goal.returns-clause-cause
returns-clause-cause g c =
    let none : (g.H.Host.view c.read_bytes-2.new.host).faults ≤ (g.H.Host.view c.args.host.now).faults =
    elim (before_or_after (g.H.Host.view c.read_bytes.new.host).faults (g.H.Host.view c.read_bytes-2.new.host).faults) [
      | inl rose ↦ let failed = c.in_ok-log.ensures.cause.only rose in absurd (cc)
      | inr same ↦ elim (before_or_after (g.H.Host.view c.choose_area.new.host).faults (g.H.Host.view c.read_bytes.new.host).faults) [
        | inl rose ↦ let failed = c.in_ok-base.ensures.cause.only rose in absurd (cc)
        | inr still ↦ omega (arith, c.in_ok-area.ensures.cause.ok)
      ]
    ] in
    record {
      later = omega (arith, c.choose_area.ensures.cause.later, c.read_bytes.ensures.cause.later, c.read_bytes-2.ensures.cause.later);
      rose = λ failed. absurd (device_not_refused c.args.layout c.in_ok-area.area c.deref.result.now c.open_log.result c.open_log.ensures.refused failed);
      only = λ risen. absurd (omega (arith, none));
    }
