use Rattle.std.proofs.Common.{◌≡◌, ℕ, Vec, length, get_or, ◌∙◌, ap, rules}
use Rattle.std.specs.declared.alloc.Global.{Global}
use Rattle.tq_host.specs.Events.{blank, replay, events_of}
use Rattle.tq_host.proofs.outside.Outside.size.Goals as goal

pub returns-clause-size : goal.returns-clause-size
returns-clause-size c =
    let old = c.args.self.now in
    let shown = old.shows c.args.dev c.index.result.now c.requires in
    let all : c.index.result.now.items ≡ ((replay blank (events_of old.calls.items)).disks c.args.dev).seen =
    ap (λ (w : Vec ℕ Global). w.items) (c.index.ensures ∙ ap (λ (v : Vec (Vec ℕ Global) Global). get_or v.items c.args.dev c.index.result.now) c.look.ensures.devices) ∙ shown in
    let long : length c.index.result.now.items ≡ length ((replay blank (events_of old.calls.items)).disks c.args.dev).seen = ap length all in
    search rules
