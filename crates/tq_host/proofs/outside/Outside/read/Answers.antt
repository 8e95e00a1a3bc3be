use Rattle.std.proofs.Common.{◌≡◌, ◌+◌, ◌-◌, ℕ, List, Vec, length, get_or, drop, arith, sym, ◌∙◌, ap}
use Rattle.std.proofs.lemmas.List.{get_or-take, get_or-drop, length-take}
use Rattle.std.specs.declared.alloc.Global.{Global}
use Rattle.tq_host.specs.Events.{blank, replay, events_of}
use Rattle.tq_host.proofs.outside.Outside.read.Goals as goal

pub slice_bounds-copy_from_slice-end : goal.slice_bounds-copy_from_slice-end
slice_bounds-copy_from_slice-end c =
    let old = c.args.self.now in
    let shown = old.shows c.args.dev c.index.result.now c.requires.dev in
    let all : c.index.result.now.items ≡ ((replay blank (events_of old.calls.items)).disks c.args.dev).seen =
    ap (λ (w : Vec ℕ Global). w.items) (c.index.ensures ∙ ap (λ (v : Vec (Vec ℕ Global) Global). get_or v.items c.args.dev c.index.result.now) c.look.ensures.devices) ∙ shown in
    let k = c.deref.ensures.value ∙ all in
    let w = c.requires.within in
    omega (arith, ap length k, w)

pub returns-clause-bytes : goal.returns-clause-bytes
returns-clause-bytes c =
    let old = c.args.self.now in
    let shown = old.shows c.args.dev c.index.result.now c.requires.dev in
    let all : c.index.result.now.items ≡ ((replay blank (events_of old.calls.items)).disks c.args.dev).seen =
    ap (λ (w : Vec ℕ Global). w.items) (c.index.ensures ∙ ap (λ (v : Vec (Vec ℕ Global) Global). get_or v.items c.args.dev c.index.result.now) c.look.ensures.devices) ∙ shown in
    let n = c.copy_from_slice.ensures.after in
    let k = c.deref.ensures.value ∙ all in
    let size = c.args.at + length c.args.into.now - c.args.at in
    λ i lt. sym (ap (λ (l : List ℕ). get_or l i 0) n ∙ get_or-take size (drop c.args.at c.deref.result.now) i 0 (omega (arith, lt, ap length n, length-take size (drop c.args.at c.deref.result.now)))
    ∙ get_or-drop c.args.at c.deref.result.now i 0 ∙ ap (λ (l : List ℕ). get_or l (c.args.at + i) 0) k)
