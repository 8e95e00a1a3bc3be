use Rattle.std.proofs.Common.{◌≡◌, ℕ, List, Vec, sym, ◌∙◌, ap, rules, refl}
use Rattle.std.specs.declared.alloc.Global.{Global}
use Rattle.tq_host.specs.Disk.{overwrite, written}
use Rattle.tq_host.specs.Events.{blank, replay, events_of, write}
use Rattle.tq_host.proofs.Images.{written_fine}
use Rattle.tq_host.proofs.ReplayLemmas.{leads}
use Rattle.tq_host.proofs.outside.Outside.keep_write.Goals as goal

pub keep-requires-clause-leads : goal.keep-requires-clause-leads
keep-requires-clause-leads c =
    let old = c.args.self.now in
    let s = replay blank (events_of old.calls.items) in
    let v = c.in_ok-bytes.bytes in
    let dev = c.args.dev in
    let shown : c.deref.result.now ≡ (s.disks dev).seen = c.deref.ensures.value ∙ ap (λ (w : Vec ℕ Global). w.items) c.index.ensures ∙ old.shows dev c.index.result.now c.requires.dev in
    let e : v.items ≡ c.args.from.now = search rules in
    leads s (write dev c.args.at v.items) dev (written c.args.at v.items (s.disks dev)) refl refl refl old.fine (written_fine c.args.at v.items (s.disks dev) (old.fine dev) c.requires.begin) c.in_ok-next.next.items
    (ap (λ (b : List ℕ). overwrite c.args.at b (s.disks dev).seen) e ∙ ap (λ (b : List ℕ). overwrite c.args.at c.args.from.now b) (sym shown) ∙ sym c.in_ok-next.ensures)
