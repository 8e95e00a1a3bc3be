use Rattle.std.proofs.Common.{◌≡◌, ◌+◌, ◌*◌, true, length, sym, ap, ◌∙◌, subst, arith}
use Rattle.tq_field.specs.Places.{number_at}
use Rattle.tq_extent.specs.Bytes.{owned_bytes, reaches}
use Rattle.tq_extent.proofs.BytesLemmas.{length-owned}
use Rattle.tq_pages.specs.Store.{Store}
use Rattle.tq_pages.proofs.ContentLemmas.{number_read}
use Rattle.tq_pages.proofs.store.PageStore.numbers.Goals as goal

pub returns-clause-next : goal.returns-clause-next
returns-clause-next g c = λ told.
    let i = c.self.inside in
    let here : Store = record { dev = i.dev; clusters = i.map; free = i.free; next = i.next.items; sizes = i.sizes.items } in
    let old = g.H.Host.view c.args.host.now in
    let page = c.args.page in
    let bytes = c.read_at.new.into in
    let reach : reaches i.map (old.reads i.dev) ≡ true = subst (λ (s : Store). reaches s.clusters (old.reads s.dev) ≡ true) (sym c.self.view_is) (c.requires.reach told) in
    let owned = owned_bytes i.map (old.reads i.dev) in
    let long = length-owned i.map (old.reads i.dev) reach in
    let mapped = c.self.invariant.store.mapped in
    let size = ap (λ (s : Store). length s.free) c.self.view_is in
    let six : length bytes ≡ 6 = c.read_at.ensures.size in
    let number = number_read (1024 * page) 0 4 bytes owned (omega arith) (omega (arith, c.requires.page)) (c.in_ok-read_at.ensures.bytes told) in
    c.number-next.ensures ∙ subst (λ (s : Store). number_at 0 4 bytes ≡ number_at (1024 * page) 4 (owned_bytes s.clusters (old.reads s.dev))) c.self.view_is (number ∙ (let e : 1024 * page + 0 ≡ 1024 * page = omega arith in ap (λ a. number_at a 4 owned) e))

pub returns-clause-used : goal.returns-clause-used
returns-clause-used g c = λ told.
    let i = c.self.inside in
    let here : Store = record { dev = i.dev; clusters = i.map; free = i.free; next = i.next.items; sizes = i.sizes.items } in
    let old = g.H.Host.view c.args.host.now in
    let page = c.args.page in
    let bytes = c.read_at.new.into in
    let reach : reaches i.map (old.reads i.dev) ≡ true = subst (λ (s : Store). reaches s.clusters (old.reads s.dev) ≡ true) (sym c.self.view_is) (c.requires.reach told) in
    let owned = owned_bytes i.map (old.reads i.dev) in
    let long = length-owned i.map (old.reads i.dev) reach in
    let mapped = c.self.invariant.store.mapped in
    let size = ap (λ (s : Store). length s.free) c.self.view_is in
    let six : length bytes ≡ 6 = c.read_at.ensures.size in
    let number = number_read (1024 * page) 4 2 bytes owned (omega arith) (omega (arith, c.requires.page)) (c.in_ok-read_at.ensures.bytes told) in
    c.into-used.ensures ∙ c.short.ensures ∙ subst (λ (s : Store). number_at 4 2 bytes ≡ number_at (1024 * page + 4) 2 (owned_bytes s.clusters (old.reads s.dev))) c.self.view_is number
