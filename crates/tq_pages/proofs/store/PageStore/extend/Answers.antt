use Rattle.std.proofs.Common.{◌++◌, ℕ, Bool, true, List, length, replicate, sym, ap, ◌∙◌, subst, arith}
use Rattle.tq_pages.specs.Store.{Store, IsStore}
use Rattle.tq_pages.proofs.StoreLemmas.{store_extended}
use Rattle.tq_pages.proofs.store.PageStore.extend.Goals as goal

pub invariant_of-self : goal.invariant_of-self
invariant_of-self c =
    let i = c.self.inside in
    let here : Store = record { dev = i.dev; clusters = i.map; free = i.free; next = i.next.items; sizes = i.sizes.items } in
    let size = ap (λ (s : Store). length s.free) c.self.view_is in
    let all = store_extended here c.self.invariant.store c.args.map c.args.pages (omega (arith, c.requires.pages)) c.pages-all.ensures.few in
    let free = c.in_ok-add_free.ensures ∙ ap (λ (l : List Bool). l ++ replicate c.args.pages true) c.in_ok-free.ensures in
    let next = c.in_ok-add_zeros.ensures ∙ ap (λ (l : List ℕ). l ++ replicate c.args.pages 0) (c.in_ok-next.ensures.items ∙ c.as_slice.ensures.value) in
    let sizes = c.in_ok-add_zeros-2.ensures ∙ ap (λ (l : List ℕ). l ++ replicate c.args.pages 0) (c.in_ok-sizes.ensures.items ∙ c.as_slice-2.ensures.value) in
    record {
      dev = c.self.invariant.dev;
      room = c.self.invariant.room;
      store = subst IsStore (λ i. record { dev = here.dev; clusters = c.args.map; free = sym free i; next = sym next i; sizes = sym sizes i }) all;
    }
