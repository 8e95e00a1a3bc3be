use Rattle.std.proofs.Common.{◌≡◌, ◌<◌, ℕ, Bool, List, sym, subst}
use Rattle.tq_pages.specs.Store.{Store, count_of, page_of, IsStore}
use Rattle.tq_pages.proofs.StoreLemmas.{store_given}
use Rattle.tq_pages.proofs.store.PageStore.give_page.Goals as goal

pub invariant_of-self : goal.invariant_of-self
invariant_of-self c =
    let i = c.self.inside in
    let here : Store = record { dev = i.dev; clusters = i.map; free = i.free; next = i.next.items; sizes = i.sizes.items } in
    let alone = subst (λ (s : Store). (f k : ℕ) → k < count_of s f → page_of s f k ≡ c.args.page → ⊥) (sym c.self.view_is) c.requires.alone in
    record {
      dev = c.self.invariant.dev;
      room = c.self.invariant.room;
      store = subst (λ (l : List Bool). IsStore (record here { free = l })) (sym c.give.ensures.pages) (store_given here c.args.page c.self.invariant.store alone);
    }
