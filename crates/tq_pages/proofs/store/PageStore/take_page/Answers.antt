use Rattle.std.proofs.Common.{◌≡◌, Bool, true, List, set, sym, ap, ◌∙◌, subst}
use Rattle.tq_pages.specs.Store.{Store, is_free, IsStore}
use Rattle.tq_pages.proofs.StoreLemmas.{store_taken}
use Rattle.tq_pages.proofs.store.PageStore.take_page.Goals as goal

pub invariant_of-self : goal.invariant_of-self
invariant_of-self c =
    let i = c.self.inside in
    let here : Store = record { dev = i.dev; clusters = i.map; free = i.free; next = i.next.items; sizes = i.sizes.items } in
    let free : is_free here c.args.page ≡ true = ap (λ (s : Store). is_free s c.args.page) c.self.view_is ∙ c.requires in
    record {
      dev = c.self.invariant.dev;
      room = c.self.invariant.room;
      store = subst (λ (l : List Bool). IsStore (record here { free = l; next = set i.next.items c.args.page c.args.next })) (sym c.take.ensures.pages)
          (store_taken here c.self.invariant.store c.args.page c.args.next free);
    }
