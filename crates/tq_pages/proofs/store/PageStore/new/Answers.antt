use Rattle.std.proofs.Common.{◌≤◌, ◌+◌, ◌++◌, ℕ, Bool, true, false, List, length, replicate, sym, ap, ◌∙◌, subst, arith}
use Rattle.tq_pages.specs.Store.{IsStore}
use Rattle.tq_pages.proofs.StoreLemmas.{store_new}
use Rattle.tq_pages.proofs.store.PageStore.new.Goals as goal

pub invariant_of-result : goal.invariant_of-result
invariant_of-result c =
    let first = c.args.first in
    let pages = c.args.pages in
    let few : length c.args.map ≤ 8192 = c.pages-all.ensures.few in
    let sound = store_new c.args.dev first pages c.args.map c.requires.pages few in
    let free = c.in_ok-add_free.ensures
    ∙ ap (λ (l : List Bool). l ++ replicate pages true) (c.in_ok-add_used.ensures ∙ ap (λ (l : List Bool). l ++ replicate first false) c.new-free.ensures) in
    let next = c.in_ok-add_zeros.ensures ∙ ap (λ (l : List ℕ). l ++ replicate (first + pages) 0) c.new-next.ensures.items in
    let sizes = c.in_ok-add_zeros-2.ensures ∙ ap (λ (l : List ℕ). l ++ replicate (first + pages) 0) c.new-sizes.ensures.items in
    record {
      dev = c.requires.dev;
      room = omega (arith, c.in_ok-buffer.ensures.len);
      store = subst IsStore (λ i. record { dev = c.args.dev; clusters = c.args.map; free = sym free i; next = sym next i; sizes = sym sizes i }) sound;
    }
