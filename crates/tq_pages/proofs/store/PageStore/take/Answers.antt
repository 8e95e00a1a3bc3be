use Rattle.std.proofs.Common.{◌≡◌, ◌<◌, ◌+◌, length, refl, sym, ap, ◌∙◌, subst, arith}
use Rattle.std.proofs.lemmas.Bool.{lt-ltb}
use Rattle.tq_pages.specs.Store.{Store, is_free, page_of, chain_pages, AreLoose, HasTaken, HasAdded, IsStore}
use Rattle.tq_pages.proofs.StoreLemmas.{store_taken, taken_none, taken_more, next_behind, loose_taken, added}
use Rattle.tq_pages.proofs.store.PageStore.take.Goals as goal

pub loop-k-init : goal.loop-k-init
loop-k-init c =
    let s = c.args.self.now in
    record {
      taken = taken_none s c.first-first.result;
      sizes = refl;
      page = refl;
      free = λ lt. sym (ap (λ (s : Store). is_free s c.first-first.result) c.self.view_is) ∙ c.first-first.ensures;
      store = subst IsStore c.self.view_is c.self.invariant.store;
    }

pub loop-k-preserved : goal.loop-k-preserved
loop-k-preserved c =
    let inv = c.loop-k.invariant in
    let s = c.args.self.now in
    let cur = c.loop-k.self in
    let first = c.first-first.result in
    let k = c.loop-k.k in
    let page = c.loop-k.page in
    let next = c.take_linked-page.result in
    let new = c.take_linked-page.ensures.taken in
    let free = inv.free c.loop-k-test.true in
    record {
      taken = subst (λ (x : Store). HasTaken s first (k + 1) x) (sym new) (taken_more s cur first k page next inv.taken inv.page free inv.store.next_size);
      sizes = ap (λ (x : Store). x.sizes) new ∙ inv.sizes;
      page = ap (λ (x : Store). page_of x first (k + 1)) new ∙ next_behind s cur first k page next inv.taken inv.page free inv.store.next_size;
      free = λ lt. c.take_linked-page.ensures.free (lt-ltb (k + 1) c.chain_pages-count.result lt);
      store = subst IsStore (sym new) (store_taken cur inv.store page next free);
    }

pub set_size-requires-clause-loose : goal.set_size-requires-clause-loose
set_size-requires-clause-loose c =
    let inv = c.loop-k.invariant in
    let is = subst IsStore c.self.view_is c.self.invariant.store in
    let all : c.loop-k.k ≡ chain_pages c.args.size = omega (arith, c.chain_pages-count.ensures) in
    subst (λ n. AreLoose c.loop-k.self c.first-first.result n) all (loose_taken c.args.self.now c.loop-k.self c.first-first.result c.loop-k.k is inv.taken inv.sizes)

pub returns : goal.returns
returns c =
    let inv = c.loop-k.invariant in
    let s = c.args.self.now in
    let first = c.first-first.result in
    let size = c.args.size in
    let is = subst IsStore c.self.view_is c.self.invariant.store in
    let all : c.loop-k.k ≡ chain_pages size = omega (arith, c.chain_pages-count.ensures) in
    let taken = subst (λ n. HasTaken s first n c.loop-k.self) all inv.taken in
    let loose = loose_taken s c.loop-k.self first c.loop-k.k is inv.taken inv.sizes in
    let within : first < length c.loop-k.self.sizes =
    (let some = c.requires.some in
    let here = loose.within 0 (omega arith) in
    let sizes = inv.store.sizes_size in
    omega arith) in
    record { added = subst (λ (x : Store). HasAdded s first size x) (sym c.set_size.ensures) (added s c.loop-k.self first size is taken inv.sizes c.requires.some within) }
