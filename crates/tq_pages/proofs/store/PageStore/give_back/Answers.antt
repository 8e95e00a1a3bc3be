use Rattle.std.proofs.Common.{◌≡◌, ◌<◌, ◌+◌, ℕ, List, suc, length, get_or, sym, ap, ◌∙◌, subst, arith}
use Rattle.std.proofs.lemmas.List.{get_or_read}
use Rattle.tq_pages.specs.Store.{Store, page_of, HasTaken}
use Rattle.tq_pages.proofs.StoreLemmas.{given_more}
use Rattle.tq_pages.proofs.store.PageStore.give_back.Goals as goal

pub loop-preserved : goal.loop-preserved
loop-preserved c =
    let inv = c.loop.invariant in
    let first = c.args.first in
    let k = c.loop.counter in
    let page = c.loop.page in
    let old = c.args.self.now in
    let new = c.give_page.ensures in
    let i = c.self.inside in
    let links : i.next.items ≡ old.next = ap (λ (s : Store). s.next) c.self.view_is ∙ inv.next in
    let below : k < c.args.count = c.loop-test.true in
    let within : page < length i.next.items =
    (let loose = c.requires.within k below in
    let long = c.self.invariant.store.next_size in
    let size = ap (λ (s : Store). length s.free) c.self.view_is in
    let same = inv.taken.size in
    let here = inv.page in
    omega arith) in
    let more : k + 1 ≡ suc k = omega arith in
    record {
      taken = subst (λ (s : Store). HasTaken s first (k + 1) old) (sym new) (given_more c.loop.self old first c.args.count k page c.requires below inv.taken inv.next inv.page);
      next = ap (λ (s : Store). s.next) new ∙ inv.next;
      sizes = ap (λ (s : Store). s.sizes) new ∙ inv.sizes;
      page = ap (page_of old first) more ∙ ap (λ p. get_or old.next p 0) inv.page ∙ sym (ap (λ (l : List ℕ). get_or l page 0) links)
          ∙ sym (get_or_read i.next.items page c.index-next.result.now within c.index-next.ensures 0);
    }
