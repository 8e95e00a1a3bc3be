use Rattle.std.proofs.Common.{◌≡◌, ◌<◌, ◌≤◌, ◌+◌, ℕ}
use Rattle.tq_extent.specs.Bytes.{owned_bytes, IsQuiet}
use Rattle.tq_pages.specs.Store.{page_of, free_pages, HasTaken, IsStore}
use Rattle.tq_pages.proofs.AdoptLemmas.{IsChained}
use Rattle.tq_pages.proofs.store.PageStore.adopt.Given as goal

abbrev pub invariant-loop-numbers : goal.invariant-loop-numbers
invariant-loop-numbers g l =
    let start = g.H.Host.view l.fn.host in
    let now = g.H.Host.view l.host in
    record {
      begun : IsStore l.fn.self;
      store : IsStore l.self;
      taken : HasTaken l.fn.self l.first l.count l.self;
      sizes : l.self.sizes ≡ l.fn.self.sizes;
      page : page_of l.self l.first l.count ≡ l.page;
      goes_on : (k : ℕ) → k < l.count → 1 ≤ page_of l.self l.first (k + 1);
      chained : g.H.Host.tells.reads → IsChained l.self l.first l.count (owned_bytes l.fn.self.clusters (start.reads l.fn.self.dev));
      quiet : IsQuiet l.fn.self.dev start now;
      faults : now.faults ≡ start.faults;
    }

abbrev pub decreases-loop-numbers : goal.decreases-loop-numbers
decreases-loop-numbers g l = free_pages l.self
