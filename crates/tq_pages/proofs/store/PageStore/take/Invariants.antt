use Rattle.std.proofs.Common.{◌≡◌, ◌<◌, true}
use Rattle.tq_pages.specs.Store.{is_free, page_of, HasTaken, IsStore}
use Rattle.tq_pages.proofs.store.PageStore.take.Given as goal

abbrev pub invariant-loop-k : goal.invariant-loop-k
invariant-loop-k l = record {
  taken : HasTaken l.initial.self l.first l.k l.self;
  sizes : l.self.sizes ≡ l.initial.self.sizes;
  page : page_of l.self l.first l.k ≡ l.page;
  free : l.k < l.count → is_free l.self l.page ≡ true;
  store : IsStore l.self;
}
