use Rattle.std.proofs.Common.{◌≡◌}
use Rattle.tq_pages.specs.Store.{page_of, HasTaken}
use Rattle.tq_pages.proofs.store.PageStore.give_back.Given as goal

abbrev pub invariant-loop : goal.invariant-loop
invariant-loop l = record {
  taken : HasTaken l.self l.first l.counter l.initial.self;
  next : l.self.next ≡ l.initial.self.next;
  sizes : l.self.sizes ≡ l.initial.self.sizes;
  page : page_of l.initial.self l.first l.counter ≡ l.page;
}
