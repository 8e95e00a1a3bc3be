use Rattle.std.proofs.Common.{◌≡◌, inl, inr, ⊎_elim, ◌<◌, ◌≤◌, ◌+◌, ◌-◌, ◌*◌, ℕ, true, Option, Some, None, List, length, refl, sym, ap, ◌∙◌, subst, arith}
use Rattle.std.specs.Prelude.{IfSome, IfNone}
use Rattle.std.proofs.lemmas.List.{get_or-set_same}
use Rattle.tq_field.specs.Places.{number_at}
use Rattle.tq_extent.specs.Bytes.{owned_bytes, IsQuiet}
use Rattle.tq_extent.proofs.ReadOnlyLemmas.{quiet_on}
use Rattle.tq_pages.specs.declared.adopting.Numbers.{Numbers}
use Rattle.tq_pages.specs.Store.{Store, is_free, free_pages, size_of, page_of, chain_pages, with_taken, with_size, AreLoose, HasTaken, HasAdded, IsStore}
use Rattle.tq_pages.specs.Content.{HasChain, IsFit}
use Rattle.tq_pages.proofs.FreeLemmas.{free_within, count_most, count-taken}
use Rattle.tq_pages.proofs.StoreLemmas.{store_taken, taken_more, next_behind, loose_taken, added, same_back}
use Rattle.tq_pages.proofs.AdoptLemmas.{IsChained, goes_on_more, numbers_more, full_kept, last_used, chained_more, chain_held, chain_bad}
use Rattle.tq_pages.proofs.store.PageStore.adopt.Goals as goal

-- what is said where nothing is found
none_of : (o : Option Numbers) (P : Type 0) → IfNone o P → ((m : Numbers) → o ≡ Some m → ⊥) → P
none_of None P is other = is
none_of (Some m) P is other = absurd (other m refl)

pub give_back-requires : goal.give_back-requires
give_back-requires g c =
    let inv = c.loop-numbers.invariant in
    loose_taken c.args.self.now c.loop-numbers.self c.args.first c.loop-numbers.count inv.begun inv.taken inv.sizes

pub returns-in_default-clause-refused : goal.returns-in_default-clause-refused
returns-in_default-clause-refused g c = λ told.
    let inv = c.loop-numbers.invariant in
    let s = c.args.self.now in
    let cur = c.loop-numbers.self in
    let first = c.args.first in
    let n = c.loop-numbers.count in
    let page = c.loop-numbers.page in
    let start = g.H.Host.view c.args.host.now in
    let now = g.H.Host.view c.loop-numbers.host in
    let bytes = owned_bytes s.clusters (start.reads s.dev) in
    let owned : owned_bytes cur.clusters (now.reads cur.dev) ≡ bytes =
    (λ i. owned_bytes (inv.taken.clusters i) (now.reads (inv.taken.dev i))) ∙ ap (owned_bytes s.clusters) (inv.quiet.still.reads s.dev) in
    let is_fit : List ℕ → Type 0 = λ b. IsFit (number_at (1024 * page) 4 b) (number_at (1024 * page + 4) 2 b) in
    let why = none_of c.in_ok-numbers.field-0 _ c.in_ok-numbers.ensures.none c.in_default.not-Some in
    chain_bad s cur first n page bytes inv.taken inv.page inv.goes_on (inv.chained told)
    (⊎_elim (λ not_free. inl not_free) (λ unfit. inr (λ fit. unfit told (subst is_fit (sym owned) fit))) why)

pub returns-in_default-clause-kept : goal.returns-in_default-clause-kept
returns-in_default-clause-kept g c =
    let inv = c.loop-numbers.invariant in
    let s = c.args.self.now in
    let cur = c.loop-numbers.self in
    let first = c.args.first in
    let n = c.loop-numbers.count in
    let page = c.loop-numbers.page in
    same_back s cur c.give_back.new.self first n inv.begun inv.taken c.give_back.ensures.taken c.give_back.ensures.next c.give_back.ensures.sizes inv.sizes

pub overflow_add-count : goal.overflow_add-count
overflow_add-count g c =
    let inv = c.loop-numbers.invariant in
    let s = c.args.self.now in
    let cur = c.loop-numbers.self in
    let first = c.args.first in
    let n = c.loop-numbers.count in
    let page = c.loop-numbers.page in
    let next = c.in-Some.numbers.next in
    let used = c.in-Some.numbers.used in
    let new = c.take_page.ensures in
    let free : is_free cur page ≡ true = subst (λ (o : Option Numbers). IfSome o (λ m. is_free cur page ≡ true)) c.in-Some.is c.in_ok-numbers.ensures.free in
    let fit : IsFit next used = subst (λ (o : Option Numbers). IfSome o (λ m. IsFit m.next m.used)) c.in-Some.is c.in_ok-numbers.ensures.fit in
    let long = inv.store.next_size in
    let taken : HasTaken s first (n + 1) c.take_page.new.self =
    subst (λ (x : Store). HasTaken s first (n + 1) x) (sym new) (taken_more s cur first n page next inv.taken inv.page free long) in
    let sizes : c.take_page.new.self.sizes ≡ s.sizes = ap (λ (x : Store). x.sizes) new ∙ inv.sizes in
    let most = count_most s.free in
    let mapped = inv.begun.mapped in
    let few = inv.begun.few in
    let counted = taken.count in
    omega arith

pub overflow_mul-size : goal.overflow_mul-size
overflow_mul-size g c =
    let inv = c.loop-numbers.invariant in
    let s = c.args.self.now in
    let cur = c.loop-numbers.self in
    let first = c.args.first in
    let n = c.loop-numbers.count in
    let page = c.loop-numbers.page in
    let next = c.in-Some.numbers.next in
    let used = c.in-Some.numbers.used in
    let new = c.take_page.ensures in
    let free : is_free cur page ≡ true = subst (λ (o : Option Numbers). IfSome o (λ m. is_free cur page ≡ true)) c.in-Some.is c.in_ok-numbers.ensures.free in
    let fit : IsFit next used = subst (λ (o : Option Numbers). IfSome o (λ m. IsFit m.next m.used)) c.in-Some.is c.in_ok-numbers.ensures.fit in
    let long = inv.store.next_size in
    let taken : HasTaken s first (n + 1) c.take_page.new.self =
    subst (λ (x : Store). HasTaken s first (n + 1) x) (sym new) (taken_more s cur first n page next inv.taken inv.page free long) in
    let sizes : c.take_page.new.self.sizes ≡ s.sizes = ap (λ (x : Store). x.sizes) new ∙ inv.sizes in
    let most = count_most s.free in
    let mapped = inv.begun.mapped in
    let few = inv.begun.few in
    let counted = taken.count in
    omega arith

pub overflow_add-size : goal.overflow_add-size
overflow_add-size g c =
    let inv = c.loop-numbers.invariant in
    let s = c.args.self.now in
    let cur = c.loop-numbers.self in
    let first = c.args.first in
    let n = c.loop-numbers.count in
    let page = c.loop-numbers.page in
    let next = c.in-Some.numbers.next in
    let used = c.in-Some.numbers.used in
    let new = c.take_page.ensures in
    let free : is_free cur page ≡ true = subst (λ (o : Option Numbers). IfSome o (λ m. is_free cur page ≡ true)) c.in-Some.is c.in_ok-numbers.ensures.free in
    let fit : IsFit next used = subst (λ (o : Option Numbers). IfSome o (λ m. IsFit m.next m.used)) c.in-Some.is c.in_ok-numbers.ensures.fit in
    let long = inv.store.next_size in
    let taken : HasTaken s first (n + 1) c.take_page.new.self =
    subst (λ (x : Store). HasTaken s first (n + 1) x) (sym new) (taken_more s cur first n page next inv.taken inv.page free long) in
    let sizes : c.take_page.new.self.sizes ≡ s.sizes = ap (λ (x : Store). x.sizes) new ∙ inv.sizes in
    let most = count_most s.free in
    let mapped = inv.begun.mapped in
    let few = inv.begun.few in
    let counted = taken.count in
    let top = fit.1 in
    omega arith

pub set_size-requires-clause-within : goal.set_size-requires-clause-within
set_size-requires-clause-within g c =
    let inv = c.loop-numbers.invariant in
    let s = c.args.self.now in
    let cur = c.loop-numbers.self in
    let first = c.args.first in
    let n = c.loop-numbers.count in
    let page = c.loop-numbers.page in
    let next = c.in-Some.numbers.next in
    let used = c.in-Some.numbers.used in
    let new = c.take_page.ensures in
    let free : is_free cur page ≡ true = subst (λ (o : Option Numbers). IfSome o (λ m. is_free cur page ≡ true)) c.in-Some.is c.in_ok-numbers.ensures.free in
    let fit : IsFit next used = subst (λ (o : Option Numbers). IfSome o (λ m. IsFit m.next m.used)) c.in-Some.is c.in_ok-numbers.ensures.fit in
    let long = inv.store.next_size in
    let taken : HasTaken s first (n + 1) c.take_page.new.self =
    subst (λ (x : Store). HasTaken s first (n + 1) x) (sym new) (taken_more s cur first n page next inv.taken inv.page free long) in
    let sizes : c.take_page.new.self.sizes ≡ s.sizes = ap (λ (x : Store). x.sizes) new ∙ inv.sizes in
    let size = 1016 * (n + 1 - 1) + used in
    let some = fit.0 in
    let top = fit.1 in
    let count_is : n + 1 ≡ chain_pages size = omega arith in
    let within : first < length c.take_page.new.self.sizes =
    (let in_free = free_within s.free first (taken.free 0 (omega arith)) in
    let sizes_size = inv.begun.sizes_size in
    let same = ap (λ (l : List ℕ). length l) sizes in
    omega arith) in
    within

pub set_size-requires-clause-loose : goal.set_size-requires-clause-loose
set_size-requires-clause-loose g c =
    let inv = c.loop-numbers.invariant in
    let s = c.args.self.now in
    let cur = c.loop-numbers.self in
    let first = c.args.first in
    let n = c.loop-numbers.count in
    let page = c.loop-numbers.page in
    let next = c.in-Some.numbers.next in
    let used = c.in-Some.numbers.used in
    let new = c.take_page.ensures in
    let free : is_free cur page ≡ true = subst (λ (o : Option Numbers). IfSome o (λ m. is_free cur page ≡ true)) c.in-Some.is c.in_ok-numbers.ensures.free in
    let fit : IsFit next used = subst (λ (o : Option Numbers). IfSome o (λ m. IsFit m.next m.used)) c.in-Some.is c.in_ok-numbers.ensures.fit in
    let long = inv.store.next_size in
    let taken : HasTaken s first (n + 1) c.take_page.new.self =
    subst (λ (x : Store). HasTaken s first (n + 1) x) (sym new) (taken_more s cur first n page next inv.taken inv.page free long) in
    let sizes : c.take_page.new.self.sizes ≡ s.sizes = ap (λ (x : Store). x.sizes) new ∙ inv.sizes in
    let size = 1016 * (n + 1 - 1) + used in
    let some = fit.0 in
    let top = fit.1 in
    let count_is : n + 1 ≡ chain_pages size = omega arith in
    let within : first < length c.take_page.new.self.sizes =
    (let in_free = free_within s.free first (taken.free 0 (omega arith)) in
    let sizes_size = inv.begun.sizes_size in
    let same = ap (λ (l : List ℕ). length l) sizes in
    omega arith) in
    subst (λ k. AreLoose c.take_page.new.self first k) count_is (loose_taken s c.take_page.new.self first (n + 1) inv.begun taken sizes)

pub returns-then-numbers-eq0-clause-chain : goal.returns-then-numbers-eq0-clause-chain
returns-then-numbers-eq0-clause-chain g c =
    let inv = c.loop-numbers.invariant in
    let s = c.args.self.now in
    let cur = c.loop-numbers.self in
    let first = c.args.first in
    let n = c.loop-numbers.count in
    let page = c.loop-numbers.page in
    let next = c.in-Some.numbers.next in
    let used = c.in-Some.numbers.used in
    let new = c.take_page.ensures in
    let free : is_free cur page ≡ true = subst (λ (o : Option Numbers). IfSome o (λ m. is_free cur page ≡ true)) c.in-Some.is c.in_ok-numbers.ensures.free in
    let fit : IsFit next used = subst (λ (o : Option Numbers). IfSome o (λ m. IsFit m.next m.used)) c.in-Some.is c.in_ok-numbers.ensures.fit in
    let long = inv.store.next_size in
    let taken : HasTaken s first (n + 1) c.take_page.new.self =
    subst (λ (x : Store). HasTaken s first (n + 1) x) (sym new) (taken_more s cur first n page next inv.taken inv.page free long) in
    let sizes : c.take_page.new.self.sizes ≡ s.sizes = ap (λ (x : Store). x.sizes) new ∙ inv.sizes in
    let size = 1016 * (n + 1 - 1) + used in
    let some = fit.0 in
    let top = fit.1 in
    let count_is : n + 1 ≡ chain_pages size = omega arith in
    let within : first < length c.take_page.new.self.sizes =
    (let in_free = free_within s.free first (taken.free 0 (omega arith)) in
    let sizes_size = inv.begun.sizes_size in
    let same = ap (λ (l : List ℕ). length l) sizes in
    omega arith) in
    subst (λ (x : Store). HasAdded s first size x) (sym c.set_size.ensures)
    (added s c.take_page.new.self first size inv.begun (subst (λ k. HasTaken s first k c.take_page.new.self) count_is taken) sizes (omega arith) within)

pub returns-then-numbers-eq0-clause-held : goal.returns-then-numbers-eq0-clause-held
returns-then-numbers-eq0-clause-held g c = λ told.
    let inv = c.loop-numbers.invariant in
    let s = c.args.self.now in
    let cur = c.loop-numbers.self in
    let first = c.args.first in
    let n = c.loop-numbers.count in
    let page = c.loop-numbers.page in
    let next = c.in-Some.numbers.next in
    let used = c.in-Some.numbers.used in
    let new = c.take_page.ensures in
    let free : is_free cur page ≡ true = subst (λ (o : Option Numbers). IfSome o (λ m. is_free cur page ≡ true)) c.in-Some.is c.in_ok-numbers.ensures.free in
    let fit : IsFit next used = subst (λ (o : Option Numbers). IfSome o (λ m. IsFit m.next m.used)) c.in-Some.is c.in_ok-numbers.ensures.fit in
    let long = inv.store.next_size in
    let taken : HasTaken s first (n + 1) c.take_page.new.self =
    subst (λ (x : Store). HasTaken s first (n + 1) x) (sym new) (taken_more s cur first n page next inv.taken inv.page free long) in
    let sizes : c.take_page.new.self.sizes ≡ s.sizes = ap (λ (x : Store). x.sizes) new ∙ inv.sizes in
    let size = 1016 * (n + 1 - 1) + used in
    let some = fit.0 in
    let top = fit.1 in
    let count_is : n + 1 ≡ chain_pages size = omega arith in
    let within : first < length c.take_page.new.self.sizes =
    (let in_free = free_within s.free first (taken.free 0 (omega arith)) in
    let sizes_size = inv.begun.sizes_size in
    let same = ap (λ (l : List ℕ). length l) sizes in
    omega arith) in
    let start = g.H.Host.view c.args.host.now in
    let now = g.H.Host.view c.loop-numbers.host in
    let bytes = owned_bytes s.clusters (start.reads s.dev) in
    let owned : owned_bytes cur.clusters (now.reads cur.dev) ≡ bytes =
    (λ i. owned_bytes (inv.taken.clusters i) (now.reads (inv.taken.dev i))) ∙ ap (owned_bytes s.clusters) (inv.quiet.still.reads s.dev) in
    let next_is : g.H.Host.tells.reads → next ≡ number_at (1024 * page) 4 bytes = λ told.
    subst (λ (o : Option Numbers). IfSome o (λ m. g.H.Host.tells.reads → m.next ≡ number_at (1024 * page) 4 (owned_bytes cur.clusters (now.reads cur.dev))))
    c.in-Some.is c.in_ok-numbers.ensures.next told ∙ ap (number_at (1024 * page) 4) owned in
    let used_is : g.H.Host.tells.reads → used ≡ number_at (1024 * page + 4) 2 bytes = λ told.
    subst (λ (o : Option Numbers). IfSome o (λ m. g.H.Host.tells.reads → m.used ≡ number_at (1024 * page + 4) 2 (owned_bytes cur.clusters (now.reads cur.dev))))
    c.in-Some.is c.in_ok-numbers.ensures.used told ∙ ap (number_at (1024 * page + 4) 2) owned in
    let y = with_size (with_taken cur page next) first size in
    let is : c.set_size.new.self ≡ y = c.set_size.ensures ∙ ap (λ (x : Store). with_size x first size) new in
    let old_sizes = ap (λ (x : Store). length x.sizes) new in
    let size_is : size_of y first ≡ 1016 * n + used = get_or-set_same cur.sizes first size 0 (omega arith) ∙ (let e : size ≡ 1016 * n + used = omega arith in e) in
    let last : page_of y first (n + 1) ≡ 0 = next_behind s cur first n page next inv.taken inv.page free long ∙ c.if-numbers-eq0.true in
    subst (λ (x : Store). HasChain x first bytes) (sym is)
    (chain_held y first n used bytes size_is some top last
    (numbers_more s cur first n page next inv.taken inv.page free long bytes (next_is told) (inv.chained told))
    (full_kept s cur first n page next inv.taken inv.page free long bytes (inv.chained told))
    (last_used s cur first n page next inv.taken inv.page free long bytes used (used_is told)))

pub loop-numbers-smaller : goal.loop-numbers-smaller
loop-numbers-smaller g c =
    let inv = c.loop-numbers.invariant in
    let s = c.args.self.now in
    let cur = c.loop-numbers.self in
    let first = c.args.first in
    let n = c.loop-numbers.count in
    let page = c.loop-numbers.page in
    let next = c.in-Some.numbers.next in
    let used = c.in-Some.numbers.used in
    let new = c.take_page.ensures in
    let free : is_free cur page ≡ true = subst (λ (o : Option Numbers). IfSome o (λ m. is_free cur page ≡ true)) c.in-Some.is c.in_ok-numbers.ensures.free in
    let fit : IsFit next used = subst (λ (o : Option Numbers). IfSome o (λ m. IsFit m.next m.used)) c.in-Some.is c.in_ok-numbers.ensures.fit in
    let long = inv.store.next_size in
    let taken : HasTaken s first (n + 1) c.take_page.new.self =
    subst (λ (x : Store). HasTaken s first (n + 1) x) (sym new) (taken_more s cur first n page next inv.taken inv.page free long) in
    let sizes : c.take_page.new.self.sizes ≡ s.sizes = ap (λ (x : Store). x.sizes) new ∙ inv.sizes in
    let fewer = count-taken cur.free page free in
    let now_free = ap free_pages new in
    omega arith

pub loop-numbers-preserved : goal.loop-numbers-preserved
loop-numbers-preserved g c =
    let inv = c.loop-numbers.invariant in
    let s = c.args.self.now in
    let cur = c.loop-numbers.self in
    let first = c.args.first in
    let n = c.loop-numbers.count in
    let page = c.loop-numbers.page in
    let next = c.in-Some.numbers.next in
    let used = c.in-Some.numbers.used in
    let new = c.take_page.ensures in
    let free : is_free cur page ≡ true = subst (λ (o : Option Numbers). IfSome o (λ m. is_free cur page ≡ true)) c.in-Some.is c.in_ok-numbers.ensures.free in
    let fit : IsFit next used = subst (λ (o : Option Numbers). IfSome o (λ m. IsFit m.next m.used)) c.in-Some.is c.in_ok-numbers.ensures.fit in
    let long = inv.store.next_size in
    let taken : HasTaken s first (n + 1) c.take_page.new.self =
    subst (λ (x : Store). HasTaken s first (n + 1) x) (sym new) (taken_more s cur first n page next inv.taken inv.page free long) in
    let sizes : c.take_page.new.self.sizes ≡ s.sizes = ap (λ (x : Store). x.sizes) new ∙ inv.sizes in
    let start = g.H.Host.view c.args.host.now in
    let now = g.H.Host.view c.loop-numbers.host in
    let bytes = owned_bytes s.clusters (start.reads s.dev) in
    let owned : owned_bytes cur.clusters (now.reads cur.dev) ≡ bytes =
    (λ i. owned_bytes (inv.taken.clusters i) (now.reads (inv.taken.dev i))) ∙ ap (owned_bytes s.clusters) (inv.quiet.still.reads s.dev) in
    let next_is : g.H.Host.tells.reads → next ≡ number_at (1024 * page) 4 bytes = λ told.
    subst (λ (o : Option Numbers). IfSome o (λ m. g.H.Host.tells.reads → m.next ≡ number_at (1024 * page) 4 (owned_bytes cur.clusters (now.reads cur.dev))))
    c.in-Some.is c.in_ok-numbers.ensures.next told ∙ ap (number_at (1024 * page) 4) owned in
    let used_is : g.H.Host.tells.reads → used ≡ number_at (1024 * page + 4) 2 bytes = λ told.
    subst (λ (o : Option Numbers). IfSome o (λ m. g.H.Host.tells.reads → m.used ≡ number_at (1024 * page + 4) 2 (owned_bytes cur.clusters (now.reads cur.dev))))
    c.in-Some.is c.in_ok-numbers.ensures.used told ∙ ap (number_at (1024 * page + 4) 2) owned in
    let after = g.H.Host.view c.fitting.new.host in
    let more : 1 ≤ next = omega (arith, c.if-numbers-eq0.false) in
    let full : used ≡ 1016 = elim fit.2 [ inl none ↦ absurd (omega arith) | inr is ↦ is ] in
    record {
      begun = inv.begun;
      store = subst IsStore (sym new) (store_taken cur inv.store page next free);
      taken = taken;
      sizes = sizes;
      page = ap (λ (x : Store). page_of x first (n + 1)) new ∙ next_behind s cur first n page next inv.taken inv.page free long;
      goes_on = subst (λ (x : Store). (k : ℕ) → k < n + 1 → 1 ≤ page_of x first (k + 1)) (sym new)
          (goes_on_more s cur first n page next inv.taken inv.page free long more inv.goes_on);
      chained = λ told. subst (λ (x : Store). IsChained x first (n + 1) bytes) (sym new)
          (chained_more s cur first n page next inv.taken inv.page free long bytes (next_is told) (sym (used_is told) ∙ full) (inv.chained told));
      quiet = quiet_on s.dev start now after inv.quiet (subst (λ d. IsQuiet d now after) inv.taken.dev c.fitting.ensures.quiet);
      faults = c.in_ok-numbers.ensures.cause.ok ∙ inv.faults;
    }
