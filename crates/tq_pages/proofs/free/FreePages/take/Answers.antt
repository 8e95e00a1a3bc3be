use Rattle.std.proofs.Common.{◌≡◌, ◌+◌, ◌-◌, Bool, true, false, List, get_or, set, refl, ap, ◌∙◌, arith}
use Rattle.std.proofs.lemmas.List.{get_or_read}
use Rattle.tq_pages.specs.FreePages.{free_count}
use Rattle.tq_pages.proofs.FreeLemmas.{free_within, count-taken, last_within, listed_taken}
use Rattle.tq_pages.proofs.free.FreePages.take.Goals as goal

pub index_mut-requires-2 : goal.index_mut-requires-2
index_mut-requires-2 c =
    let old = c.self.inside in
    let is_free : get_or old.free.items c.args.page false ≡ true = ap (λ (l : List Bool). get_or l c.args.page false) c.self.view_is ∙ c.requires in
    let below = c.self.invariant.listed c.args.page is_free in
    let within = free_within old.free.items c.args.page is_free in
    let most = c.self.invariant.most in
    let size = c.self.invariant.order_size in
    let place_size = c.self.invariant.place_size in
    let here = last_within old.free.items old.order.items old.place.items old.count c.args.page (get_or old.place.items c.args.page 0) c.index-last.result.now c.self.invariant is_free refl
    (get_or_read old.order.items (old.count - 1) c.index-last.result.now (omega arith) c.index-last.ensures 0) in
    omega arith

pub invariant_of-self : goal.invariant_of-self
invariant_of-self c =
    let old = c.self.inside in
    let is_free : get_or old.free.items c.args.page false ≡ true = ap (λ (l : List Bool). get_or l c.args.page false) c.self.view_is ∙ c.requires in
    let below = c.self.invariant.listed c.args.page is_free in
    let within = free_within old.free.items c.args.page is_free in
    let most = c.self.invariant.most in
    let size = c.self.invariant.order_size in
    let place_size = c.self.invariant.place_size in
    listed_taken old.free.items old.order.items old.place.items old.count c.args.page c.index-place.result.now c.index-last.result.now c.self.invariant is_free
    (get_or_read old.place.items c.args.page c.index-place.result.now (omega arith) c.index-place.ensures 0)
    (get_or_read old.order.items (old.count - 1) c.index-last.result.now (omega arith) c.index-last.ensures 0)

pub returns-clause-count : goal.returns-clause-count
returns-clause-count c = ap (λ (l : List Bool). free_count (set l c.args.page false) + 1) c.self.view_is ∙ count-taken c.args.self.now c.args.page c.requires
