use Rattle.std.proofs.Common.{◌≡◌, ◌<◌, Bool, true, false, List, length, get_or, set, ap, ◌∙◌, arith}
use Rattle.tq_pages.specs.FreePages.{free_count}
use Rattle.tq_pages.proofs.FreeLemmas.{count-given, count_within, listed_given}
use Rattle.tq_pages.proofs.free.FreePages.give.Goals as goal

pub index_mut-requires : goal.index_mut-requires
index_mut-requires c =
    let old = c.self.inside in
    let within : c.args.page < length old.free.items = let size = ap (λ (l : List Bool). length l) c.self.view_is in omega (arith, c.requires.within) in
    let used : get_or old.free.items c.args.page false ≡ false = ap (λ (l : List Bool). get_or l c.args.page false) c.self.view_is ∙ c.requires.used in
    let room = count_within old.free.items old.order.items old.place.items old.count c.args.page c.self.invariant within used in
    let size = c.self.invariant.order_size in
    omega arith

pub overflow_add-self : goal.overflow_add-self
overflow_add-self c =
    let old = c.self.inside in
    let within : c.args.page < length old.free.items = let size = ap (λ (l : List Bool). length l) c.self.view_is in omega (arith, c.requires.within) in
    let used : get_or old.free.items c.args.page false ≡ false = ap (λ (l : List Bool). get_or l c.args.page false) c.self.view_is ∙ c.requires.used in
    let room = count_within old.free.items old.order.items old.place.items old.count c.args.page c.self.invariant within used in
    let few = c.self.invariant.few in
    omega arith

pub invariant_of-self : goal.invariant_of-self
invariant_of-self c =
    let old = c.self.inside in
    let within : c.args.page < length old.free.items = let size = ap (λ (l : List Bool). length l) c.self.view_is in omega (arith, c.requires.within) in
    let used : get_or old.free.items c.args.page false ≡ false = ap (λ (l : List Bool). get_or l c.args.page false) c.self.view_is ∙ c.requires.used in
    listed_given old.free.items old.order.items old.place.items old.count c.args.page c.self.invariant within used

pub returns-clause-count : goal.returns-clause-count
returns-clause-count c = ap (λ (l : List Bool). free_count (set l c.args.page true)) c.self.view_is ∙ count-given c.args.self.now c.args.page c.requires.within c.requires.used
