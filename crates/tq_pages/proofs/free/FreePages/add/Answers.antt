use Rattle.std.proofs.Common.{◌<◌, ◌+◌, ◌++◌, ◌∷◌, [], Bool, List, length, ap, arith}
use Rattle.std.proofs.lemmas.List.{length-append}
use Rattle.tq_pages.proofs.FreeLemmas.{listed_room, listed_push}
use Rattle.tq_pages.proofs.free.FreePages.add.Goals as goal

pub invariant_of-self-in_err-push-3 : goal.invariant_of-self-in_err-push-3
invariant_of-self-in_err-push-3 c =
    let old = c.self.inside in
    rw (c.in_err-push-3.ensures.items, c.in_ok-push.ensures.items, c.in_ok-push-2.ensures.items) (listed_room old.free.items old.order.items old.place.items old.count 0 0 c.self.invariant)

pub invariant_of-self-2 : goal.invariant_of-self-2
invariant_of-self-2 c =
    let old = c.self.inside in
    let order_size = c.self.invariant.order_size in
    let place_size = c.self.invariant.place_size in
    let few : length old.free.items + 1 < 4294967296 = let size = ap (λ (l : List Bool). length l) c.self.view_is in omega (arith, c.requires) in
    rw (c.in_ok-push-3.ensures.items, c.in_ok-push.ensures.items, c.in_ok-push-2.ensures.items)
    (listed_push old.free.items (old.order.items ++ 0 ∷ []) (old.place.items ++ 0 ∷ []) old.count few
    (omega (arith, length-append old.order.items (0 ∷ []))) (omega (arith, length-append old.place.items (0 ∷ [])))
    (listed_room old.free.items old.order.items old.place.items old.count 0 0 c.self.invariant))
