use Rattle.std.proofs.Common.{rules}
use Rattle.std.proofs.lemmas.List.Sorted.{answers_always}
use Rattle.tq_slottable.proofs.PlaceLemmas.{search_found, search_gap}
use Rattle.tq_slottable.proofs.places.find_used.Goals as goal

pub returns-clause-found : goal.returns-clause-found
returns-clause-found c =
    let by_key = c.binary_search_by_key.ensures.position (λ p. p.arrival) (answers_always _ _ _ (λ f a r g called. search rules)) in
    search_found c.args.used.now c.args.arrival.now c.binary_search_by_key.result by_key

pub returns-clause-gap : goal.returns-clause-gap
returns-clause-gap c =
    let by_key = c.binary_search_by_key.ensures.position (λ p. p.arrival) (answers_always _ _ _ (λ f a r g called. search rules)) in
    search_gap c.args.used.now c.args.arrival.now c.binary_search_by_key.result c.binary_search_by_key.ensures.bound by_key
