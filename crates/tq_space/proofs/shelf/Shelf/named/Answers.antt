use Rattle.std.proofs.Common.{◌≡◌, List, sym, ap, ◌∙◌, subst, Some, None, option_map}
use Rattle.std.specs.Str.{bytes_eq}
use Rattle.std.specs.List.{position, find}
use Rattle.tq_model.specs.Moves.{IndexedQueue}
use Rattle.tq_space.specs.declared.shelf.HeldQueue.{HeldQueue}
use Rattle.tq_space.specs.State.{ShelfValue}
use Rattle.tq_space.specs.Shelf.{indexed_at}
use Rattle.tq_space.specs.Plain.{HasNoExpirations}
use Rattle.tq_space.specs.Reads.{indexed_named, HasDistinctIndices}
use Rattle.tq_space.specs.Reading.{named_of}
use Rattle.tq_space.proofs.Found.{named_none, named_at, distinct_seen, lasting_seen}
use Rattle.tq_space.proofs.shelf.Shelf.named.Goals as goal

pub returns-in_default-clause-named : goal.returns-in_default-clause-named
returns-in_default-clause-named c =
    let queues = c.self.inside.queues.items in
    let slots = c.self.inside.entries.slots in
    let view = ap (λ (v : ShelfValue). v.queues) c.self.view_is in
    let test = λ (q : HeldQueue). bytes_eq q.def.name c.args.name.now in
    let none : position test queues ≡ None = ap (position test) (sym c.deref.ensures.value) ∙ sym c.place_named.ensures ∙ c.in_default.is in
    sym (ap (option_map named_of) (subst (λ (l : List IndexedQueue). find (indexed_named c.args.name.now) l ≡ None) view (named_none slots queues c.args.name.now none)))

pub returns-in_default-clause-indices : goal.returns-in_default-clause-indices
returns-in_default-clause-indices c =
    let queues = c.self.inside.queues.items in
    let slots = c.self.inside.entries.slots in
    let view = ap (λ (v : ShelfValue). v.queues) c.self.view_is in
    subst HasDistinctIndices view (distinct_seen slots queues c.self.invariant.listed)

pub returns-in_default-clause-lasting : goal.returns-in_default-clause-lasting
returns-in_default-clause-lasting c =
    let queues = c.self.inside.queues.items in
    let slots = c.self.inside.entries.slots in
    let view = ap (λ (v : ShelfValue). v.queues) c.self.view_is in
    subst HasNoExpirations view (lasting_seen slots queues c.self.invariant.listed)

pub returns-clause-named : goal.returns-clause-named
returns-clause-named c =
    let queues = c.self.inside.queues.items in
    let slots = c.self.inside.entries.slots in
    let view = ap (λ (v : ShelfValue). v.queues) c.self.view_is in
    let test = λ (q : HeldQueue). bytes_eq q.def.name c.args.name.now in
    let d = c.index-queue.result.now in
    let found : position test queues ≡ Some c.in-Some.at = sym (c.in-Some.ensures ∙ ap (position test) c.deref.ensures.value) in
    let at_d = named_at slots queues c.args.name.now c.in-Some.at d c.index-queue.ensures found in
    sym (ap (option_map named_of) (subst (λ (l : List IndexedQueue). find (indexed_named c.args.name.now) l ≡ Some (indexed_at slots d)) view at_d))

pub returns-clause-indices : goal.returns-clause-indices
returns-clause-indices c =
    let queues = c.self.inside.queues.items in
    let slots = c.self.inside.entries.slots in
    let view = ap (λ (v : ShelfValue). v.queues) c.self.view_is in
    subst HasDistinctIndices view (distinct_seen slots queues c.self.invariant.listed)

pub returns-clause-lasting : goal.returns-clause-lasting
returns-clause-lasting c =
    let queues = c.self.inside.queues.items in
    let slots = c.self.inside.entries.slots in
    let view = ap (λ (v : ShelfValue). v.queues) c.self.view_is in
    subst HasNoExpirations view (lasting_seen slots queues c.self.invariant.listed)
