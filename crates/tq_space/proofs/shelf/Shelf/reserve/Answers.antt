use Rattle.std.proofs.Common.{◌≡◌, List, map, sym, ap, ◌∙◌, subst, arith, Option}
use Rattle.std.specs.Prelude.{is_some}
use Rattle.std.specs.List.{count_by}
use Rattle.tq_types.specs.declared.messages.Entry.{Entry}
use Rattle.tq_space.specs.State.{ShelfValue}
use Rattle.tq_space.specs.Shelf.{indexed_at, IsListed}
use Rattle.tq_space.proofs.Shelves.{seen_grown, listed_grown, room_grown}
use Rattle.tq_space.proofs.shelf.Shelf.reserve.Goals as goal

pub invariant_of-self : goal.invariant_of-self
invariant_of-self c =
    let queues = c.self.inside.queues.items in
    let queues' = c.reserve_all.new.queues.items in
    let all = c.reserve_all.ensures in
    let listed : IsListed c.reserve_all.new.entries.slots queues = subst (λ (s : List (Option Entry)). IsListed s queues) (sym all.slots) c.self.invariant.listed in
    let same : count_by is_some c.reserve_all.new.entries.slots ≡ count_by is_some c.self.inside.entries.slots = ap (λ (s : List (Option Entry)). count_by is_some s) all.slots in
    record {
      listed = listed_grown queues queues' all.grown c.reserve_all.new.entries.slots listed;
      entry_room = omega (arith, same, all.capacity, c.self.invariant.entry_room);
      key_room = room_grown queues queues' all.grown c.self.inside.ready c.self.invariant.key_room;
      queue_room = omega (arith, all.len, all.queue_capacity, c.self.invariant.queue_room);
      spare = c.reserve_all.ensures.spare_kept c.self.inside.ready (omega arith) c.self.invariant.spare;
    }

pub returns-in_err-reserve_all-clause-queues : goal.returns-in_err-reserve_all-clause-queues
returns-in_err-reserve_all-clause-queues c =
    let queues = c.self.inside.queues.items in
    seen_grown queues c.reserve_all.new.queues.items c.reserve_all.ensures.grown c.reserve_all.new.entries.slots
    ∙ ap (λ (s : List (Option Entry)). map (indexed_at s) queues) c.reserve_all.ensures.slots
    ∙ ap (λ (v : ShelfValue). v.queues) c.self.view_is

pub invariant_of-self-2 : goal.invariant_of-self-2
invariant_of-self-2 c =
    let queues = c.self.inside.queues.items in
    let queues' = c.reserve_all.new.queues.items in
    let all = c.reserve_all.ensures in
    let listed : IsListed c.reserve_all.new.entries.slots queues = subst (λ (s : List (Option Entry)). IsListed s queues) (sym all.slots) c.self.invariant.listed in
    let ok = c.in_ok-reserve_all.ensures in
    record {
      listed = listed_grown queues queues' all.grown c.reserve_all.new.entries.slots listed;
      entry_room = ok.entry_room;
      key_room = ok.key_room;
      queue_room = ok.queue_room;
      spare = ok.spare_room c.self.inside.ready c.self.invariant.spare;
    }

pub returns-clause-queues : goal.returns-clause-queues
returns-clause-queues c =
    let queues = c.self.inside.queues.items in
    seen_grown queues c.reserve_all.new.queues.items c.reserve_all.ensures.grown c.reserve_all.new.entries.slots
    ∙ ap (λ (s : List (Option Entry)). map (indexed_at s) queues) c.reserve_all.ensures.slots
    ∙ ap (λ (v : ShelfValue). v.queues) c.self.view_is
