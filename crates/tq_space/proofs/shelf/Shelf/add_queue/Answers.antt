use Rattle.std.proofs.Common.{◌≡◌, ◌-◌, List, map, refl, sym, ap, ◌∙◌, subst, arith}
use Rattle.std.specs.List.{position_or_len, list_any}
use Rattle.tq_model.specs.Space.{name_before}
use Rattle.tq_model.specs.Moves.{queue_added, has_index}
use Rattle.tq_space.specs.declared.shelf.HeldQueue.{HeldQueue}
use Rattle.tq_space.specs.State.{ShelfValue}
use Rattle.tq_space.specs.Shelf.{indexed_at}
use Rattle.tq_model.proofs.Places.{position_or_len-within}
use Rattle.tq_space.proofs.Shelves.{added_listed, added_seen, room_added}
use Rattle.std.proofs.Common.{false}
use Rattle.tq_space.specs.Shelf.{IsListed}
use Rattle.tq_space.specs.Grown.{HasRoomIn}
use Rattle.tq_space.proofs.shelf.Shelf.add_queue.Goals as goal

pub put_queue-requires-clause-within : goal.put_queue-requires-clause-within
put_queue-requires-clause-within c =
    omega (arith, c.place_by_name-place.ensures, position_or_len-within (λ (q : HeldQueue). name_before c.args.def.now.name q.def.name) c.deref.result.now, c.deref.ensures.len)

pub invariant_of-self : goal.invariant_of-self
invariant_of-self c =
    let queues = c.self.inside.queues.items in
    let slots = c.self.inside.entries.slots in
    let index = c.args.index in
    let d = c.args.def.now in
    let place = c.place_by_name-place.result in
    let q : HeldQueue = record { index = index; def = d; keys = c.take_spare-keys.result } in
    let ready = ap (λ (v : ShelfValue). v.ready) c.self.view_is in
    let spare = c.take_spare-keys.ensures.taken c.self.inside.ready c.self.invariant.spare in
    let new : list_any (has_index index) (map (indexed_at slots) queues) ≡ false = ap (λ (v : ShelfValue). list_any (has_index index) v.queues) c.self.view_is ∙ c.requires.new in
    record {
      listed = subst (IsListed slots) (sym c.put_queue.ensures.items) (added_listed slots queues c.self.invariant.listed index d q place refl refl spare.empty new);
      entry_room = omega (arith, c.self.invariant.entry_room);
      key_room = subst (HasRoomIn (c.self.inside.ready - 1)) (sym c.put_queue.ensures.items)
          (room_added queues place c.self.inside.ready (c.self.inside.ready - 1) q (omega arith) c.self.invariant.key_room (omega (arith, spare.room)));
      queue_room = omega (arith, c.put_queue.ensures.len, c.put_queue.ensures.capacity, c.self.invariant.queue_room, c.requires.room, ready);
      spare = c.take_spare-keys.ensures.rest c.self.inside.ready c.self.invariant.spare;
    }

pub returns-clause-queues : goal.returns-clause-queues
returns-clause-queues c =
    let queues = c.self.inside.queues.items in
    let slots = c.self.inside.entries.slots in
    let index = c.args.index in
    let d = c.args.def.now in
    let place = c.place_by_name-place.result in
    let q : HeldQueue = record { index = index; def = d; keys = c.take_spare-keys.result } in
    let ready = ap (λ (v : ShelfValue). v.ready) c.self.view_is in
    let spare = c.take_spare-keys.ensures.taken c.self.inside.ready c.self.invariant.spare in
    let new : list_any (has_index index) (map (indexed_at slots) queues) ≡ false = ap (λ (v : ShelfValue). list_any (has_index index) v.queues) c.self.view_is ∙ c.requires.new in
    ap (λ (l : List HeldQueue). map (indexed_at slots) l) c.put_queue.ensures.items
    ∙ added_seen slots queues c.self.invariant.listed index d q place refl refl spare.empty new
    (c.place_by_name-place.ensures ∙ ap (position_or_len (λ (x : HeldQueue). name_before d.name x.def.name)) c.deref.ensures.value)
    ∙ ap (λ (v : ShelfValue). queue_added index d v.queues) c.self.view_is
