use Rattle.std.proofs.Common.{◌≡◌, take}
use Rattle.tq_extent.specs.Bytes.{owned_bytes, IsQuiet}
use Rattle.tq_store.specs.Filling.{HasFilled, HasRead}
use Rattle.tq_store.proofs.filling.fill.Given as goal

-- what stands for the slots so far
abbrev pub invariant-loop-slot : goal.invariant-loop-slot
invariant-loop-slot g l =
    let start = g.H.Host.view l.fn.host in
    let now = g.H.Host.view l.host in
    let done = take l.slot-index l.messages in
    record {
      filled : HasFilled l.place l.shape l.fn.map l.queues done l.space.held l.store;
      read : g.H.Host.tells.reads → HasRead l.place.site l.place.number l.shape done l.space.held l.store (owned_bytes l.fn.map (start.reads l.place.dev));
      quiet : IsQuiet l.place.dev start now;
      faults : now.faults ≡ start.faults;
    }
