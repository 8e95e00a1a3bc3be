use Rattle.std.proofs.Common.{◌≡◌, ◌+◌, ◌≤◌, List, length, sym, ap, subst, arith}
use Rattle.tq_model.specs.Moves.{IndexedQueue, entry_view, entry_inserted, session_owners}
use Rattle.tq_model.specs.Room.{pages_of_entry, queue_pages, pages_at}
use Rattle.tq_space.specs.State.{SpaceState}
use Rattle.tq_space.specs.SpaceView.{held_of}
use Rattle.tq_space.specs.Plain.{CanInsert}
use Rattle.tq_space.proofs.Counts.{total, total_inserted, length_of, length_more, pages_more}
use Rattle.tq_space.proofs.space.Space.insert.Goals as goal

pub invariant_of-self : goal.invariant_of-self
invariant_of-self c =
    let qs = c.self.inside.shelf.queues in
    let messages : c.self.inside.messages ≡ total length_of qs = c.self.invariant.messages in
    let pages : c.self.inside.pages ≡ total queue_pages qs = c.self.invariant.pages in
    let entry = c.args.entry in
    let can : CanInsert entry (held_of c.self.inside) = subst (λ (s : SpaceState). CanInsert entry s.held) (sym c.self.view_is) c.requires.can in
    let more : total length_of (entry_inserted entry.queue (entry_view session_owners entry) qs) ≡ total length_of qs + 1 = total_inserted length_of 1 (entry_view session_owners entry) (length_more (entry_view session_owners entry)) entry.queue qs can.there in
    let wide : total queue_pages (entry_inserted entry.queue (entry_view session_owners entry) qs) ≡ total queue_pages qs + pages_at entry.message.qos (length entry.message.body) =
    total_inserted queue_pages (pages_of_entry (entry_view session_owners entry)) (entry_view session_owners entry) (pages_more (entry_view session_owners entry)) entry.queue qs can.there in
    let now_more : total length_of c.insert.new.self.queues ≡ total length_of (entry_inserted entry.queue (entry_view session_owners entry) qs) = ap (λ (l : List IndexedQueue). total length_of l) c.insert.ensures.queues in
    let now_wide : total queue_pages c.insert.new.self.queues ≡ total queue_pages (entry_inserted entry.queue (entry_view session_owners entry) qs) = ap (λ (l : List IndexedQueue). total queue_pages l) c.insert.ensures.queues in
    let new_messages : c.self.inside.messages + 1 ≡ total length_of c.insert.new.self.queues = omega (arith, messages, more, now_more) in
    let new_pages : c.self.inside.pages + c.entry_pages-pages.result ≡ total queue_pages c.insert.new.self.queues = omega (arith, pages, wide, now_wide, c.entry_pages-pages.ensures) in
    let fits : total length_of qs + 1 ≤ c.self.inside.limits.messages = can.messages in
    let fits' : total queue_pages qs + pages_at entry.message.qos (length entry.message.body) ≤ c.self.inside.limits.pages = can.pages in
    record {
      messages = new_messages;
      pages = new_pages;
      messages_most = omega (arith, fits, messages);
      pages_most = omega (arith, fits', pages, c.entry_pages-pages.ensures);
    }
